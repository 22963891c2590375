use Rattle.std.proofs.Common.{sym, ap, ◌∙◌}
use Rattle.std.specs.FinMap.{get, remove}
use Rattle.call_slab.specs.Calls.{CallsState, name_of}
use Rattle.answerbox.specs.declared.chains.Chain.TheVariants.{Queue, Own}
use Rattle.answerbox.proofs.Moving.{small_task, row_of_call, between_by, between_both, live_unlinked, both_call, both_name}
use Rattle.answerbox.proofs.moves.dismiss.Goals as goal

pub row_of-row-requires : goal.row_of-row-requires
row_of-row-requires g c = record { few = small_task c.args.calls.now.slots c.args.queues.now.items c.requires.lists.stamp c.args.key c.get-call.result.now c.requires.lists.queued c.get-call.ensures.call c.requires.few }

pub row_of-own-requires : goal.row_of-own-requires
row_of-own-requires g c = record { few = small_task c.args.calls.now.slots c.args.queues.now.items c.requires.lists.stamp c.args.key c.get-call.result.now c.requires.lists.queued c.get-call.ensures.call c.requires.few }

pub unlink-requires : goal.unlink-requires
unlink-requires g c =
    let m = c.args.calls.now.slots in
    let row = row_of_call Queue m c.args.key c.get-call.result.now c.row_of-row.result c.get-call.ensures.call c.row_of-row.ensures in
    record { between = between_by Queue m c.args.queues.now.items c.requires.lists.stamp c.args.key c.row_of-row.result c.links-links.result c.requires.lists.queued c.requires.live row c.links-links.ensures.links }

pub unlink-requires-2 : goal.unlink-requires-2
unlink-requires-2 g c =
    let m = c.args.calls.now.slots in
    let row = row_of_call Queue m c.args.key c.get-call.result.now c.row_of-row.result c.get-call.ensures.call c.row_of-row.ensures in
    let own = row_of_call Own m c.args.key c.get-call.result.now c.row_of-own.result c.get-call.ensures.call c.row_of-own.ensures in
    let e1 = ap (λ (a : CallsState). a.slots) c.unlink.ensures.calls in
    record { between = between_both m c.args.queues.now.items c.args.owns.now.items c.requires.lists.stamp c.requires.lists.number c.args.key c.row_of-row.result c.row_of-own.result c.links-links.result c.unlink.new.calls.slots c.requires.lists.queued c.requires.lists.listed c.requires.live row own c.links-links.ensures.links e1 }

pub take_out-requires : goal.take_out-requires
take_out-requires g c =
    let m = c.args.calls.now.slots in
    let row = row_of_call Queue m c.args.key c.get-call.result.now c.row_of-row.result c.get-call.ensures.call c.row_of-row.ensures in
    let own = row_of_call Own m c.args.key c.get-call.result.now c.row_of-own.result c.get-call.ensures.call c.row_of-own.ensures in
    let e1 = ap (λ (a : CallsState). a.slots) c.unlink.ensures.calls in
    let e2 = ap (λ (a : CallsState). a.slots) c.unlink-2.ensures.calls in
    record { live = live_unlinked Own c.unlink.new.calls.slots c.unlink-2.new.calls.slots c.row_of-own.result c.links-links.result c.args.key e2 (live_unlinked Queue m c.unlink.new.calls.slots c.row_of-row.result c.links-links.result c.args.key e1 c.requires.live) }

pub returns-clause-call : goal.returns-clause-call
returns-clause-call g c =
    let m = c.args.calls.now.slots in
    let row = row_of_call Queue m c.args.key c.get-call.result.now c.row_of-row.result c.get-call.ensures.call c.row_of-row.ensures in
    let own = row_of_call Own m c.args.key c.get-call.result.now c.row_of-own.result c.get-call.ensures.call c.row_of-own.ensures in
    let e1 = ap (λ (a : CallsState). a.slots) c.unlink.ensures.calls in
    let e2 = ap (λ (a : CallsState). a.slots) c.unlink-2.ensures.calls in
    sym (both_call m c.args.key c.row_of-row.result c.row_of-own.result c.links-links.result c.unlink.new.calls.slots c.unlink-2.new.calls.slots e1 e2) ∙ c.take_out.ensures.call

pub returns-clause-keys : goal.returns-clause-keys
returns-clause-keys g c =
    let m = c.args.calls.now.slots in
    let row = row_of_call Queue m c.args.key c.get-call.result.now c.row_of-row.result c.get-call.ensures.call c.row_of-row.ensures in
    let own = row_of_call Own m c.args.key c.get-call.result.now c.row_of-own.result c.get-call.ensures.call c.row_of-own.ensures in
    let e1 = ap (λ (a : CallsState). a.slots) c.unlink.ensures.calls in
    let e2 = ap (λ (a : CallsState). a.slots) c.unlink-2.ensures.calls in
    let k1 = ap (λ (a : CallsState). a.keys) c.unlink.ensures.calls in
    let k2 = ap (λ (a : CallsState). a.keys) c.unlink-2.ensures.calls in
    c.take_out.ensures.keys ∙ ap (remove c.unlink-2.new.calls.keys) (both_name m c.args.key c.row_of-row.result c.row_of-own.result c.links-links.result c.unlink.new.calls.slots c.unlink-2.new.calls.slots e1 e2)
    ∙ ap (λ keys. remove keys (name_of (get m c.args.key))) (k2 ∙ k1)
