use Rattle.std.proofs.Common.{ap}
use Rattle.call_slab.specs.Calls.{CallsState}
use Rattle.answerbox.specs.declared.chains.Chain.TheVariants.{Own}
use Rattle.answerbox.proofs.Moving.{small_task, row_of_call, between_by, live_unlinked}
use Rattle.answerbox.proofs.moves.disown.Goals as goal

pub row_of-row-requires : goal.row_of-row-requires
row_of-row-requires g c = record { few = small_task c.args.calls.now.slots c.args.queues.now c.requires.lists.stamp c.args.key c.get.result.now c.requires.lists.queued c.get.ensures.call c.requires.few }

pub unlink-requires : goal.unlink-requires
unlink-requires g c =
    let m = c.args.calls.now.slots in
    let own = row_of_call Own m c.args.key c.get.result.now c.row_of-row.result c.get.ensures.call c.row_of-row.ensures in
    record { between = between_by Own m c.args.owns.now.items c.requires.lists.number c.args.key c.row_of-row.result c.links-links.result c.requires.lists.listed c.requires.live own c.links-links.ensures.links }

pub clear_caller-requires : goal.clear_caller-requires
clear_caller-requires g c = record { live = live_unlinked Own c.args.calls.now.slots c.unlink.new.calls.slots c.row_of-row.result c.links-links.result c.args.key (ap (λ (a : CallsState). a.slots) c.unlink.ensures.calls) c.requires.live }
