use Rattle.std.proofs.Common.{ap}
use Rattle.call_slab.specs.Calls.{CallsState}
use Rattle.answerbox.specs.declared.chains.Chain.TheVariants.{Queue}
use Rattle.answerbox.proofs.Counted.{few_unlinked, between_within}
use Rattle.answerbox.proofs.Moving.{small_task, row_of_call, between_by, behind_by, live_unlinked}
use Rattle.answerbox.proofs.moves.relocate.Goals as goal

pub row_of-row-requires : goal.row_of-row-requires
row_of-row-requires g c = record { few = small_task c.args.calls.now.slots c.args.queues.now.items c.args.stamp c.args.key c.get.result.now c.requires.queued c.get.ensures.call c.requires.few }

pub unlink-requires : goal.unlink-requires
unlink-requires g c =
    let m = c.args.calls.now.slots in
    let row = row_of_call Queue m c.args.key c.get.result.now c.row_of-row.result c.get.ensures.call c.row_of-row.ensures in
    record { between = between_by Queue m c.args.queues.now.items c.args.stamp c.args.key c.row_of-row.result c.links-links.result c.requires.queued c.requires.live row c.links-links.ensures.links }

pub set_place-requires : goal.set_place-requires
set_place-requires g c = record { live = live_unlinked Queue c.args.calls.now.slots c.unlink.new.calls.slots c.row_of-row.result c.links-links.result c.args.key (ap (λ (a : CallsState). a.slots) c.unlink.ensures.calls) c.requires.live }

pub append-requires : goal.append-requires
append-requires g c =
    let m = c.args.calls.now.slots in
    let row = row_of_call Queue m c.args.key c.get.result.now c.row_of-row.result c.get.ensures.call c.row_of-row.ensures in
    record {
      behind = behind_by m c.args.queues.now.items c.args.stamp c.args.key c.index_of.result c.args.place c.row_of-row.result c.links-links.result c.unlink.new.calls.slots c.set_place.new.self.slots c.unlink.new.rows.items c.requires.queued c.requires.live c.requires.within
          row c.links-links.ensures.links c.index_of.ensures (ap (λ (a : CallsState). a.slots) c.unlink.ensures.calls) c.unlink.ensures.rows (ap (λ (a : CallsState). a.slots) c.set_place.ensures.calls);
      few =
          rw c.unlink.ensures.rows
          (few_unlinked Queue c.args.queues.now.items c.row_of-row.result c.links-links.result
          (between_within Queue m c.args.queues.now.items c.row_of-row.result c.links-links.result (between_by Queue m c.args.queues.now.items c.args.stamp c.args.key c.row_of-row.result c.links-links.result c.requires.queued c.requires.live row c.links-links.ensures.links))
          c.requires.counts c.index_of.result);
    }
