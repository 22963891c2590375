use Rattle.std.proofs.Common.{refl, length}
use Rattle.answerbox.specs.declared.chains.Chain.TheVariants.{Queue, Own}
use Rattle.answerbox.specs.Chain.{row_of}
use Rattle.answerbox.proofs.Counted.{few_row}
use Rattle.answerbox.proofs.Moving.{small_place, new_behind, new_behind_own}
use Rattle.answerbox.proofs.moves.admit.Goals as goal

pub new-steps-requires : goal.new-steps-requires
new-steps-requires g c = record { name = c.requires.blank.0; parts = c.requires.blank.1; some = c.requires.blank.2 }

pub row_of-row-requires : goal.row_of-row-requires
row_of-row-requires g c = record { few = small_place c.args.call.place (length c.args.queues.now.items) c.requires.may.within c.requires.few }

pub row_of-own-requires : goal.row_of-own-requires
row_of-own-requires g c = record { few = small_place c.args.call.place (length c.args.queues.now.items) c.requires.may.within c.requires.few }

pub put-key-requires : goal.put-key-requires
put-key-requires g c = record { room = c.requires.may.room; above = c.requires.may.above }

pub append-requires : goal.append-requires
append-requires g c =
    let may = c.requires.may in
    rw (c.put-key.ensures.slots, c.row_of-row.ensures)
    (record { behind = new_behind c.args.calls.now.slots c.args.queues.now.items c.args.owns.now.items c.args.call.stamp c.args.call.number.0 c.put-key.result c.args.call may.queued may.listed c.put-key.ensures.fresh refl refl may.within may.caller; few = few_row c.args.queues.now.items (row_of Queue c.args.call) may.counts })

pub append-requires-2 : goal.append-requires-2
append-requires-2 g c =
    let may = c.requires.may in
    rw (c.append.ensures.calls, c.put-key.ensures.slots, c.row_of-row.ensures, c.row_of-own.ensures)
    (record { behind = new_behind_own c.args.calls.now.slots c.args.queues.now.items c.args.owns.now.items c.args.call.stamp c.args.call.number.0 c.put-key.result c.args.call may.queued may.listed c.put-key.ensures.fresh refl refl may.within may.caller; few = few_row c.args.owns.now.items (row_of Own c.args.call) may.own_counts })
