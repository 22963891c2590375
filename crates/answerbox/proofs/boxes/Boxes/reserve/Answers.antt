use Rattle.std.proofs.Common.{sym, ap, ◌∙◌}
use Rattle.answerbox.proofs.Keeping.{grown_keeps, room_keeps}
use Rattle.std.specs.Ordering.{nat_cmp}
use Rattle.std.specs.FinMap.{FinMap, entries}
use Rattle.call_slab.specs.declared.call.Call.{Call}
use Rattle.answerbox.specs.Calls.{sum_of, bytes_in}
use Rattle.answerbox.proofs.Used.{same_calls}
use Rattle.answerbox.proofs.boxes.Boxes.reserve.Goals as goal

pub invariant_of-self : goal.invariant_of-self
invariant_of-self c =
    (grown_keeps c.self.inside.calls c.self.inside.queues.items c.open_rows.new.queues.items c.self.inside.owns.items c.open_rows.new.owns.items c.self.inside.next_number c.self.inside.next_stamp c.self.invariant.0 c.open_rows.ensures.rows, c.self.invariant.1, c.self.invariant.2)

pub invariant_of-self-2 : goal.invariant_of-self-2
invariant_of-self-2 c =
    (room_keeps c.self.inside.calls c.reserve.new.self c.open_rows.new.queues.items c.open_rows.new.owns.items c.self.inside.next_number c.self.inside.next_stamp (grown_keeps c.self.inside.calls c.self.inside.queues.items c.open_rows.new.queues.items c.self.inside.owns.items c.open_rows.new.owns.items c.self.inside.next_number c.self.inside.next_stamp c.self.invariant.0 c.open_rows.ensures.rows) c.reserve.ensures.slots c.reserve.ensures.keys c.reserve.ensures.last, c.self.invariant.1 ∙ ap (λ (m : FinMap nat_cmp Call). sum_of bytes_in (entries m)) (sym (same_calls c.self.inside.calls c.reserve.new.self c.reserve.ensures.slots c.reserve.ensures.keys)), c.self.invariant.2)
