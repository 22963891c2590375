use Rattle.answerbox.proofs.Keeping.{grown_keeps, pushed_keeps}
use Rattle.answerbox.proofs.boxes.Boxes.add_task.Goals as goal

pub invariant_of-self : goal.invariant_of-self
invariant_of-self c =
    (grown_keeps c.self.inside.calls c.self.inside.queues.items c.open_rows.new.queues.items c.self.inside.owns.items c.open_rows.new.owns.items c.self.inside.next_number c.self.inside.next_stamp c.self.invariant.0 c.open_rows.ensures.rows, c.self.invariant.1, c.self.invariant.2)

pub invariant_of-self-2 : goal.invariant_of-self-2
invariant_of-self-2 c = (
  pushed_keeps c.push_rows.result c.self.inside.calls c.open_rows.new.queues.items c.push_rows.new.queues.items c.open_rows.new.owns.items c.push_rows.new.owns.items c.self.inside.next_number c.self.inside.next_stamp (grown_keeps c.self.inside.calls c.self.inside.queues.items c.open_rows.new.queues.items c.self.inside.owns.items c.open_rows.new.owns.items c.self.inside.next_number c.self.inside.next_stamp c.self.invariant.0 c.open_rows.ensures.rows)
      c.push_rows.ensures.queues c.push_rows.ensures.owns c.push_rows.ensures.queues_same c.push_rows.ensures.owns_same,
  c.self.invariant.1,
  c.self.invariant.2,
)
