use Rattle.answerbox.proofs.Keeping.{next_free, few_calls}
use Rattle.answerbox.proofs.boxes.Boxes.next_number.Goals as goal

pub returns-clause-free : goal.returns-clause-free
returns-clause-free c = rw (← c.self.view_is) (next_free c.self.inside.calls c.self.inside.queues.items c.self.inside.owns.items c.self.inside.next_number c.self.inside.next_stamp c.self.invariant.0)

pub returns-clause-few : goal.returns-clause-few
returns-clause-few c = rw (← c.self.view_is) (few_calls c.self.inside.calls c.self.inside.queues.items c.self.inside.owns.items c.self.inside.next_number c.self.inside.next_stamp c.self.invariant.0)
