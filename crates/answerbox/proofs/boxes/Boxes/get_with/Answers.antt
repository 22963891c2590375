use Rattle.std.proofs.Common.{sym, ap, ◌∙◌}
use Rattle.answerbox.specs.Chain.{cores}
use Rattle.answerbox.proofs.Names.{look, under}
use Rattle.answerbox.proofs.Keeping.{call_is}
use Rattle.answerbox.proofs.boxes.Boxes.get_with.Goals as goal

pub returns-in-Some-clause-call : goal.returns-in-Some-clause-call
returns-in-Some-clause-call g c = rw (← c.self.view_is) (sym (call_is c.self.inside.calls c.args.call.0 c.in-Some.key c.get.result.now c.self.invariant.0.named (sym c.in-Some.ensures.key) c.get.ensures.call))

pub returns-clause-call : goal.returns-clause-call
returns-clause-call g c = rw (← c.self.view_is) (sym (look c.self.inside.calls c.args.call.0 c.self.invariant.0.named ∙ ap (under (cores c.self.inside.calls.slots)) (sym c.in-None.ensures.key)))
