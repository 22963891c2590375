use Rattle.std.proofs.Common.{sym, ap, ◌∙◌}
use Rattle.answerbox.specs.Chain.{cores}
use Rattle.answerbox.proofs.Names.{look, key_lives, under}
use Rattle.answerbox.proofs.boxes.Boxes.find_with.Goals as goal

pub returns-clause-none : goal.returns-clause-none
returns-clause-none g c = rw (← c.self.view_is) (look c.self.inside.calls c.args.call.0 c.self.invariant.0.named ∙ ap (under (cores c.self.inside.calls.slots)) (sym c.in-None.ensures.key))

pub returns-in-Some-clause-live : goal.returns-in-Some-clause-live
returns-in-Some-clause-live g c = rw (← c.self.view_is) (key_lives c.self.inside.calls c.args.call.0 c.in-Some.key c.self.invariant.0.named (sym c.in-Some.ensures.key))
