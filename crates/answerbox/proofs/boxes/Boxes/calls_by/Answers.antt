use Rattle.std.proofs.Common.{List, ap, ◌∙◌}
use Rattle.answerbox.specs.declared.chains.Ends.{Ends}
use Rattle.answerbox.specs.declared.chains.Chain.TheVariants.{Own}
use Rattle.answerbox.specs.Chain.{count_at}
use Rattle.answerbox.specs.Stored.{stands_in, calls_in}
use Rattle.answerbox.proofs.Counts.{count-len}
use Rattle.answerbox.proofs.Finding.{count_caller}
use Rattle.answerbox.proofs.boxes.Boxes.calls_by.Goals as goal

pub returns-clause-calls : goal.returns-clause-calls
returns-clause-calls c = rw (← c.self.view_is) (c.count_in.ensures ∙ ap (λ (es : List Ends). count_at es c.args.caller.0) c.deref.ensures.value ∙ c.self.invariant.0.own_counts c.args.caller.0 ∙ count_caller c.self.inside.calls c.args.caller)

pub returns-clause-few : goal.returns-clause-few
returns-clause-few c = rw (← c.self.view_is, c.count_in.ensures, c.deref.ensures.value, c.self.invariant.0.own_counts c.args.caller.0) (count-len (stands_in Own c.args.caller.0) (calls_in c.self.inside.calls))
