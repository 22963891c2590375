use Rattle.std.proofs.Common.{List, ap, ◌∙◌}
use Rattle.answerbox.specs.declared.chains.Ends.{Ends}
use Rattle.answerbox.specs.declared.chains.Chain.TheVariants.{Queue}
use Rattle.answerbox.specs.Chain.{place_index, count_at}
use Rattle.answerbox.specs.Stored.{stands_in, calls_in}
use Rattle.answerbox.proofs.Counts.{count-len}
use Rattle.answerbox.proofs.Finding.{count_place}
use Rattle.answerbox.proofs.boxes.Boxes.calls_at.Goals as goal

pub returns-clause-calls : goal.returns-clause-calls
returns-clause-calls c = rw (← c.self.view_is) (c.count_place.ensures ∙ ap (λ (es : List Ends). count_at es (place_index c.args.place)) c.deref.ensures.value ∙ c.self.invariant.0.queue_counts (place_index c.args.place) ∙ count_place c.self.inside.calls c.args.place)

pub returns-clause-few : goal.returns-clause-few
returns-clause-few c = rw (← c.self.view_is, c.count_place.ensures, c.deref.ensures.value, c.self.invariant.0.queue_counts (place_index c.args.place)) (count-len (stands_in Queue (place_index c.args.place)) (calls_in c.self.inside.calls))
