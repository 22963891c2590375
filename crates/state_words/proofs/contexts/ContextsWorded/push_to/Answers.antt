use Rattle.std.proofs.Common.{◌<◌, ◌++◌, ◌∙◌, ℕ, ap, subst}
use Rattle.state_words.specs.Words.{option_words}
use Rattle.state_words.proofs.Left.{left_words, one_more}
use Rattle.state_words.specs.AsyncWords.{context_words}
use Rattle.state_words.proofs.Places.{kept_there}
use Rattle.state_words.proofs.contexts.ContextsWorded.push_to.Goals as goal

pub loop-place-preserved : goal.loop-place-preserved
loop-place-preserved c =
    let kept = c.args.self.now.kept in
    let k = c.loop-place.place in
    one_more _ _ _ _ _ _ c.loop-place.invariant
    (left_words (option_words context_words) kept k _
    (kept_there kept k (subst (λ (n : ℕ). k < n) c.made-made.ensures c.loop-place-test.true)))
    (c.in_ok-push_kept.ensures
    ∙ ap (λ z. c.loop-place.out.items ++ option_words context_words z) c.get.ensures)
