use Rattle.std.proofs.Common.{◌<◌, ◌++◌, ◌∙◌, ℕ, ap, subst}
use Rattle.state_words.specs.Words.{option_words}
use Rattle.state_words.proofs.Left.{left_words, one_more}
use Rattle.state_words.specs.AsyncWords.{exchange_number_words}
use Rattle.state_words.proofs.Places.{handle_there}
use Rattle.state_words.proofs.contexts.HandlesWorded.push_to.Goals as goal

pub loop-handle-preserved : goal.loop-handle-preserved
loop-handle-preserved c =
    let handles = c.args.self.now in
    let k = c.loop-handle.handle in
    one_more _ _ _ _ _ _ c.loop-handle.invariant
    (left_words (option_words exchange_number_words) handles k _
    (handle_there handles k (subst (λ (n : ℕ). k < n) c.count-count.ensures c.loop-handle-test.true)))
    (c.in_ok-push_to.ensures
    ∙ ap (λ z. c.loop-handle.out.items ++ option_words exchange_number_words z) c.get.ensures)
