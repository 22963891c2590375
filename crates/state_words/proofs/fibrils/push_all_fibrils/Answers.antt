use Rattle.std.proofs.Common.{◌++◌, ◌∙◌, ap}
use Rattle.state_words.specs.Words.{at_words}
use Rattle.state_words.proofs.Left.{left_at, one_more}
use Rattle.state_words.specs.AsyncWords.{fibril_words}
use Rattle.state_words.proofs.Places.{fibril_there}
use Rattle.state_words.proofs.fibrils.push_all_fibrils.Goals as goal

pub loop-place-preserved : goal.loop-place-preserved
loop-place-preserved c =
    let o = c.args.fibrils.now.order in
    one_more _ _ _ _ _ _ c.loop-place.invariant (left_at fibril_words o.fibrils c.loop-place.place)
    (c.in_ok-push_fibril_at.ensures
    ∙ ap (λ z. c.loop-place.out.items ++ at_words fibril_words z) (fibril_there o c.loop-place.place))
