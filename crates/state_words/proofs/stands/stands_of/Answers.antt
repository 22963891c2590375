use Rattle.std.proofs.Common.{◌∙◌, ap, ◌++◌}
use Rattle.state_words.specs.Order.{found_stand}
use Rattle.state_words.proofs.Left.{left_stands, one_more}
use Rattle.state_words.proofs.stands.stands_of.Goals as goal

pub loop-n-preserved : goal.loop-n-preserved
loop-n-preserved c =
    one_more _ _ _ _ _ _ c.loop-n.invariant (left_stands c.args.boxes.now.calls c.loop-n.n _ c.loop-n-test.true) (c.in_ok-push_stand.ensures ∙ ap (λ z. c.loop-n.found.items ++ found_stand z) c.get.ensures.call)
