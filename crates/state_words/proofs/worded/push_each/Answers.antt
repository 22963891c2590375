use Rattle.state_words.proofs.Left.{left_item, one_more}
use Rattle.state_words.proofs.worded.push_each.Goals as goal

pub loop-item-preserved : goal.loop-item-preserved
loop-item-preserved g c =
    one_more _ _ _ _ _ _ c.loop-item.invariant
    (left_item g.W.Worded.words c.args.items.now c.loop-item.item-index _ c.loop-item-test.true c.item-item.is)
    c.in_ok-push_to.ensures
