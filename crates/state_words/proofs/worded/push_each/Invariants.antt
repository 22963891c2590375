use Rattle.std.proofs.Common.{◌≡◌, ◌++◌, drop}
use Rattle.std.specs.List.{flat_map}
use Rattle.state_words.proofs.worded.push_each.Given as goal

-- what was written, and the words of what is left, are the whole
abbrev pub invariant-loop-item : goal.invariant-loop-item
invariant-loop-item g l =
    l.out.items ++ flat_map g.W.Worded.words (drop l.item-index l.items)
    ≡ l.fn.out.items ++ flat_map g.W.Worded.words l.items
