use Rattle.std.proofs.Common.{◌≡◌, ◌++◌, drop}
use Rattle.std.specs.List.{flat_map}
use Rattle.state_words.specs.Words.{list_words}
use Rattle.state_words.specs.AsyncWords.{fibril_words}
use Rattle.state_words.proofs.fibrils.push_all_fibrils.Given as goal

-- what was written, and the words of what the loop has left, are the whole
abbrev pub invariant-loop-place : goal.invariant-loop-place
invariant-loop-place l =
    l.out.items ++ flat_map fibril_words (drop l.place l.fibrils.order.fibrils)
    ≡ l.fn.out.items ++ list_words fibril_words l.fibrils.order.fibrils
