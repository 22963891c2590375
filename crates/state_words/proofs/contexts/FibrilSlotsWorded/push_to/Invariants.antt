use Rattle.std.proofs.Common.{◌≡◌, ◌++◌, drop}
use Rattle.std.specs.List.{flat_map}
use Rattle.state_words.specs.Words.{list_words}
use Rattle.state_words.specs.AsyncWords.{slot_words}
use Rattle.state_words.proofs.contexts.FibrilSlotsWorded.push_to.Given as goal

-- what was written, and the words of what the loop has left, are the whole
abbrev pub invariant-loop-slot : goal.invariant-loop-slot
invariant-loop-slot l =
    l.out.items ++ flat_map slot_words (drop l.slot l.self)
    ≡ l.fn.out.items ++ list_words slot_words l.self
