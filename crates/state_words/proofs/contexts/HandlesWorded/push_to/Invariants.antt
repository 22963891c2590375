use Rattle.std.proofs.Common.{◌≡◌, ◌++◌, drop}
use Rattle.std.specs.List.{flat_map}
use Rattle.state_words.specs.Words.{option_words, list_words}
use Rattle.state_words.specs.AsyncWords.{exchange_number_words}
use Rattle.state_words.proofs.contexts.HandlesWorded.push_to.Given as goal

-- what was written, and the words of what the loop has left, are the whole
abbrev pub invariant-loop-handle : goal.invariant-loop-handle
invariant-loop-handle l =
    l.out.items ++ flat_map (option_words exchange_number_words) (drop l.handle l.self)
    ≡ l.fn.out.items ++ list_words (option_words exchange_number_words) l.self
