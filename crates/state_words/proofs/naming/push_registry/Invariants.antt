use Rattle.std.proofs.Common.{◌≡◌, ◌++◌, drop}
use Rattle.std.specs.List.{flat_map}
use Rattle.state_words.specs.Words.{list_words}
use Rattle.state_words.specs.ProgramWords.{entry_words}
use Rattle.state_words.proofs.naming.push_registry.Given as goal

-- what was written, and the words of what is left, are the whole
abbrev pub invariant-loop-place : goal.invariant-loop-place
invariant-loop-place l =
    l.out.items ++ flat_map entry_words (drop l.place l.registry.entries)
    ≡ l.fn.out.items ++ list_words entry_words l.registry.entries
