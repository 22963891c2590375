use Rattle.std.proofs.Common.{◌≡◌, ◌++◌, drop}
use Rattle.std.specs.List.{flat_map}
use Rattle.state_words.specs.Words.{option_words, list_words}
use Rattle.state_words.specs.AsyncWords.{context_words}
use Rattle.state_words.proofs.contexts.ContextsWorded.push_to.Given as goal

-- what was written, and the words of what the loop has left, are the whole
abbrev pub invariant-loop-place : goal.invariant-loop-place
invariant-loop-place l =
    l.out.items ++ flat_map (option_words context_words) (drop l.place l.self.kept)
    ≡ l.fn.out.items ++ list_words (option_words context_words) l.self.kept
