use Rattle.std.proofs.Common.{◌≡◌, ◌++◌, drop}
use Rattle.std.specs.List.{flat_map}
use Rattle.run_words.specs.RunWords.{any_words}
use Rattle.run_words.proofs.run.push_programs.Given as goal

-- what was written, and the words of what the loop has left, are the whole
abbrev pub invariant-loop-program : goal.invariant-loop-program
invariant-loop-program l =
    l.out.items ++ flat_map any_words (drop l.program-index l.programs)
    ≡ l.fn.out.items ++ flat_map any_words l.programs
