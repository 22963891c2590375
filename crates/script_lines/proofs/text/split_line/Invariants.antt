use Rattle.std.proofs.Common.{length}
use Rattle.script_lines.proofs.Lines.{IsAt}
use Rattle.script_lines.proofs.text.split_line.Given as goal

abbrev pub invariant-loop-rest : goal.invariant-loop-rest
invariant-loop-rest l = IsAt l.list.items l.rest l.text

abbrev pub decreases-loop-rest : goal.decreases-loop-rest
decreases-loop-rest l = length l.rest
