use Rattle.std.proofs.Common.{Some, sym, arith}
use Rattle.script_lines.proofs.Lines.{less_left}
use Rattle.script_lines.proofs.LastLines.{front_is}
use Rattle.script_lines.proofs.line.line_to_keep.Goals as goal

pub slice_bounds-result-count : goal.slice_bounds-result-count
slice_bounds-result-count c = omega (arith, less_left c.args.text.now (Some c.in-Some.others.now) (rw c.in-Some.is at c.requires))

pub returns-in-Some : goal.returns-in-Some
returns-in-Some c = (c.if-is_op.true, front_is c.args.text.now c.in-Some.others.now (sym (rw c.in-Some.is at c.requires)))
