use Rattle.script_lines.specs.Line.{counted_kind_of}
use Rattle.script_lines.proofs.line.counted_kind_of.Goals as goal

pub returns : goal.returns
unfolding counted_kind_of
returns c = c.look_up.ensures
