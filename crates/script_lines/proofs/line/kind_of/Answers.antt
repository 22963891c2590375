use Rattle.script_lines.specs.Line.{kind_of}
use Rattle.script_lines.proofs.line.kind_of.Goals as goal

pub returns : goal.returns
unfolding kind_of
returns c = c.look_up.ensures
