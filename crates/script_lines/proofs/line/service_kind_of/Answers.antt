use Rattle.script_lines.specs.Line.{service_kind_of}
use Rattle.script_lines.proofs.line.service_kind_of.Goals as goal

pub returns : goal.returns
unfolding service_kind_of
returns c = c.look_up.ensures
