use Rattle.script_reader.proofs.FirstLines.{stands_before_its_first_line}
use Rattle.script_reader.proofs.laws.the_service_is_the_first_line.Goals as goal

pub returns : goal.returns
returns c = stands_before_its_first_line
