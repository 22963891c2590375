use Rattle.script_lines.specs.Text.{lines}
use Rattle.script_lines.specs.ScriptParts.{parts_of}
use Rattle.script_reader.proofs.WholeScripts.{all_lines_fit}
use Rattle.script_reader.proofs.reading.read.Goals as goal

pub finish-requires-clause-fit : goal.finish-requires-clause-fit
finish-requires-clause-fit c = all_lines_fit (parts_of c.new-drafts.result) (parts_of c.add_lines.new.drafts) (lines c.args.bytes.now) c.new-drafts.ensures.nothing c.in-Ok.ensures.value
