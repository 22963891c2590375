use Rattle.script_lines.specs.Word.{verb_of}
use Rattle.script_lines.proofs.word.verb_in_table.Goals as goal

pub returns : goal.returns
unfolding verb_of
returns c = c.look_up.ensures
