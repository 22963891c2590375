use Rattle.script_lines.specs.Word.{mode_of}
use Rattle.script_lines.proofs.word.mode_of.Goals as goal

pub returns : goal.returns
unfolding mode_of
returns c = c.look_up.ensures
