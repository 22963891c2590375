use Rattle.script_lines.specs.Word.{exchange_mode_of}
use Rattle.script_lines.proofs.word.exchange_mode_of.Goals as goal

pub returns : goal.returns
unfolding exchange_mode_of
returns c = c.look_up.ensures
