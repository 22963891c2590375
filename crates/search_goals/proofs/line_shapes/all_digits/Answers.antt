use Rattle.std.proofs.Common.{◌∙◌}
use Rattle.std.specs.Char.{is_ascii_digit}
use Rattle.search_goals.proofs.Cuts.{none_left}
use Rattle.search_goals.proofs.line_shapes.all_digits.Goals as goal

pub returns : goal.returns
returns c = c.is_empty.ensures ∙ none_left is_ascii_digit c.args.word.now c.cut_at.result.1.now c.cut_at.ensures.behind
