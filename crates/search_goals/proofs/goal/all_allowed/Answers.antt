use Rattle.std.proofs.Common.{◌∙◌}
use Rattle.script_lines.specs.Text.{is_allowed}
use Rattle.search_goals.proofs.Cuts.{none_left}
use Rattle.search_goals.proofs.goal.all_allowed.Goals as goal

pub returns : goal.returns
returns c = c.is_empty.ensures ∙ none_left is_allowed c.args.text.now c.cut_at.result.1.now c.cut_at.ensures.behind
