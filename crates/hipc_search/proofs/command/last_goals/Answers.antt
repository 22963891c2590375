use Rattle.std.proofs.Common.{sym, ◌∙◌}
use Rattle.command_line.specs.Command.{texts}
use Rattle.hipc_search.proofs.Behind.{with_goals}
use Rattle.hipc_search.proofs.command.last_goals.Goals as goal

pub returns-then-are_goals : goal.returns-then-are_goals
returns-then-are_goals c = with_goals (texts c.args.words.now) (sym c.are_goals.ensures ∙ c.if-are_goals.true)
