use Rattle.std.proofs.Common.{◌∙◌}
use Rattle.hipc_search.proofs.Behind.{later_left}
use Rattle.hipc_search.proofs.command.+later_goals.Goals as goal

pub returns-in-None : goal.returns-in-None
returns-in-None n c = c.last_goals-in-None.ensures ∙ later_left c.args.words.now c.in-None.ensures.none
