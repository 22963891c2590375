use Rattle.hipc_search.proofs.Behind.{value_none}
use Rattle.hipc_search.proofs.command.+value_of.Goals as goal

pub returns-in-None : goal.returns-in-None
returns-in-None n c = value_none c.args.name.now c.args.words.now c.in-None.ensures.none
