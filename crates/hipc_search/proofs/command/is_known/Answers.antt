use Rattle.hipc_search.specs.Command.{is_known}
use Rattle.hipc_search.proofs.command.is_known.Goals as goal

pub returns : goal.returns
unfolding is_known
returns c = c.contains.ensures.value
