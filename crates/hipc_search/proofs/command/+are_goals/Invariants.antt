use Rattle.std.proofs.Common.{length}
use Rattle.hipc_search.proofs.command.+are_goals.Given as goal

abbrev pub decreases-are_goals : goal.decreases-are_goals
decreases-are_goals l = length l.words.now
