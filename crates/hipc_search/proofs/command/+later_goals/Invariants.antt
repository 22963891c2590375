use Rattle.std.proofs.Common.{length}
use Rattle.hipc_search.proofs.command.+later_goals.Given as goal

abbrev pub decreases-later_goals : goal.decreases-later_goals
decreases-later_goals l = length l.words.now
