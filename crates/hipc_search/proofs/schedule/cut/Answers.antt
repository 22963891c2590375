use Rattle.std.proofs.Common.{sym}
use Rattle.std.proofs.lemmas.List.{take_all}
use Rattle.hipc_search.proofs.schedule.cut.Goals as goal

pub returns-then-goal-le-MOST_GOAL : goal.returns-then-goal-le-MOST_GOAL
returns-then-goal-le-MOST_GOAL c = sym (take_all 1024 c.args.goal.now c.if-goal-le-MOST_GOAL.true)
