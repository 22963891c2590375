use Rattle.run_determined.proofs.TurnRuns.{run_is_in_turn, nothing_before_its_spawn}
use Rattle.run_determined.proofs.laws.tasks_come_in_turn.Goals as goal

pub returns-clause-turns : goal.returns-clause-turns
returns-clause-turns c = run_is_in_turn

pub returns-clause-nothing_before : goal.returns-clause-nothing_before
returns-clause-nothing_before c = nothing_before_its_spawn
