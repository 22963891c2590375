use Rattle.program_examples.proofs.ScriptArguments.{script_gives_five}
use Rattle.run_determined.proofs.AskedMessages.{tasks_ask_with_five}
use Rattle.run_determined.proofs.laws.tasks_ask_with_five_arguments.Goals as goal

pub returns-clause-scripts : goal.returns-clause-scripts
returns-clause-scripts c = λ text plan events spells.
    tasks_ask_with_five plan events (script_gives_five text plan spells)

pub returns-clause-plans : goal.returns-clause-plans
returns-clause-plans c = tasks_ask_with_five
