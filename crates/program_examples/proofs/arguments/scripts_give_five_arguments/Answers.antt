use Rattle.program_examples.proofs.ScriptArguments.{script_gives_five}
use Rattle.program_examples.proofs.arguments.scripts_give_five_arguments.Goals as goal

pub returns : goal.returns
returns c = script_gives_five
