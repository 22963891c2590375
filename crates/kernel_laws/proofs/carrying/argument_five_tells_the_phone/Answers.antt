use Rattle.kernel_laws.proofs.ArgumentFive.{start_tells, serve_tells, kill_tells, spawn_tells}
use Rattle.kernel_laws.proofs.carrying.argument_five_tells_the_phone.Goals as goal

pub returns-clause-start : goal.returns-clause-start
returns-clause-start c = start_tells

pub returns-clause-serves : goal.returns-clause-serves
returns-clause-serves c = serve_tells

pub returns-clause-kills : goal.returns-clause-kills
returns-clause-kills c = kill_tells

pub returns-clause-spawns : goal.returns-clause-spawns
returns-clause-spawns c = spawn_tells
