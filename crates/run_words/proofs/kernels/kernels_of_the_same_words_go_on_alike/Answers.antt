use Rattle.run_words.proofs.KernelGoingOn.{requests, kills, spawns}
use Rattle.run_words.proofs.kernels.kernels_of_the_same_words_go_on_alike.Goals as goal

pub returns-clause-requests : goal.returns-clause-requests
returns-clause-requests c = requests

pub returns-clause-kills : goal.returns-clause-kills
returns-clause-kills c = kills

pub returns-clause-spawns : goal.returns-clause-spawns
returns-clause-spawns c = spawns
