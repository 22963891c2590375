use Rattle.run_words.proofs.RequestStamps.{serve_stamps, kill_stamps, spawn_stamps}
use Rattle.run_words.proofs.stamps.only_the_order_of_stamps_counts.Goals as goal

pub returns-clause-requests : goal.returns-clause-requests
returns-clause-requests c = serve_stamps

pub returns-clause-kills : goal.returns-clause-kills
returns-clause-kills c = kill_stamps

pub returns-clause-spawns : goal.returns-clause-spawns
returns-clause-spawns c = spawn_stamps
