use Rattle.run_words.proofs.RequestCounts.{serve_counts, kill_counts, spawn_counts}
use Rattle.run_words.proofs.counts.the_event_count_changes_nothing.Goals as goal

pub returns-clause-requests : goal.returns-clause-requests
returns-clause-requests c = serve_counts

pub returns-clause-kills : goal.returns-clause-kills
returns-clause-kills c = kill_counts

pub returns-clause-spawns : goal.returns-clause-spawns
returns-clause-spawns c = spawn_counts
