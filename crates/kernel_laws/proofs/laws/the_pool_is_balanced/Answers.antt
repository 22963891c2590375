use Rattle.kernel_laws.proofs.FullPool.{call_is_full, serve_is_within, kill_is_within, spawn_keeps}
use Rattle.kernel_laws.proofs.KilledPool.{kill_gives_back}
use Rattle.kernel_laws.proofs.ServedPool.{serve_balances}
use Rattle.kernel_laws.proofs.laws.the_pool_is_balanced.Goals as goal

pub returns-clause-serves_within : goal.returns-clause-serves_within
returns-clause-serves_within c = serve_is_within

pub returns-clause-kills_within : goal.returns-clause-kills_within
returns-clause-kills_within c = kill_is_within

pub returns-clause-full : goal.returns-clause-full
returns-clause-full c = call_is_full

pub returns-clause-serves : goal.returns-clause-serves
returns-clause-serves c = serve_balances

pub returns-clause-kills : goal.returns-clause-kills
returns-clause-kills c = kill_gives_back

pub returns-clause-spawns : goal.returns-clause-spawns
returns-clause-spawns c = spawn_keeps
