use Rattle.std.proofs.Common.{◌≡◌, take}
use Rattle.std.specs.Option.{option_copied}
use Rattle.async_sessions.specs.Sessions.{first_idle}
use Rattle.async_sessions.proofs.finding.first_idle.Given as goal

-- the first of those that the loop saw
abbrev pub invariant-loop-x : goal.invariant-loop-x
invariant-loop-x l = option_copied l.first ≡ first_idle l.s (take l.x-index l.exchanges)
