use Rattle.std.proofs.Common.{◌≡◌, take}
use Rattle.std.specs.Option.{option_copied}
use Rattle.fibril_core.specs.LiveFibrils.{first_from}
use Rattle.fibril_core.proofs.live_fibrils.first_among.Given as goal

-- the first of those that the loop saw
abbrev pub invariant-loop-fibril : goal.invariant-loop-fibril
invariant-loop-fibril l = option_copied l.first ≡ first_from l.status (option_copied l.best) (take l.fibril-index l.fibrils)
