use Rattle.std.proofs.Common.{◌≡◌, take}
use Rattle.address_space.specs.Areas.{least_base}
use Rattle.address_space.proofs.areas.least_of.Given as goal

-- the least base so far
abbrev pub invariant-loop-area : goal.invariant-loop-area
invariant-loop-area l = l.least ≡ least_base (take l.area-index l.areas)
