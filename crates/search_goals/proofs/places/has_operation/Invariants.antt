use Rattle.std.proofs.Common.{◌≡◌, drop}
use Rattle.search_goals.specs.Places.{has_operation}
use Rattle.search_goals.proofs.places.has_operation.Given as goal

-- the bodies that are left decide
abbrev pub invariant-loop-body : goal.invariant-loop-body
invariant-loop-body l = has_operation (drop l.body-index l.bodies) l.place ≡ has_operation l.bodies l.place
