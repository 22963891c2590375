use Rattle.std.proofs.Common.{◌≡◌, take}
use Rattle.script_reader.proofs.copying.copy_bodies.Given as goal

abbrev pub invariant-loop-body : goal.invariant-loop-body
invariant-loop-body l = l.copies ≡ take l.body-index l.bodies
