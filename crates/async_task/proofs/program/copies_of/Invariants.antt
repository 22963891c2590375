use Rattle.std.proofs.Common.{◌≡◌, take}
use Rattle.async_task.proofs.program.copies_of.Given as goal

abbrev pub invariant-loop-body : goal.invariant-loop-body
invariant-loop-body l = l.copies ≡ take l.body-index l.bodies
