use Rattle.std.proofs.Common.{◌≡◌, take}
use Rattle.raw_program.proofs.operations.Operations.copy_of.Given as goal

abbrev pub invariant-loop-op : goal.invariant-loop-op
invariant-loop-op l = l.copies ≡ take l.op-index l.ops
