use Rattle.std.proofs.Common.{◌≡◌, take}
use Rattle.script_reader.proofs.copying.copy_ops.Given as goal

abbrev pub invariant-loop-op : goal.invariant-loop-op
invariant-loop-op l = l.copies ≡ take l.op-index l.ops
