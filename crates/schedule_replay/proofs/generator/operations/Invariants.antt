use Rattle.std.proofs.Common.{◌≡◌, map}
use Rattle.schedule_replay.specs.Generator.{below, call_over}
use Rattle.schedule_replay.proofs.generator.operations.Given as goal

abbrev pub invariant-loop-phone : goal.invariant-loop-phone
invariant-loop-phone l = l.ops ≡ map call_over (below l.phone)
