use Rattle.std.proofs.Common.{◌≡◌}
use Rattle.std.specs.List.{flat_map}
use Rattle.schedule_replay.specs.Generator.{below, wires_of}
use Rattle.schedule_replay.proofs.generator.wires.Given as goal

abbrev pub invariant-loop-k : goal.invariant-loop-k
invariant-loop-k l = l.wires ≡ flat_map wires_of (below l.k)
