use Rattle.std.proofs.Common.{◌≡◌, ◌++◌, map}
use Rattle.schedule_replay.specs.Generator.{below, generated_wire}
use Rattle.schedule_replay.proofs.generator.add_wires.Given as goal

abbrev pub invariant-loop-phone : goal.invariant-loop-phone
invariant-loop-phone l = l.wires ≡ l.initial.wires ++ map (generated_wire l.k) (below l.phone)
