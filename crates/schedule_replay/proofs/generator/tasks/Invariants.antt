use Rattle.std.proofs.Common.{◌≡◌, map}
use Rattle.schedule_replay.specs.Generator.{below, generated_task}
use Rattle.schedule_replay.proofs.generator.tasks.Given as goal

abbrev pub invariant-loop-k : goal.invariant-loop-k
invariant-loop-k l = l.tasks ≡ map generated_task (below l.k)
