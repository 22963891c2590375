use Rattle.std.proofs.Common.{◌≡◌, ◌∙◌, map, ap, sym, arith}
use Rattle.schedule_replay.proofs.GeneratedScript.{tasks_are}
use Rattle.schedule_replay.specs.Generator.{below, generated_task}
use Rattle.schedule_replay.proofs.generator.tasks.Goals as goal

pub returns : goal.returns
returns c =
    let all : c.loop-k.k ≡ 16 = omega arith in
    c.loop-k.invariant ∙ ap (λ k. map generated_task (below k)) all ∙ sym tasks_are
