use Rattle.std.proofs.Common.{◌≡◌, ◌∙◌, ap, sym, arith}
use Rattle.std.specs.List.{flat_map}
use Rattle.schedule_replay.proofs.GeneratedScript.{wires_by_task}
use Rattle.schedule_replay.specs.Generator.{below, wires_of}
use Rattle.schedule_replay.proofs.generator.wires.Goals as goal

pub returns : goal.returns
returns c =
    let all : c.loop-k.k ≡ 16 = omega arith in
    c.loop-k.invariant ∙ ap (λ k. flat_map wires_of (below k)) all ∙ sym wires_by_task
