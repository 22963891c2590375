use Rattle.std.proofs.Common.{arith}
use Rattle.async_task.proofs.Bounds.{step_within}
use Rattle.async_task.proofs.program.AsyncProgramProgram.take.Goals as goal

pub invariant_of-self-2 : goal.invariant_of-self-2
invariant_of-self-2 c =
    rw (c.in_ok-step.ensures.ok.state)
    (step_within c.self.inside.machine.state c.args.got.now c.self.inside.taken c.self.invariant
    (grind (arith, c.requires.few, c.self.view_is)))
