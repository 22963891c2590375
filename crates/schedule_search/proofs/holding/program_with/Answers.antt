use Rattle.std.proofs.Common.{◌∙◌, List, slice_get, ap, arith}
use Rattle.task_system.specs.declared.any.AnyProgram.{AnyProgram}
use Rattle.schedule_search.proofs.Copied.{copied_at, no_task, task_there}
use Rattle.schedule_search.proofs.holding.program_with.Goals as goal

pub returns-then-task-eq0 : goal.returns-then-task-eq0
returns-then-task-eq0 c = no_task c.args.system.now c.args.task c.if-task-eq0.true

pub returns : goal.returns
returns c =
    let some = c.if-task-eq0.false in
    copied_at c.programs.result.now c.saturating_sub.result c.get.result c.get.ensures.lookup.0 c.get.ensures.lookup.1
    ∙ ap (λ (z : List AnyProgram). slice_get z c.saturating_sub.result) c.programs.ensures
    ∙ ap (slice_get c.args.system.now.programs) c.saturating_sub.ensures
    ∙ task_there c.args.system.now c.args.task (omega (arith, some))
