use Rattle.std.proofs.Common.{sym, subst, ◌++◌, ◌∙◌, ap}
use Rattle.switchboard.specs.State.{KernelState, with_event}
use Rattle.kernel_core.specs.Kernel.{IsSteady, spawn_event}
use Rattle.kernel_core.specs.History.{HistoryFits}
use Rattle.kernel_core.proofs.SpawnedHistories.{spawn_fits, steady_spawn}
use Rattle.kernel_core.proofs.kernel.Kernel.spawn.Goals as goal

pub invariant_of-self : goal.invariant_of-self
invariant_of-self c =
    let k = c.self.inside.board.state in
    subst IsSteady (sym (c.count_event.ensures.state ∙ ap with_event c.in-Ok.ensures.state))
    (steady_spawn k c.args.limit c.args.names c.requires.limit.some (rw (← c.self.view_is) at c.requires.few_tasks) c.self.invariant)

pub returns-in-Ok-clause-sound : goal.returns-in-Ok-clause-sound
returns-in-Ok-clause-sound c =
    let k = c.self.inside.board.state in
    (subst IsSteady (sym (c.count_event.ensures.state ∙ ap with_event c.in-Ok.ensures.state))
    (steady_spawn k c.args.limit c.args.names c.requires.limit.some (rw (← c.self.view_is) at c.requires.few_tasks) c.self.invariant)).sound

pub returns-in-Ok-clause-history : goal.returns-in-Ok-clause-history
returns-in-Ok-clause-history c = λ h fits.
    let k = c.self.inside.board.state in
    let is = c.count_event.ensures.state ∙ ap with_event c.in-Ok.ensures.state in
    subst
    (λ (old : KernelState). HistoryFits (h ++ (spawn_event old c.args.limit c.args.names).entries) c.count_event.new.self.state)
    c.self.view_is
    (subst
    (λ (j : KernelState). HistoryFits (h ++ (spawn_event k c.args.limit c.args.names).entries) j)
    (sym is)
    (spawn_fits h k c.args.limit c.args.names c.requires.limit.some (rw (← c.self.view_is) at fits)))
