use Rattle.std.proofs.Common.{Bool, ap, sym, subst, ◌∙◌, ◌++◌}
use Rattle.std.specs.Prelude.{◌||◌}
use Rattle.std.specs.List.{list_any}
use Rattle.fibril_core.specs.LiveFibrils.{AreLive}
use Rattle.async_task.specs.AsyncState.{MachineState}
use Rattle.async_task.specs.Wanted.{waits_for}
use Rattle.async_task.proofs.Waits.{parts_wait}
use Rattle.async_task.proofs.machine.Machine.any_waits.Goals as goal

pub returns-then-any_among : goal.returns-then-any_among
returns-then-any_among c =
    let a = c.args.self.now.state in
    let front = c.live.result.0.now in
    let back = c.live.result.1.now in
    let are : AreLive (front ++ back) a.order.fibrils =
    subst (λ (m : MachineState). AreLive (front ++ back) m.state.order.fibrils) c.self.view_is
    c.live.ensures in
    let waits = list_any (λ x. waits_for a c.args.session x.number) back in
    c.if-any_among.true
    ∙ ap (λ (b : Bool). b || waits) (sym c.if-any_among.true ∙ c.any_among.ensures)
    ∙ parts_wait front back a c.args.session are

pub returns-else-any_among : goal.returns-else-any_among
returns-else-any_among c =
    let a = c.args.self.now.state in
    let front = c.live.result.0.now in
    let back = c.live.result.1.now in
    let are : AreLive (front ++ back) a.order.fibrils =
    subst (λ (m : MachineState). AreLive (front ++ back) m.state.order.fibrils) c.self.view_is
    c.live.ensures in
    c.any_among-else-any_among.ensures
    ∙ ap (λ (b : Bool). b || list_any (λ x. waits_for a c.args.session x.number) back)
    (sym c.if-any_among.false ∙ c.any_among.ensures)
    ∙ parts_wait front back a c.args.session are
