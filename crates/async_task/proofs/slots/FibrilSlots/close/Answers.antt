use Rattle.std.proofs.Common.{sym, arith}
use Rattle.async_task.specs.declared.context.Slot.TheVariants as slot
use Rattle.async_task.proofs.Filled.{filled_set, filled_past}
use Rattle.async_task.proofs.slots.FibrilSlots.close.Goals as goal

pub returns-then-place-len : goal.returns-then-place-len
returns-then-place-len c =
    let used = c.self.inside.used.items in
    rw (← c.self.view_is)
    (filled_set used c.args.slot slot.Closed c.self.invariant (omega (arith, c.self.inside.used.ok.0)))

pub returns-else-place-len : goal.returns-else-place-len
returns-else-place-len c =
    let used = c.self.inside.used.items in
    rw (← c.self.view_is)
    (sym (filled_past used c.args.slot (omega (arith, c.self.inside.used.ok.0))))
