use Rattle.std.proofs.Common.{rules, ◌≡◌, ◌+◌, ◌-◌, ◌≤◌, ◌++◌, length, take, arith}
use Rattle.std.specs.Prelude.{replicate}
use Rattle.async_task.specs.declared.context.Slot.TheVariants as slot
use Rattle.async_task.proofs.Filled.{filled_longer}
use Rattle.async_task.proofs.slots.reach.Goals as goal

pub returns-clause-held : goal.returns-clause-held
returns-clause-held c =
    let old = c.args.used.now.items in
    let n = c.args.place + 1 in
    let items : c.resize.new.self.items ≡ take n old ++ replicate (n - length old) slot.Closed =
    search rules in
    let past : length old ≤ n = search (rules, arith) in
    rw items (filled_longer old n past (omega (arith, c.requires.there)))
