use Rattle.std.proofs.Common.{ℕ, ◌≡◌, ◌+◌, length, refl, ap, sym, arith}
use Rattle.ipc_ids.specs.declared.numbers.FibrilNo.{FibrilNo}
use Rattle.fibril_core.specs.declared.fibrils.Fibril.{Fibril}
use Rattle.fibril_core.specs.declared.fibrils.Status.TheVariants.{Ready}
use Rattle.fibril_core.proofs.Rebuilt.{spawn_gives, length_all}
use Rattle.fibril_core.proofs.live_fibrils.LiveFibrils.spawn_reserved.Goals as goal

pub overflow_add-number : goal.overflow_add-number
overflow_add-number c =
    let made : length c.args.self.now.order.fibrils ≡ c.self.inside.made =
    rw (← c.self.view_is) (length_all c.self.inside.made c.self.inside.fibrils.items) in
    omega (arith, c.requires.bounds.fibrils)

pub overflow_add-self : goal.overflow_add-self
overflow_add-self c =
    let made : length c.args.self.now.order.fibrils ≡ c.self.inside.made =
    rw (← c.self.view_is) (length_all c.self.inside.made c.self.inside.fibrils.items) in
    omega (arith, c.requires.bounds.fibrils)

pub invariant_of-self : goal.invariant_of-self
invariant_of-self c =
    rw c.push_back_reserved.ensures.items
    (spawn_gives c.self.inside.made c.self.inside.fibrils.items _ c.self.invariant refl refl).are

pub returns-clause-number : goal.returns-clause-number
returns-clause-number c =
    rw (← c.self.view_is)
    (ap (λ (n : ℕ). let f : FibrilNo = record { 0 = n + 1 } in f)
    (sym (length_all c.self.inside.made c.self.inside.fibrils.items)))

pub returns-clause-order : goal.returns-clause-order
returns-clause-order c =
    let made = c.self.inside.made in
    let y : Fibril = record { number = record { 0 = made + 1 }; status = Ready; stamp = c.self.inside.next_stamp } in
    let all = (spawn_gives made c.self.inside.fibrils.items y c.self.invariant refl refl).all in
    rw (c.push_back_reserved.ensures.items, all, ← c.self.view_is, length_all) refl
