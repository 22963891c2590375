use Rattle.std.proofs.Common.{◌≡◌, false, ◌∙◌, sym}
use Rattle.address_space.specs.Memory.{is_used}
use Rattle.address_space.proofs.Keeping.{all_taken}
use Rattle.address_space.proofs.spaces.Spaces.release.Goals as goal

pub invariant_of-self : goal.invariant_of-self
invariant_of-self c =
    let none : is_used c.args.store c.self.inside.tasks.items ≡ false = rw c.deref.ensures.value at (sym c.is_used.ensures ∙ c.if-not-is_used.true) in
    rw c.remove.ensures (record { lawful = c.self.invariant.lawful; over = all_taken c.self.inside.stores.stores c.self.inside.stores.next_store c.args.store c.self.inside.tasks.items none c.self.invariant.over })
