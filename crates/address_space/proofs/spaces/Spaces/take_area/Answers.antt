use Rattle.std.proofs.Common.{◌<◌, ◌-◌, ℕ, length, arith}
use Rattle.address_space.specs.Areas.{Area}
use Rattle.address_space.specs.Sound.{IsOver}
use Rattle.address_space.proofs.Keeping.{task_areas, task_kept, task_lawful, lawful_at, lawful_removed, all_at, all_removed, all_got, is_there}
use Rattle.address_space.proofs.spaces.Spaces.take_area.Goals as goal

pub invariant_of-self : goal.invariant_of-self
invariant_of-self c =
    let positive = c.requires.added.from_one in
    let range = rw (← c.self.view_is) at c.requires.added.in_range in
    let i : ℕ = c.args.t.0 - 1 in
    let lt : i < length c.self.inside.tasks.items = omega arith in
    let x = c.index_mut.result.now in
    let is = task_areas c.self.inside.tasks.items i x lt c.index_mut.ensures.value in
    let lt2 : c.args.place < length x = rw (← c.self.view_is, is) at c.requires.place in
    let P : Area → Type 0 = IsOver c.self.inside.stores.stores c.self.inside.stores.next_store in
    record {
      lawful = lawful_at c.self.inside.tasks.items i c.remove.new.self (rw c.remove.ensures.areas (lawful_removed x c.args.place lt2 (task_lawful c.self.inside.tasks.items i x lt c.index_mut.ensures.value c.self.invariant.lawful))) c.self.invariant.lawful;
      over = all_at P c.self.inside.tasks.items i c.remove.new.self (rw c.remove.ensures.areas (all_removed P x c.args.place lt2 (task_kept P c.self.inside.tasks.items i x lt c.index_mut.ensures.value c.self.invariant.over))) c.self.invariant.over;
    }

pub returns-clause-area : goal.returns-clause-area
returns-clause-area c =
    let positive = c.requires.added.from_one in
    let range = rw (← c.self.view_is) at c.requires.added.in_range in
    let lt : c.args.t.0 - 1 < length c.self.inside.tasks.items = omega arith in
    rw (← c.self.view_is, task_areas c.self.inside.tasks.items (c.args.t.0 - 1) c.index_mut.result.now lt c.index_mut.ensures.value) c.remove.ensures.area

pub returns-clause-areas : goal.returns-clause-areas
returns-clause-areas c =
    let positive = c.requires.added.from_one in
    let range = rw (← c.self.view_is) at c.requires.added.in_range in
    let lt : c.args.t.0 - 1 < length c.self.inside.tasks.items = omega arith in
    rw (← c.self.view_is, c.remove.ensures.areas, task_areas c.self.inside.tasks.items (c.args.t.0 - 1) c.index_mut.result.now lt c.index_mut.ensures.value)

pub returns-clause-there : goal.returns-clause-there
returns-clause-there c =
    let positive = c.requires.added.from_one in
    let range = rw (← c.self.view_is) at c.requires.added.in_range in
    let lt : c.args.t.0 - 1 < length c.self.inside.tasks.items = omega arith in
    let P : Area → Type 0 = IsOver c.self.inside.stores.stores c.self.inside.stores.next_store in
    is_there c.self.inside.stores.stores c.self.inside.stores.next_store c.remove.result (all_got P c.index_mut.result.now c.args.place c.remove.result c.remove.ensures.area (task_kept P c.self.inside.tasks.items (c.args.t.0 - 1) c.index_mut.result.now lt c.index_mut.ensures.value c.self.invariant.over))
