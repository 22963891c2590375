use Rattle.std.proofs.Common.{◌<◌, ◌-◌, ◌≡◌, ℕ, length, arith, false}
use Rattle.std.proofs.lemmas.List.Elements.{All-push}
use Rattle.address_space.specs.Areas.{Area, is_taken}
use Rattle.address_space.specs.Sound.{IsOver}
use Rattle.address_space.proofs.Keeping.{task_areas, task_kept, task_lawful, all_at, lawful_at, lawful_pushed}
use Rattle.address_space.proofs.spaces.Spaces.place_area.Goals as goal

pub invariant_of-self : goal.invariant_of-self
invariant_of-self c =
    let positive = c.requires.added.from_one in
    let range = rw (← c.self.view_is) at c.requires.added.in_range in
    let i : ℕ = c.args.t.0 - 1 in
    let lt : i < length c.self.inside.tasks.items = omega arith in
    let x = c.index_mut.result.now in
    let is = task_areas c.self.inside.tasks.items i x lt c.index_mut.ensures.value in
    let room : length x < 16 = rw (← c.self.view_is, is) at c.requires.room in
    let free : is_taken c.args.area.base c.args.area.pages x ≡ false = rw (← c.self.view_is, is) at c.requires.free in
    let over = rw (← c.self.view_is) at c.requires.over in
    let P : Area → Type 0 = IsOver c.self.inside.stores.stores c.self.inside.stores.next_store in
    record {
      lawful = lawful_at c.self.inside.tasks.items i c.push.new.self (rw c.push.ensures (lawful_pushed x c.args.area room c.requires.in_range free (task_lawful c.self.inside.tasks.items i x lt c.index_mut.ensures.value c.self.invariant.lawful))) c.self.invariant.lawful;
      over = all_at P c.self.inside.tasks.items i c.push.new.self (rw c.push.ensures (All-push P x c.args.area (task_kept P c.self.inside.tasks.items i x lt c.index_mut.ensures.value c.self.invariant.over) over)) c.self.invariant.over;
    }

pub returns : goal.returns
returns c =
    let positive = c.requires.added.from_one in
    let range = rw (← c.self.view_is) at c.requires.added.in_range in
    let lt : c.args.t.0 - 1 < length c.self.inside.tasks.items = omega arith in
    rw (← c.self.view_is, c.push.ensures, task_areas c.self.inside.tasks.items (c.args.t.0 - 1) c.index_mut.result.now lt c.index_mut.ensures.value)
