use Rattle.std.proofs.Common.{ℕ, ◌≡◌, ◌<◌, ◌^◌, length, rules, arith, subst, sym}
use Rattle.std.specs.Vec.{vec_capacity}
use Rattle.async_sessions.specs.ExchangeGroups.{AreKept}
use Rattle.async_sessions.proofs.Grouped.{can_enter, none_below, kept_added}
use Rattle.async_sessions.proofs.exchanges.Exchanges.add.Goals as goal

pub enter-requires : goal.enter-requires
enter-requires c =
    let k = c.self.invariant in
    let room = rw (← c.self.view_is) at c.requires.room in
    let number = rw (← c.self.view_is) at c.requires.number in
    let small : vec_capacity c.self.inside.groups.idle < 2 ^ 64 = search rules in
    can_enter c.args.x c.self.inside.listed.items _ _ _ k.in_order.rising (none_below c.self.inside.next_number c.args.x.number _ k.in_order.below (omega arith)) (omega arith) small k.grouped

pub invariant_of-self : goal.invariant_of-self
invariant_of-self c =
    let room = rw (← c.self.view_is) at c.requires.room in
    let number = rw (← c.self.view_is) at c.requires.number in
    let all : length c.self.inside.groups.begun ≡ 16 = search rules in
    rw (c.push_reserved.ensures.items, c.enter.ensures.begun, c.enter.ensures.idle, c.enter.ensures.capacity, ← number)
    (kept_added c.args.x _ _ _ _ (omega arith) all (subst (λ (n : ℕ). AreKept c.self.inside.listed.items n c.self.inside.groups.begun c.self.inside.groups.idle.items (vec_capacity c.self.inside.groups.idle)) (sym number) c.self.invariant))
