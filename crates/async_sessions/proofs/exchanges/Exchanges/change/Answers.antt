use Rattle.std.proofs.Common.{◌≡◌, ◌<◌, ◌^◌, length, rules, refl, subst}
use Rattle.std.specs.Vec.{vec_capacity}
use Rattle.async_sessions.specs.ExchangeOrder.{HasNone}
use Rattle.async_sessions.proofs.Rising.{change_found, change_none, found_in, found_at}
use Rattle.async_sessions.proofs.Grouped.{can_leave, can_change, kept_changed}
use Rattle.async_sessions.proofs.exchanges.Exchanges.change.Goals as goal

pub leave-requires : goal.leave-requires
leave-requires c =
    let xs = c.self.inside.listed.items in
    let i = c.in-Some.i in
    let here = found_in c.args.e i c.deref.ensures.value c.in-Some.ensures.found in
    can_leave _ xs i _ _ c.self.invariant.in_order.rising (found_at c.args.e xs i _ here c.index.ensures) c.self.invariant.grouped

pub enter-requires : goal.enter-requires
enter-requires c =
    let xs = c.self.inside.listed.items in
    let i = c.in-Some.i in
    let here = found_in c.args.e i c.deref.ensures.value c.in-Some.ensures.found in
    let all : length c.self.inside.groups.begun ≡ 16 = search rules in
    let small : vec_capacity c.self.inside.groups.idle < 2 ^ 64 = search rules in
    rw (c.leave.ensures.begun, c.leave.ensures.idle, c.leave.ensures.capacity)
    (can_change c.args.held c.args.stamp _ xs i _ _ _ _ (found_at c.args.e xs i _ here c.index.ensures) all small c.self.invariant)

pub invariant_of-self : goal.invariant_of-self
invariant_of-self c =
    let xs = c.self.inside.listed.items in
    let i = c.in-Some.i in
    let here = found_in c.args.e i c.deref.ensures.value c.in-Some.ensures.found in
    let all : length c.self.inside.groups.begun ≡ 16 = search rules in
    rw (c.enter.ensures.begun, c.enter.ensures.idle, c.enter.ensures.capacity, c.leave.ensures.begun, c.leave.ensures.idle, c.leave.ensures.capacity)
    (kept_changed c.args.held c.args.stamp _ xs i _ _ _ _ (found_at c.args.e xs i _ here c.index.ensures) all c.self.invariant)

pub returns-in-Some : goal.returns-in-Some
returns-in-Some c =
    let xs = c.self.inside.listed.items in
    let i = c.in-Some.i in
    let here = found_in c.args.e i c.deref.ensures.value c.in-Some.ensures.found in
    rw (← c.self.view_is, change_found 0 c.args.e c.args.held c.args.stamp xs i _ c.self.invariant.in_order.rising here (found_at c.args.e xs i _ here c.index.ensures)) refl

pub returns-in_default : goal.returns-in_default
returns-in_default c =
    let none = subst (HasNone c.args.e) c.deref.ensures.value c.in_default.ensures.none in
    rw (← c.self.view_is, change_none c.args.e c.args.held c.args.stamp c.self.inside.listed.items none) refl
