use Rattle.std.proofs.Common.{◌≡◌, length, rules, refl, subst}
use Rattle.async_sessions.specs.ExchangeOrder.{HasNone}
use Rattle.async_sessions.proofs.Rising.{drop_found, drop_none, found_in, found_at}
use Rattle.async_sessions.proofs.Grouped.{can_leave, kept_dropped}
use Rattle.async_sessions.proofs.exchanges.Exchanges.drop_exchange.Goals as goal

pub leave-requires : goal.leave-requires
leave-requires c =
    let xs = c.self.inside.listed.items in
    let i = c.in-Some.i in
    let here = found_in c.args.e i c.deref.ensures.value c.in-Some.ensures.found in
    can_leave _ xs i _ _ c.self.invariant.in_order.rising (found_at c.args.e xs i _ here c.remove-x.ensures.value) c.self.invariant.grouped

pub invariant_of-self : goal.invariant_of-self
invariant_of-self c =
    let xs = c.self.inside.listed.items in
    let i = c.in-Some.i in
    let here = found_in c.args.e i c.deref.ensures.value c.in-Some.ensures.found in
    let all : length c.self.inside.groups.begun ≡ 16 = search rules in
    rw (c.remove-x.ensures.items, c.leave.ensures.begun, c.leave.ensures.idle, c.leave.ensures.capacity)
    (kept_dropped _ xs i _ _ _ _ (found_at c.args.e xs i _ here c.remove-x.ensures.value) all c.self.invariant)

pub returns-in-Some : goal.returns-in-Some
returns-in-Some c =
    let xs = c.self.inside.listed.items in
    let i = c.in-Some.i in
    let here = found_in c.args.e i c.deref.ensures.value c.in-Some.ensures.found in
    rw (← c.self.view_is, c.remove-x.ensures.items, drop_found 0 c.args.e xs i c.self.invariant.in_order.rising here) refl

pub returns-in_default : goal.returns-in_default
returns-in_default c =
    let none = subst (HasNone c.args.e) c.deref.ensures.value c.in_default.ensures.none in
    rw (← c.self.view_is, drop_none c.args.e c.self.inside.listed.items none) refl
