use Rattle.std.proofs.Common.{sym, subst, ◌∙◌}
use Rattle.async_sessions.specs.ExchangeOrder.{HasNone}
use Rattle.async_sessions.proofs.Rising.{look_found, look_none, found_in, found_at}
use Rattle.async_sessions.proofs.exchanges.Exchanges.exchange_at.Goals as goal

pub returns-in-Some : goal.returns-in-Some
returns-in-Some c =
    let xs = c.self.inside.listed.items in
    let i = c.in-Some.i in
    let here = found_in c.args.e i c.deref.ensures.value c.in-Some.ensures.found in
    rw (← c.self.view_is) (sym (look_found 0 c.args.e xs i c.self.invariant.in_order.rising here ∙ found_at c.args.e xs i _ here c.index.ensures))

pub returns-in-None : goal.returns-in-None
returns-in-None c =
    let none = subst (HasNone c.args.e) c.deref.ensures.value c.in-None.ensures.none in
    rw (← c.self.view_is) (sym (look_none c.args.e c.self.inside.listed.items none))
