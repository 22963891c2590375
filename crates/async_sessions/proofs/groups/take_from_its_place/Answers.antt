use Rattle.std.proofs.Common.{sym, subst, ◌∙◌}
use Rattle.async_sessions.specs.ExchangeOrder.{HasNone}
use Rattle.async_sessions.proofs.Rising.{found_in, drop_found, drop_none}
use Rattle.async_sessions.proofs.groups.take_from_its_place.Goals as goal

pub returns-in-Some-clause-items : goal.returns-in-Some-clause-items
returns-in-Some-clause-items c =
    let xs = c.args.exchanges.now.items in
    let here = found_in c.args.e c.in-Some.i c.deref.ensures.value c.in-Some.ensures.found in
    c.remove.ensures.items ∙ drop_found 0 c.args.e xs c.in-Some.i c.requires.rise here

pub returns-in_default-clause-items : goal.returns-in_default-clause-items
returns-in_default-clause-items c =
    let none = subst (HasNone c.args.e) c.deref.ensures.value c.in_default.ensures.none in
    sym (drop_none c.args.e c.args.exchanges.now.items none)
