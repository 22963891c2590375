use Rattle.async_sessions.proofs.Grouped.{first_idle-filter}
use Rattle.async_sessions.proofs.exchanges.Exchanges.first_idle.Goals as goal

pub returns : goal.returns
returns c =
    rw (c.first_idle.ensures, c.deref.ensures.value, c.self.invariant.grouped.those_idle, ← c.self.view_is) (first_idle-filter c.args.s c.self.inside.listed.items)
