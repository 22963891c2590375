use Rattle.std.proofs.Common.{◌≡◌, ◌<◌, rules}
use Rattle.std.specs.Prelude.{slice_index}
use Rattle.async_sessions.proofs.Grouped.{any_counted}
use Rattle.async_sessions.proofs.exchanges.Exchanges.is_any_begun.Goals as goal

pub returns-in-Some : goal.returns-in-Some
returns-in-Some c =
    let within : c.args.s < 16 = search rules in
    let counted : c.in-Some.count.now ≡ slice_index c.self.inside.groups.begun c.args.s = search rules in
    rw (← c.self.view_is, counted) (any_counted c.args.s _ c.self.inside.listed.items (c.self.invariant.grouped.counts c.args.s within))
