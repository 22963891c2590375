use Rattle.std.proofs.Common.{sym, ◌∙◌}
use Rattle.call_slab.proofs.Pages.{get_key, open_lane, other_lane}
use Rattle.call_slab.proofs.index.Index.get.Goals as goal

pub returns-then-number-self : goal.returns-then-number-self
returns-then-number-self c =
    let i = c.self.inside in
    record { key = rw (← c.self.view_is) (c.get.ensures ∙ sym (get_key i.open i.page i.pages.entries c.args.number c.self.invariant ∙ open_lane i.open i.page i.pages.entries _ _ c.if-number-self.true)) }

pub returns-else-number-self : goal.returns-else-number-self
returns-else-number-self c =
    let i = c.self.inside in
    record { key = rw (← c.self.view_is) (c.key_among.ensures ∙ sym (get_key i.open i.page i.pages.entries c.args.number c.self.invariant ∙ other_lane i.open i.page i.pages.entries _ _ c.if-number-self.false)) }
