use Rattle.std.proofs.Common.{None, ◌/◌}
use Rattle.call_slab.proofs.Pages.{keys_out, open_written, other_written, paged_still}
use Rattle.call_slab.proofs.index.Index.remove.Goals as goal

pub returns-then-number-self-clause-keys : goal.returns-then-number-self-clause-keys
returns-then-number-self-clause-keys c =
    let i = c.self.inside in
    rw (← c.self.view_is) (keys_out i.open i.open i.page c.set.new.self i.pages.entries i.pages.entries c.self.invariant c.self.invariant c.args.number
    (open_written i.open c.args.number i.page c.set.new.self i.pages.entries None c.if-number-self.true c.set.ensures))

pub returns-else-number-self-clause-keys : goal.returns-else-number-self-clause-keys
returns-else-number-self-clause-keys c =
    let i = c.self.inside in
    let fs = c.clear_among.new.pages.entries in
    let clears = c.clear_among.ensures in
    let far = c.if-number-self.false in
    rw (← c.self.view_is) (keys_out i.open i.open i.page i.page i.pages.entries fs c.self.invariant (paged_still i.open (c.args.number / 8) i.pages.entries fs c.self.invariant far clears.others clears.unique) c.args.number
    (other_written i.open c.args.number i.page i.pages.entries fs None far clears.lane clears.lanes clears.others))
