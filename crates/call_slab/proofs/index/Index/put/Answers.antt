use Rattle.std.proofs.Common.{◌/◌, Some}
use Rattle.call_slab.proofs.Pages.{keys_put, open_written, opened_paged, opened_written}
use Rattle.call_slab.proofs.index.Index.put.Goals as goal

pub returns-then-number-self-clause-keys : goal.returns-then-number-self-clause-keys
returns-then-number-self-clause-keys c =
    let i = c.self.inside in
    let n = c.args.number in
    let key = c.args.key in
    rw (← c.self.view_is) (keys_put i.open i.open i.page c.set.new.self i.pages.entries i.pages.entries c.self.invariant c.self.invariant n key
    (open_written i.open n i.page c.set.new.self i.pages.entries (Some key) c.if-number-self.true c.set.ensures))

pub invariant_of-self-else-number-self : goal.invariant_of-self-else-number-self
invariant_of-self-else-number-self c =
    let i = c.self.inside in
    let turned = c.turn_page-self-inside in
    opened_paged i.open c.args.number i.page turned.result turned.result i.pages.entries turned.new.pages.entries
    c.if-number-self.false turned.ensures.others turned.ensures.unique

pub returns-else-number-self-clause-keys : goal.returns-else-number-self-clause-keys
returns-else-number-self-clause-keys c =
    let i = c.self.inside in
    let n = c.args.number in
    let key = c.args.key in
    let turned = c.turn_page-self-inside in
    let page = c.set-else-number-self.new.self in
    let fs = turned.new.pages.entries in
    let far = c.if-number-self.false in
    let paged = opened_paged i.open n i.page turned.result page i.pages.entries fs far turned.ensures.others turned.ensures.unique in
    rw (← c.self.view_is) (keys_put i.open (n / 8) i.page page i.pages.entries fs c.self.invariant paged n key
    (opened_written i.open n i.page turned.result page i.pages.entries fs far turned.ensures.others (Some key) turned.ensures.page turned.ensures.put c.set-else-number-self.ensures))
