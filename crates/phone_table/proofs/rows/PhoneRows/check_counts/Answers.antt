use Rattle.std.proofs.Common.{sym, ◌∙◌, arith}
use Rattle.phone_table.proofs.Counted.{counted_none, counted_next, counted_all}
use Rattle.phone_table.proofs.rows.PhoneRows.check_counts.Goals as goal

pub loop-i-init : goal.loop-i-init
loop-i-init c = counted_none c.args.self.now

pub loop-i-preserved : goal.loop-i-preserved
loop-i-preserved c =
    let phones = c.len-phones.ensures in
    counted_next c.args.self.now c.loop-i.i c.row.result.now c.loop-i.invariant c.row.ensures.states c.row.ensures.counts (sym phones.counts ∙ phones.states)

pub returns : goal.returns
returns c =
    let all = c.tasks-i-end.ensures.tasks in
    let passed = c.loop-i-test.false in
    counted_all c.args.self.now (λ t p le. c.loop-i.invariant t p (omega (arith, all, passed, le)))
