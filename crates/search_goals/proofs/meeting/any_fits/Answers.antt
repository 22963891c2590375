use Rattle.std.proofs.Common.{sym, ◌∙◌}
use Rattle.search_goals.specs.Goals.{entry_fits, listed}
use Rattle.search_goals.proofs.Beginnings.{any_on, any_here, any_over}
use Rattle.search_goals.proofs.meeting.any_fits.Goals as goal

pub loop-entry-preserved : goal.loop-entry-preserved
loop-entry-preserved c =
    any_on (entry_fits (listed c.args.asked.now)) c.args.entries.now c.loop-entry.entry-index c.entry-item.result
    c.loop-entry-test.true c.entry-item.is (sym c.entry_fits.ensures ∙ c.if-entry_fits.false) c.loop-entry.invariant

pub returns-then-entry_fits : goal.returns-then-entry_fits
returns-then-entry_fits c =
    any_here (entry_fits (listed c.args.asked.now)) c.args.entries.now c.loop-entry.entry-index c.entry-item.result
    c.loop-entry-test.true c.entry-item.is (sym c.entry_fits.ensures ∙ c.if-entry_fits.true) c.loop-entry.invariant

pub returns : goal.returns
returns c =
    any_over (entry_fits (listed c.args.asked.now)) c.args.entries.now c.loop-entry.entry-index c.loop-entry-test.false
    c.loop-entry.invariant
