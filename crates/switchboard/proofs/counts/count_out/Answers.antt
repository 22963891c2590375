use Rattle.std.proofs.Common.{◌-◌}
use Rattle.std.proofs.lemmas.Bool.{eq-eqb}
use Rattle.phone_table.proofs.Lookups.{same_row}
use Rattle.switchboard.proofs.Recounting.{recount_row, some_if}
use Rattle.switchboard.proofs.counts.count_out.Goals as goal

pub returns-in-Some-clause-states : goal.returns-in-Some-clause-states
returns-in-Some-clause-states c = rw c.count_down.ensures (same_row c.args.phones.now.states c.args.from.task.0 c.row_mut.result.now.states c.row_mut.ensures.states)

pub returns-in-Some-clause-counts : goal.returns-in-Some-clause-counts
returns-in-Some-clause-counts c =
    rw (c.count_down.ensures, c.in-Some.is, eq-eqb c.in-Some.caller.0 c.args.from.task.0 c.if-caller-from.true)
    (recount_row (λ n. n - 1) c.args.phones.now.counts c.args.from.task.0 c.args.from.phone.0 c.row_mut.result.now.counts c.row_mut.ensures.counts (some_if _ _ c.requires.counted))
