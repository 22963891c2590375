use Rattle.std.proofs.Common.{◌+◌}
use Rattle.phone_table.proofs.Lookups.{same_row}
use Rattle.switchboard.proofs.Recounting.{recount_row, some_if}
use Rattle.switchboard.proofs.counts.count_up.Goals as goal

pub returns-clause-states : goal.returns-clause-states
returns-clause-states c = rw c.count_up.ensures (same_row c.args.phones.now.states c.args.from.task.0 c.row_mut.result.now.states c.row_mut.ensures.states)

pub returns-clause-counts : goal.returns-clause-counts
returns-clause-counts c =
    rw c.count_up.ensures (recount_row (λ n. n + 1) c.args.phones.now.counts c.args.from.task.0 c.args.from.phone.0 c.row_mut.result.now.counts c.row_mut.ensures.counts (some_if _ _ c.requires.few))
