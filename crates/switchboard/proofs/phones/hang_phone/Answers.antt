use Rattle.switchboard.proofs.Keeping.{hung_states, hung_counts}
use Rattle.switchboard.proofs.phones.hang_phone.Goals as goal

pub returns-clause-states : goal.returns-clause-states
returns-clause-states c =
    rw (c.hangup.ensures.row, c.from.ensures)
    (hung_states c.args.phones.now.states c.args.from.task.0 c.args.from.phone.0 c.row_mut.result.now c.hangup.result c.row_mut.ensures.states)

pub returns-clause-counts : goal.returns-clause-counts
returns-clause-counts c =
    rw (c.hangup.ensures.row, c.from.ensures)
    (hung_counts c.args.phones.now.counts c.args.from.task.0 c.args.from.phone.0 c.row_mut.result.now c.hangup.result c.row_mut.ensures.counts)
