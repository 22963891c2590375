use Rattle.ipc_ids.specs.declared.message.PhoneState.TheVariants.{Slammed}
use Rattle.phone_table.proofs.Lookups.{same_row}
use Rattle.switchboard.proofs.Endings.{slammed_states}
use Rattle.switchboard.proofs.phones.slam_phone.Goals as goal

pub returns-clause-states : goal.returns-clause-states
returns-clause-states c = rw c.slam.ensures (slammed_states c.args.phones.now.states c.args.t.0 c.args.phone.0 c.row_mut.result.now.states Slammed c.row_mut.ensures.states)

pub returns-clause-counts : goal.returns-clause-counts
returns-clause-counts c = rw c.slam.ensures (same_row c.args.phones.now.counts c.args.t.0 c.row_mut.result.now.counts c.row_mut.ensures.counts)
