use Rattle.ipc_ids.specs.declared.message.PhoneState.TheVariants.{Slammed}
use Rattle.phone_table.specs.Phones.{state_at}
use Rattle.phone_table.specs.Usable.{IsConnected}
use Rattle.switchboard.proofs.Keepers.{not_waiting}
use Rattle.switchboard.proofs.Switched.{switched_phone, connected_there, not_slammed}
use Rattle.switchboard.proofs.board.Switchboard.slam_phone.Goals as goal

pub invariant_of-self : goal.invariant_of-self
invariant_of-self c =
    let i = c.self.inside in
    let leads : IsConnected (state_at i.phones.states c.args.phone.task.0 c.args.phone.phone.0) = rw (← c.self.view_is) at c.requires.leads in
    rw (c.slam_phone.ensures.states, c.slam_phone.ensures.counts)
    (switched_phone c.args.phone.task.0 c.args.phone.phone.0 Slammed c.self.invariant.0 (connected_there (state_at i.phones.states c.args.phone.task.0 c.args.phone.phone.0) leads) (λ u e. absurd (cc e)) (not_waiting c.args.phone.task.0 c.args.phone.phone.0 c.self.invariant.0.kept (not_slammed (state_at i.phones.states c.args.phone.task.0 c.args.phone.phone.0) leads)), c.self.invariant.1)
