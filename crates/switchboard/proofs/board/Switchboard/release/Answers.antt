use Rattle.std.proofs.Common.{◌≡◌, ◌-◌, Some, set}
use Rattle.ipc_ids.specs.declared.message.PhoneState.TheVariants.{Free}
use Rattle.phone_table.proofs.Lookups.{same_row}
use Rattle.switchboard.specs.Kept.{IsLoose}
use Rattle.switchboard.specs.State.{with_state_at}
use Rattle.switchboard.proofs.Endings.{slammed_states}
use Rattle.switchboard.proofs.Inner.{inner}
use Rattle.switchboard.proofs.Keepers.{loose_there, loose_unkept}
use Rattle.switchboard.proofs.Switched.{switched_phone}
use Rattle.switchboard.proofs.board.Switchboard.release.Goals as goal

pub invariant_of-self : goal.invariant_of-self
invariant_of-self c =
    let i = c.self.inside in
    let l = c.in-Some.label in
    let row = c.row_mut.result.now in
    let loose : IsLoose (inner i) (Some l) = rw (← c.self.view_is, c.in-Some.is) at c.requires.loose in
    let states : set i.phones.states (l.task.0 - 1) c.release.new.phones.states ≡ with_state_at i.phones.states l.task.0 l.phone.0 Free =
    rw c.release.ensures (slammed_states i.phones.states l.task.0 l.phone.0 row.states Free c.row_mut.ensures.states) in
    let counts : set i.phones.counts (l.task.0 - 1) c.release.new.phones.counts ≡ i.phones.counts =
    rw c.release.ensures (same_row i.phones.counts l.task.0 row.counts c.row_mut.ensures.counts) in
    rw (states, counts)
    (switched_phone l.task.0 l.phone.0 Free c.self.invariant.0 (loose_there (inner i) (Some l) loose) (λ u e. absurd (cc e)) (loose_unkept (inner i) l loose), c.self.invariant.1)
