use Rattle.std.proofs.Common.{◌≡◌, refl, sym, ◌∙◌, Some}
use Rattle.ipc_ids.specs.declared.message.PhoneState.TheVariants.{Free, Connected}
use Rattle.phone_table.proofs.Lookups.{same_row}
use Rattle.switchboard.specs.State.{phone_at}
use Rattle.switchboard.proofs.Endings.{slammed_states}
use Rattle.switchboard.specs.Board.{IsAdded}
use Rattle.switchboard.proofs.Inner.{inner}
use Rattle.switchboard.proofs.Keepers.{not_waiting}
use Rattle.switchboard.proofs.Switched.{switched_wired}
use Rattle.switchboard.proofs.board.Switchboard.wire.Goals as goal

pub invariant_of-self : goal.invariant_of-self
invariant_of-self c =
    let i = c.self.inside in
    let row = c.row_mut.result.now in
    let free : phone_at (inner i) c.args.t c.args.phone.0 ≡ Some Free = rw (← c.self.view_is) at c.requires.free in
    let to : IsAdded (inner i) c.args.to = rw (← c.self.view_is) at c.requires.target in
    rw (c.wire.ensures, slammed_states i.phones.states c.args.t.0 c.args.phone.0 row.states (Connected c.args.to) c.row_mut.ensures.states, same_row i.phones.counts c.args.t.0 row.counts c.row_mut.ensures.counts)
    (switched_wired c.args.t.0 c.args.phone.0 c.args.to c.self.invariant.0 (rw free refl) to.task (not_waiting c.args.t.0 c.args.phone.0 c.self.invariant.0.kept (λ e. absurd (let g = sym free ∙ e in cc))), c.self.invariant.1)
