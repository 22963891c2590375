use Rattle.std.proofs.Common.{◌≡◌, ◌-◌, refl, rules, set}
use Rattle.ipc_ids.specs.declared.message.PhoneState.TheVariants.{Connecting}
use Rattle.switchboard.specs.Kept.{first_usable_of, kept_rows}
use Rattle.switchboard.proofs.Inner.{inner}
use Rattle.switchboard.proofs.KeptRows.{first_loose, first_there, first_unkept, received_counts, received_states, received_told}
use Rattle.switchboard.proofs.Switched.{switched_kept}
use Rattle.switchboard.proofs.board.Switchboard.keep_to_receive.Goals as goal

pub invariant_of-self : goal.invariant_of-self
invariant_of-self c =
    let i = c.self.inside in
    let states : set i.phones.states (c.args.t.0 - 1) c.on_receive.new.phones.states ≡ kept_rows i.phones.states (first_usable_of (inner i) c.args.t) Connecting =
    rw c.on_receive.ensures.phones (received_states (inner i) i.phones.counts c.args.t c.row_mut.result.now c.self.invariant.0.has_counts c.row_mut.ensures.states c.row_mut.ensures.counts) in
    let counts : set i.phones.counts (c.args.t.0 - 1) c.on_receive.new.phones.counts ≡ i.phones.counts =
    rw c.on_receive.ensures.phones (received_counts (inner i) i.phones.counts c.args.t c.row_mut.result.now c.self.invariant.0.has_counts c.row_mut.ensures.states c.row_mut.ensures.counts) in
    rw (states, counts)
    (switched_kept (first_usable_of (inner i) c.args.t) Connecting c.self.invariant.0 (first_there (inner i) c.args.t) (λ u e. absurd (cc e)) (first_unkept (inner i) c.args.t c.self.invariant.0.kept), c.self.invariant.1)

pub returns-clause-answer : goal.returns-clause-answer
returns-clause-answer c =
    let i = c.self.inside in
    rw (← c.self.view_is) (received_told (inner i) i.phones.counts c.args.t c.row_mut.result.now c.self.invariant.0.has_counts c.row_mut.ensures.states c.row_mut.ensures.counts _ _ _ (λ x l h. search rules) c.on_receive.ensures.told c.map.ensures.cases)

pub returns-clause-loose : goal.returns-clause-loose
returns-clause-loose c =
    let i = c.self.inside in
    let states : set i.phones.states (c.args.t.0 - 1) c.on_receive.new.phones.states ≡ kept_rows i.phones.states (first_usable_of (inner i) c.args.t) Connecting =
    rw c.on_receive.ensures.phones (received_states (inner i) i.phones.counts c.args.t c.row_mut.result.now c.self.invariant.0.has_counts c.row_mut.ensures.states c.row_mut.ensures.counts) in
    rw (← c.self.view_is, states) (first_loose (inner i) c.args.t c.self.invariant.0.kept)

pub returns-clause-state : goal.returns-clause-state
returns-clause-state c =
    let i = c.self.inside in
    let states : set i.phones.states (c.args.t.0 - 1) c.on_receive.new.phones.states ≡ kept_rows i.phones.states (first_usable_of (inner i) c.args.t) Connecting =
    rw c.on_receive.ensures.phones (received_states (inner i) i.phones.counts c.args.t c.row_mut.result.now c.self.invariant.0.has_counts c.row_mut.ensures.states c.row_mut.ensures.counts) in
    rw (← c.self.view_is, states) refl
