use Rattle.std.proofs.Common.{◌≡◌, ◌-◌, Some, arith, refl, inr, length, set}
use Rattle.ipc_ids.specs.declared.message.PhoneState.TheVariants.{Connected}
use Rattle.ipc_ids.specs.declared.methods.MethodKind.TheVariants.{ConnectToMe}
use Rattle.call_slab.specs.declared.call.Place.TheVariants.{Answers}
use Rattle.answerbox.specs.Calls.{call_at}
use Rattle.switchboard.specs.Board.{IsHeldCall}
use Rattle.switchboard.specs.Kept.{IsOf, WaitsIn, kept_phone, kept_rows}
use Rattle.switchboard.proofs.Inner.{inner}
use Rattle.switchboard.proofs.Keepers.{waiting_there}
use Rattle.switchboard.proofs.KeptCalls.{caller_keeps, held_own, kept_put, put_unkept}
use Rattle.switchboard.proofs.KeptRows.{to_me_counts, to_me_states, to_me_waits}
use Rattle.switchboard.proofs.Live.{live_reply}
use Rattle.switchboard.proofs.Switched.{leads_here, switched_kept, switched_put}
use Rattle.switchboard.proofs.Usable.{kept_waits}
use Rattle.switchboard.proofs.board.Switchboard.connect_to_caller.Goals as goal
use Rattle.switchboard.proofs.SoundMemory.{mark_within}

pub accept_to_me-code-requires : goal.accept_to_me-code-requires
accept_to_me-code-requires c =
    let i = c.self.inside in
    let r = c.read.result.now in
    let is : call_at i.boxes.calls c.args.found.number.0 ≡ Some r = c.read.ensures.call in
    let held : IsHeldCall r ConnectToMe c.args.t c.args.caller = rw is at (rw (← c.self.view_is) at c.requires.held) in
    let own : IsOf c.args.t c.kept_phone-kept.result = rw c.kept_phone-kept.ensures (held_own r c.args.t c.args.caller held) in
    let waits : WaitsIn i.phones.states c.kept_phone-kept.result = rw c.kept_phone-kept.ensures (kept_waits i.phones.states i.boxes.calls c.args.found.number.0 r c.self.invariant.0.kept is) in
    rw c.phone_in.ensures (to_me_waits i.phones.states c.args.t c.row_mut.result.now c.kept_phone-kept.result c.row_mut.ensures.states own waits)

pub invariant_of-self : goal.invariant_of-self
invariant_of-self c =
    let i = c.self.inside in
    let r = c.read.result.now in
    let is : call_at i.boxes.calls c.args.found.number.0 ≡ Some r = c.read.ensures.call in
    let held : IsHeldCall r ConnectToMe c.args.t c.args.caller = rw is at (rw (← c.self.view_is) at c.requires.held) in
    let added = mark_within i.alive.items c.args.caller.0 (rw (← c.self.view_is) at c.requires.alive) in
    let number = c.self.invariant.0.has_counts.numbered c.args.found.number.0 r is in
    let reply = record c.args.reply.now { code = c.accept_to_me-code.result } in
    let none = caller_keeps r c.args.t c.args.caller reply held in
    let kept = kept_put (inner i) c.args.found.number.0 r (record r { reply = reply }) (Answers c.args.caller) c.self.invariant.0.kept is number (inr (rw none tt)) in
    let own : IsOf c.args.t c.kept_phone-kept.result = rw c.kept_phone-kept.ensures (held_own r c.args.t c.args.caller held) in
    let states : set i.phones.states (c.args.t.0 - 1) c.accept_to_me-code.new.phones.states ≡ kept_rows i.phones.states c.kept_phone-kept.result (Connected c.args.caller) =
    rw (c.accept_to_me-code.ensures.phones, c.phone_in.ensures) (to_me_states i.phones.states c.args.t c.args.caller c.row_mut.result.now c.kept_phone-kept.result c.row_mut.ensures.states own) in
    let counts : set i.phones.counts (c.args.t.0 - 1) c.accept_to_me-code.new.phones.counts ≡ i.phones.counts =
    rw (c.accept_to_me-code.ensures.phones, c.phone_in.ensures) (to_me_counts i.phones.counts c.args.t c.args.caller c.row_mut.result.now c.kept_phone-kept.result c.row_mut.ensures.counts) in
    rw (c.go_uncounted.ensures.calls, c.go_uncounted.ensures.tasks, is, states, counts, c.kept_phone-kept.ensures) (
      switched_kept (kept_phone r) (Connected c.args.caller)
          (switched_put c.args.found.number.0 r (record r { reply = reply }) (Answers c.args.caller) c.self.invariant.0 is refl refl refl refl kept)
          (waiting_there i.phones.states (kept_phone r) (kept_waits i.phones.states i.boxes.calls c.args.found.number.0 r c.self.invariant.0.kept is))
          (leads_here c.args.caller (length i.alive.items) added)
          (put_unkept (inner i) c.args.found.number.0 r (record r { reply = reply }) (Answers c.args.caller) c.self.invariant.0.kept is number none),
      c.self.invariant.1,
    )

pub returns-clause-state : goal.returns-clause-state
returns-clause-state c =
    let i = c.self.inside in
    let r = c.read.result.now in
    let is : call_at i.boxes.calls c.args.found.number.0 ≡ Some r = c.read.ensures.call in
    let held : IsHeldCall r ConnectToMe c.args.t c.args.caller = rw is at (rw (← c.self.view_is) at c.requires.held) in
    let own : IsOf c.args.t c.kept_phone-kept.result = rw c.kept_phone-kept.ensures (held_own r c.args.t c.args.caller held) in
    let states : set i.phones.states (c.args.t.0 - 1) c.accept_to_me-code.new.phones.states ≡ kept_rows i.phones.states c.kept_phone-kept.result (Connected c.args.caller) =
    rw (c.accept_to_me-code.ensures.phones, c.phone_in.ensures) (to_me_states i.phones.states c.args.t c.args.caller c.row_mut.result.now c.kept_phone-kept.result c.row_mut.ensures.states own) in
    rw (← c.self.view_is, c.go_uncounted.ensures.calls, is, states, c.kept_phone-kept.ensures) refl

pub returns-clause-room : goal.returns-clause-room
returns-clause-room c =
    let i = c.self.inside in
    let r = c.read.result.now in
    let is : call_at i.boxes.calls c.args.found.number.0 ≡ Some r = c.read.ensures.call in
    let l = live_reply i.phones.states i.phones.counts i.boxes.calls c.args.found.number.0 c.self.invariant.0.has_counts (rw is refl) (record c.args.reply.now { code = c.accept_to_me-code.result }) c.args.caller in
    rw (← c.self.view_is, c.go_uncounted.ensures.calls, is) (record { live = omega (arith, rw is at l); calls = omega (arith, c.go_uncounted.ensures.spare); places = c.go_uncounted.ensures.tasks })
