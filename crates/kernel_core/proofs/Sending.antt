-- What is handed to a join before a call is sent, and as one is received.
use Rattle.std.proofs.Common.{◌≡◌, ℕ, ◌+◌, ◌*◌, Bool, true, false, Option, None, Some, Result, Ok, Err, refl, ◌∙◌, arith}
use Rattle.std.specs.Prelude.{◌==◌, if◌then◌else◌, IsSome}
use Rattle.ipc_ids.specs.Trace.{TraceState}
use Rattle.ipc_ids.specs.declared.numbers.TaskNo.{TaskNo}
use Rattle.ipc_ids.specs.declared.numbers.Label.{Label}
use Rattle.ipc_ids.specs.declared.numbers.Code.{Code}
use Rattle.ipc_ids.specs.declared.message.Outcome.{Outcome}
use Rattle.ipc_ids.specs.declared.message.PhoneState.TheVariants.{Connecting}
use Rattle.ipc_ids.specs.declared.entry.Entry.{Entry}
use Rattle.ipc_ids.specs.declared.methods.MethodKind.TheVariants.{ConnectMeTo}
use Rattle.ipc_ids.specs.Methods.{kind_of}
use Rattle.address_space.specs.declared.spaces.SpaceFault.TheVariants.{Refused}
use Rattle.call_slab.specs.declared.call.Call.{Call}
use Rattle.switchboard.specs.State.{KernelState, BoardState, phone_at}
use Rattle.call_slab.specs.declared.call.Place.TheVariants.{Answers}
use Rattle.switchboard.specs.Board.{IsAdded, IsNewCall}
use Rattle.switchboard.specs.Kept.{IsLoose, first_usable_of, is_accepted, kept_note, or_refused, phone_of, with_kept}
use Rattle.switchboard.specs.Joins.{acceptance, answer_at_once}
use Rattle.switchboard.specs.Rooms.{HasRoom, KeepsCalls, UsesRoom}
use Rattle.switchboard.specs.Serving.{Handed, Serves}
use Rattle.switchboard.proofs.Soundness.{phone_kept}
use Rattle.switchboard.proofs.SoundStates.{keeps_none}
use Rattle.kernel_core.specs.Calling.{sent_to}
use Rattle.kernel_core.specs.Handing.{IsSent}
use Rattle.kernel_core.specs.Moments.{before_send, with_fifth}

-- room

pub room_kept : {a b : BoardState} {out : TraceState} {m n l : ℕ} → KeepsCalls a b → HasRoom a out m n l → HasRoom b out m n l
room_kept s r = record {
  numbers = rw s.calls r.numbers;
  stamps = rw s.calls r.stamps;
  calls = omega (arith, r.calls, s.spare);
  entries = r.entries;
}

pub uses_after : {a b c : BoardState} {x y : TraceState} {m n l : ℕ} → KeepsCalls a b → UsesRoom b c x y m n l → UsesRoom a c x y m n l
uses_after s u = record {
  numbers = rw s.calls at u.numbers;
  stamps = rw s.calls at u.stamps;
  live = rw s.calls at u.live;
  calls = omega (arith, u.calls, s.spare);
  entries = u.entries;
  alive = u.alive ∙ s.alive;
  places = u.places ∙ s.places;
  events = u.events ∙ s.events;
}

-- before a call is sent

pub found_phone : (o : Option Label) (l : Label) → Ok l ≡ or_refused o → o ≡ Some l
found_phone None l e = absurd (cc e)
found_phone (Some m) l e = cc

kept_loose : (k : KernelState) (l : Label) (t : TaskNo) (accepted : Bool) → IsLoose k (Some l) → IsLoose k (if accepted then None else phone_of t (Some l))
kept_loose k l t true loose = tt
kept_loose k l t false loose = by_test (l.task.0 == t.0) where
  by_test : (b : Bool) → IsLoose k (if b then Some l else None)
  by_test true = loose
  by_test false = tt

phone_stays : (k : KernelState) (l : Label) (t : TaskNo) (p : ℕ) → IsSome (phone_at k t p) → IsSome (phone_at (with_kept k (Some l) Connecting) t p)
phone_stays k l t p there = phone_kept k.tasks.phones l.task.0 l.phone.0 t.0 p Connecting there

-- a CONNECT_ME_TO with the phone that its caller keeps
pub sent_keeping : (old new : BoardState) (c : Call) (noted : Option Entry) (l : Label) → IsNewCall old.state c → first_usable_of old.state c.from.task ≡ Some l → kind_of c.request.method ≡ ConnectMeTo → new.state ≡ with_kept old.state (Some l) Connecting → IsLoose new.state (Some l) → noted ≡ kept_note (Some l) Connecting
    → IsSent old new c (record c { msg = with_fifth c.msg (64 * c.from.task.0 + l.phone.0); reserved = Some l }) (Ok noted) (before_send old.state c)
sent_keeping old new c noted l s first kind state loose told = rw (kind, first) (record {
  state = state;
  call = refl;
  note = told;
  new_call = record {
    number = rw state s.number;
    caller = s.caller;
    phone = rw state (phone_stays old.state l c.from.task c.from.phone.0 s.phone);
    place = rw state s.place;
    few = rw state s.few;
    bytes = rw state s.bytes;
    kept = rw kind (kept_loose new.state l c.from.task (is_accepted c.place c.reply.code) loose);
  };
})

-- a call that is not sent is a new one, which is to be answered at once
pub unsent_new : (old new : BoardState) (c d : Call) (code : Code) (r : Result Handed Code) → IsNewCall old.state c → c.reserved ≡ None → IsAdded old.state c.from.task → IsSent old new c d (Err (Refused code)) r → IsNewCall new.state (record d { place = Answers d.from.task })
unsent_new old new c d code (Ok h) made none added s = absurd s
unsent_new old new c d code (Err wanted) made none added s =
    let e : Call = record c { place = Answers c.from.task } in
    let same : record d { place = Answers d.from.task } ≡ e = rw s.call refl in
    rw (s.state, same) (record {
      number = made.number;
      caller = made.caller;
      phone = made.phone;
      place = added.task;
      few = made.few;
      bytes = made.bytes;
      kept = rw (keeps_none e none) tt;
    })

-- the call that is sent is a new one, and the join gets what was handed to it
pub sent_new : (old new : BoardState) (c d : Call) (noted : Option Entry) (r : Result Handed Code) → IsSent old new c d (Ok noted) r → IsNewCall new.state d
sent_new old new c d noted (Ok h) s = s.new_call
sent_new old new c d noted (Err code) s = absurd s

pub sent_served : (old new after : BoardState) (c d : Call) (noted : Option Entry) (to : TaskNo) (told : Outcome) (out now : TraceState) (r : Result Handed Code) → IsSent old new c d (Ok noted) r → Serves after told out now (acceptance (record { state = new.state; call = d; note = noted }) (Some to)) → Serves after told out now (sent_to to old.state c r)
sent_served old new after c d noted to told out now (Ok h) s served = rw (s.state, s.call, s.note) at served
sent_served old new after c d noted to told out now (Err code) s served = absurd s

-- the call that is not sent is answered at once
pub unsent_served : (old new after : BoardState) (c d : Call) (code : Code) (to : TaskNo) (told : Outcome) (out now : TraceState) (r : Result Handed Code) → IsSent old new c d (Err (Refused code)) r → Serves after told out now (answer_at_once new.state (record d { place = Answers d.from.task }) code) → Serves after told out now (sent_to to old.state c r)
unsent_served old new after c d code to told out now (Ok h) s served = absurd s
unsent_served old new after c d code to told out now (Err wanted) s served = rw (s.state, s.call, s.code) at served
