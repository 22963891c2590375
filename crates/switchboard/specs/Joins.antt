-- The joins: one change of a call or a phone each, with the entries that tell of it. The kernel's requests and the
-- parts of a kill are made of them.
use Rattle.std.specs.Prelude.{ℕ, ◌==◌, if◌then◌else◌, Bool, false, true, [], ◌∷◌, Option, None, Some, Result, Ok, Err, replicate}
use Rattle.std.specs.Option.{option_to_list}
use Rattle.ipc_ids.specs.declared.numbers.TaskNo.{TaskNo}
use Rattle.ipc_ids.specs.declared.numbers.Code.{Code}
use Rattle.ipc_ids.specs.declared.numbers.Label.{Label}
use Rattle.ipc_ids.specs.declared.message.Msg.{Msg}
use Rattle.ipc_ids.specs.declared.message.Reply.{Reply}
use Rattle.ipc_ids.specs.declared.message.PhoneState.{PhoneState}
use Rattle.ipc_ids.specs.declared.message.PhoneState.TheVariants.{Free, Connecting, Connected, HungUp, Slammed}
use Rattle.ipc_ids.specs.declared.message.Outcome.TheVariants.{Received as ToldCall, Answered as ToldAnswer, Accepted as Told, Empty}
use Rattle.ipc_ids.specs.declared.entry.Entry.TheVariants.{Accepted, Answered, Received, Delivered, Forwarded, Vanished, Dropped, Forgotten, PhoneIs}
use Rattle.ipc_ids.specs.Codes.{eok, enoent, elimit, einval}
use Rattle.ipc_ids.specs.Methods.{phone_hungup}
use Rattle.call_slab.specs.declared.call.Call.{Call}
use Rattle.call_slab.specs.declared.call.Place.{Place}
use Rattle.call_slab.specs.declared.call.Place.TheVariants.{Incoming, Dispatched, Answers}
use Rattle.answerbox.specs.Calls.{call_at, enqueue, put_at, without_call, without_caller}
use Rattle.switchboard.specs.State.{KernelState, Transition, nothing, phone_at, with_phone, with_calls, label_of, is_alive}
use Rattle.switchboard.specs.Kept.{kept_phone, lent_phone, unless_freed, with_kept, kept_note}
use Rattle.switchboard.specs.Serving.{Handed, Served}
use Rattle.switchboard.specs.declared.joins.Arrival.{Arrival}

-- a join on the live call with this number, where there is one
abbrev pub on_live : (KernelState → Call → Transition) → KernelState → Option Call → Transition
on_live step k None = nothing k
on_live step k (Some c) = step k c

abbrev pub on_call : (KernelState → Call → Transition) → KernelState → ℕ → Transition
on_call step k n = on_live step k (call_at k.calls n)

-- the kernel's own replies have arguments 0
abbrev pub bare_reply : Code → Reply
bare_reply code = record { code = code; args = replicate 5 0 }

-- a new call of task t over phone p, bound for a place
abbrev pub new_call : KernelState → TaskNo → ℕ → Msg → Place → Call
new_call k t p msg place =
    record {
      number = record { 0 = k.calls.next_number };
      caller = Some t;
      from = label_of t p;
      label = label_of t p;
      request = msg;
      msg = msg;
      reply = bare_reply eok;
      discard = false;
      buffer = [];
      reserved = None;
      place = place;
      stamp = 0;
    }

-- the call is accepted, and goes to the end of its place
abbrev pub acceptance : Handed → Option TaskNo → Served
acceptance h to =
    record {
      state = with_calls h.state (enqueue h.state.calls h.call);
      outcome = Told h.call.number;
      entries = Accepted h.call.number h.call.from h.call.request.method to ∷ option_to_list h.note;
    }

-- the call is accepted, and the kernel answers it at once
abbrev pub answer_at_once : KernelState → Call → Code → Served
answer_at_once k c code =
    record {
      state = with_calls k (enqueue k.calls (record c { reply = bare_reply code }));
      outcome = Told c.number;
      entries = Accepted c.number c.from c.request.method None ∷ Answered c.number (bare_reply code) None ∷ [];
    }

-- the call is received, and is dispatched from then on
abbrev pub reception : TaskNo → Handed → Served
reception t h =
    record {
      state = with_calls h.state (put_at h.state.calls h.call (Dispatched t));
      outcome = ToldCall h.call.number h.call.msg h.call.label;
      entries = Received h.call.number t ∷ option_to_list h.note;
    }

-- the same of a live call, where there is one, which takes this with it
abbrev pub with_arrival : KernelState → Call → Arrival → Handed
with_arrival k c arrival = record { state = k; call = record c { msg = arrival.msg; reserved = arrival.reserved }; note = arrival.note }

abbrev pub reception_live : TaskNo → Arrival → KernelState → Option Call → Served
reception_live t arrival k None = record { state = k; outcome = Empty; entries = [] }
reception_live t arrival k (Some c) = reception t (with_arrival k c arrival)

-- this reply is delivered, and the call is over; a phone that it keeps is free
abbrev pub with_delivery : KernelState → Call → Reply → Handed
with_delivery k c reply = record { state = with_kept k (kept_phone c) Free; call = record c { reply = reply }; note = kept_note (kept_phone c) Free }

abbrev pub delivery : TaskNo → Handed → Served
delivery t h =
    record {
      state = with_calls h.state (without_call h.state.calls h.call.number.0);
      outcome = ToldAnswer h.call.number h.call.reply;
      entries = Delivered h.call.number t ∷ option_to_list h.note;
    }

-- the same of a live call, where there is one
abbrev pub delivery_live : TaskNo → Reply → KernelState → Option Call → Served
delivery_live t reply k None = record { state = k; outcome = Empty; entries = [] }
delivery_live t reply k (Some c) = delivery t (with_delivery k c reply)

-- the phone, where there is one, is free
abbrev pub releasing : Option Label → KernelState → Transition
releasing kept k = record { state = with_kept k kept Free; entries = option_to_list (kept_note kept Free) }

-- the record of a call that goes on: a phone that its holder keeps is free
abbrev pub passed_call : Msg → Label → Call → Call
passed_call msg label c = record c { msg = msg; label = label; reserved = unless_freed (lent_phone c) c.reserved }

-- the call goes on to a task, which sees this message from this phone
abbrev pub passage : Msg → Label → TaskNo → TaskNo → KernelState → Call → Transition
passage msg label by to k c =
    record {
      state = with_calls (with_kept k (lent_phone c) Free) (put_at k.calls (passed_call msg label c) (Incoming to));
      entries = Forwarded c.number by to label ∷ option_to_list (kept_note (lent_phone c) Free);
    }

-- the call is over without an answer, and a phone that it keeps is free
abbrev pub vanishing : KernelState → Call → Transition
vanishing k c =
    record {
      state = with_calls (with_kept k (kept_phone c) Free) (without_call k.calls c.number.0);
      entries = Vanished c.number ∷ option_to_list (kept_note (kept_phone c) Free);
    }

-- the call goes with its reply to the answers of its caller
abbrev pub answer_to : Handed → Option TaskNo → TaskNo → Transition
answer_to h by caller =
    record {
      state = with_calls h.state (put_at h.state.calls h.call (Answers caller));
      entries = Answered h.call.number h.call.reply by ∷ option_to_list h.note;
    }

-- an answer that does not accept: a phone that the holder keeps is free
abbrev pub declined_call : Call → Reply → Call
declined_call c reply = record c { reply = reply; reserved = unless_freed (lent_phone c) c.reserved }

abbrev pub declined : KernelState → Call → Reply → Handed
declined k c reply = record { state = with_kept k (lent_phone c) Free; call = declined_call c reply; note = kept_note (lent_phone c) Free }

-- an answer that accepts a CONNECT_TO_ME: the phone that the holder keeps leads to the caller, and
-- without one the code says so
abbrev pub code_of : Option Label → Code
code_of None = elimit
code_of (Some l) = eok

abbrev pub accepted_to_me : KernelState → Call → Reply → TaskNo → Handed
accepted_to_me k c reply caller =
    record {
      state = with_kept k (kept_phone c) (Connected caller);
      call = record c { reply = record { code = code_of (kept_phone c); args = reply.args } };
      note = kept_note (kept_phone c) (Connected caller);
    }

-- an answer that accepts a CONNECT_ME_TO: the phone that the caller keeps leads to task t, which answers
abbrev pub accepted_me_to : KernelState → Call → Reply → TaskNo → Handed
accepted_me_to k c reply t =
    record {
      state = with_kept k (kept_phone c) (Connected t);
      call = record c { reply = reply };
      note = kept_note (kept_phone c) (Connected t);
    }

abbrev pub settle_for : KernelState → Call → Reply → Option TaskNo → Option TaskNo → Bool → Transition
settle_for k c reply by None lives = vanishing k c
settle_for k c reply by (Some caller) false = vanishing k c
settle_for k c reply by (Some caller) true = answer_to (declined k c reply) by caller

-- whether the caller of a call is alive
abbrev pub lives : KernelState → Option TaskNo → Bool
lives k None = false
lives k (Some caller) = is_alive k caller

-- the call is declined, by a task or by the kernel where `by` is None; it vanishes where its caller has ended
abbrev pub settle : KernelState → Call → Reply → Option TaskNo → Transition
settle k c reply by = settle_for k c reply by c.caller (lives k c.caller)

-- the same of a live call, where there is one
abbrev pub settle_live : KernelState → Reply → Option TaskNo → Option Call → Transition
settle_live k reply by None = nothing k
settle_live k reply by (Some c) = settle k c reply by

-- an answer is dropped, and its call is over; a phone that it keeps is free
abbrev pub drop_answer : TaskNo → KernelState → Call → Transition
drop_answer t k c =
    record {
      state = with_calls (with_kept k (kept_phone c) Free) (without_call k.calls c.number.0);
      entries = Dropped c.number t ∷ option_to_list (kept_note (kept_phone c) Free);
    }

-- the caller of a call that stands elsewhere has ended
abbrev pub forget_call : KernelState → Call → Transition
forget_call k c = record { state = with_calls k (without_caller k.calls c.number.0); entries = Forgotten c.number ∷ [] }

-- the call that tells task u of a hangup, whose answer nobody waits for
abbrev pub hangup_call : KernelState → TaskNo → ℕ → TaskNo → Call
hangup_call k t p u = record (new_call k t p (record { method = phone_hungup; args = replicate 5 0 }) (Incoming u)) { discard = true }

-- a phone that leads to a task is hung up, and the task is told; one whose task has ended is hung up
abbrev pub hang_up : KernelState → TaskNo → ℕ → Option PhoneState → Transition
hang_up k t p (Some (Connected u)) =
    record {
      state = with_phone (with_calls k (enqueue k.calls (hangup_call k t p u))) t p HungUp;
      entries = Accepted (record { 0 = k.calls.next_number }) (label_of t p) phone_hungup (Some u) ∷ PhoneIs (label_of t p) HungUp ∷ [];
    }
hang_up k t p (Some Slammed) = record { state = with_phone k t p HungUp; entries = PhoneIs (label_of t p) HungUp ∷ [] }
hang_up k t p None = nothing k
hang_up k t p (Some Free) = nothing k
hang_up k t p (Some Connecting) = nothing k
hang_up k t p (Some HungUp) = nothing k

-- a phone of task u that leads to task t, which comes to its end, is slammed
abbrev pub slam : TaskNo → TaskNo → KernelState → ℕ → Option PhoneState → Transition
slam t u k p (Some (Connected v)) = if v.0 == t.0 then record { state = with_phone k u p Slammed; entries = PhoneIs (label_of u p) Slammed ∷ [] } else nothing k
slam t u k p None = nothing k
slam t u k p (Some Free) = nothing k
slam t u k p (Some Connecting) = nothing k
slam t u k p (Some HungUp) = nothing k
slam t u k p (Some Slammed) = nothing k

abbrev pub slam_at : TaskNo → TaskNo → KernelState → ℕ → Transition
slam_at t u k p = slam t u k p (phone_at k u p)

-- how a hangup of a phone in this state is refused
abbrev pub hangup_refusal : Option PhoneState → Result Unit Code
hangup_refusal None = Err enoent
hangup_refusal (Some Free) = Err einval
hangup_refusal (Some Connecting) = Err einval
hangup_refusal (Some (Connected u)) = Ok tt
hangup_refusal (Some HungUp) = Err einval
hangup_refusal (Some Slammed) = Ok tt
