-- What a task is told fits what it asked.
use Rattle.std.proofs.Common.{◌≡◌, ℕ, Bool, true, false, not, List, length, Option, None, Some, Result, Ok, Err, refl, nat_lt, nat_le}
use Rattle.std.specs.Prelude.{if◌then◌else◌}
use Rattle.std.proofs.lemmas.Bool.{eq-eqb}
use Rattle.ipc_ids.specs.declared.numbers.TaskNo.{TaskNo}
use Rattle.ipc_ids.specs.declared.numbers.Code.{Code}
use Rattle.ipc_ids.specs.declared.message.Msg.{Msg}
use Rattle.ipc_ids.specs.declared.message.Mode.{Mode}
use Rattle.ipc_ids.specs.declared.message.Reply.{Reply}
use Rattle.ipc_ids.specs.declared.message.PhoneState.{PhoneState}
use Rattle.ipc_ids.specs.declared.message.PhoneState.TheVariants.{Free, Connecting, Connected, HungUp, Slammed}
use Rattle.ipc_ids.specs.declared.message.Request.{Request}
use Rattle.ipc_ids.specs.declared.message.Request.TheVariants as R
use Rattle.ipc_ids.specs.declared.message.Outcome.{Outcome}
use Rattle.ipc_ids.specs.Codes.{eperm, einval, elimit}
use Rattle.ipc_ids.specs.Methods.{kind_of}
use Rattle.ipc_ids.specs.Tables.{most_active}
use Rattle.ipc_ids.specs.Program.{fits, is_call_outcome, is_receive_outcome, is_peek_outcome, is_done_or_refused}
use Rattle.call_slab.specs.declared.call.Call.{Call}
use Rattle.call_slab.specs.declared.call.Place.TheVariants.{Incoming, Answers}
use Rattle.answerbox.specs.Calls.{call_at, front, active_calls}
use Rattle.address_space.specs.Memory.{Memory, read}
use Rattle.address_space.specs.Memory as spaces
use Rattle.address_space.specs.Sound as sound_spaces
use Rattle.address_space.proofs.Lengths.{length_read}
use Rattle.forwarding.specs.declared.passing.Forwarded.{Forwarded}
use Rattle.forwarding.specs.declared.passing.ForwardFault.{ForwardFault}
use Rattle.forwarding.specs.declared.passing.ForwardFault.TheVariants.{NotHeld, NotForwardable, NotConnected}
use Rattle.forwarding.specs.Routes.{forward_answer}
use Rattle.switchboard.specs.State.{KernelState, phone_at, label_of}
use Rattle.switchboard.specs.Sound.{IsSound}
use Rattle.switchboard.specs.Areas.{done_or_refused, bytes_or_refused}
use Rattle.switchboard.specs.Joins.{new_call}
use Rattle.switchboard.specs.Serving.{Handed, refusal}
use Rattle.kernel_core.specs.Moments.{before_send}
use Rattle.kernel_core.specs.Calling.{is_callable, sent_to, call_through, call_tested, call_over}
use Rattle.kernel_core.specs.Receiving.{receive_first, drop_unawaited}
use Rattle.kernel_core.specs.Answering.{held_call, answer_held}
use Rattle.kernel_core.specs.Forward.{forward_told}
use Rattle.kernel_core.specs.HangingUp.{hangup_over}
use Rattle.kernel_core.specs.Request.{serve_request}
use Rattle.kernel_core.specs.Kernel.{serve}

-- a call
sent_fits : (u : TaskNo) (k : KernelState) (c : Call) (r : Result Handed Code) → is_call_outcome (sent_to u k c r).outcome ≡ true
sent_fits u k c (Ok handed) = refl
sent_fits u k c (Err code) = refl

module _ (k : KernelState) (t : TaskNo) (p : ℕ) (msg : Msg) where
  through_fits : (s : PhoneState) → is_call_outcome (call_through k t p msg s).outcome ≡ true
  through_fits Free = refl
  through_fits Connecting = refl
  through_fits (Connected u) = let c : Call = new_call k t p msg (Incoming u) in sent_fits u k c (before_send k c)
  through_fits HungUp = refl
  through_fits Slammed = refl

  tests_fit : (refused full : Bool) (s : PhoneState) → is_call_outcome (if refused then refusal k eperm else (if full then refusal k elimit else call_through k t p msg s)).outcome ≡ true
  tests_fit true full s = refl
  tests_fit false true s = refl
  tests_fit false false s = through_fits s

  tested_fits : (s : PhoneState) → is_call_outcome (call_tested k t p msg s).outcome ≡ true
  tested_fits s = tests_fit (not (is_callable (kind_of msg.method))) (nat_le most_active (active_calls k.calls (label_of t p))) s

  call_fits : (s : Option PhoneState) → is_call_outcome (call_over k t p msg s).outcome ≡ true
  call_fits None = refl
  call_fits (Some Free) = refl
  call_fits (Some Connecting) = refl
  call_fits (Some (Connected u)) = tested_fits (Connected u)
  call_fits (Some HungUp) = tested_fits HungUp
  call_fits (Some Slammed) = tested_fits Slammed

-- a receive
receive_fits : (k : KernelState) (t : TaskNo) (answer incoming : Option Call) → is_receive_outcome (receive_first k t answer incoming).outcome ≡ true
receive_fits k t (Some answer) incoming = refl
receive_fits k t None (Some c) = refl
receive_fits k t None None = refl

-- an answer, a forward and a hangup
answer_fits : (k : KernelState) (t : TaskNo) (reply : Reply) (c : Option Call) → is_done_or_refused (answer_held k t reply c).outcome ≡ true
answer_fits k t reply None = refl
answer_fits k t reply (Some c) = refl

forward_fits : (k : KernelState) (t : TaskNo) (p : ℕ) (mode : Mode) (change : Option Msg) (c : Option Call) (r : Result Forwarded ForwardFault) → is_done_or_refused (forward_told k t p mode change c r).outcome ≡ true
forward_fits k t p mode change None (Ok forwarded) = refl
forward_fits k t p mode change (Some c) (Ok forwarded) = refl
forward_fits k t p mode change c (Err NotHeld) = refl
forward_fits k t p mode change c (Err NotForwardable) = refl
forward_fits k t p mode change c (Err NotConnected) = refl

hangup_fits : (k : KernelState) (t : TaskNo) (p : ℕ) (s : Option PhoneState) → is_done_or_refused (hangup_over k t p s).outcome ≡ true
hangup_fits k t p None = refl
hangup_fits k t p (Some Free) = refl
hangup_fits k t p (Some Connecting) = refl
hangup_fits k t p (Some HungUp) = refl
hangup_fits k t p (Some Slammed) = refl
hangup_fits k t p (Some (Connected u)) = refl

-- what a task does with its areas
step_fits : {A : Type 0} (told : Result A Code) → is_done_or_refused (done_or_refused told) ≡ true
step_fits (Ok x) = refl
step_fits (Err code) = refl

peek_length : (m : Memory) (t : TaskNo) (at count : ℕ) (bytes : List ℕ) (above : Bool) → sound_spaces.IsSound m → (if above then Err einval else read m t at count) ≡ Ok bytes → length bytes ≡ count
peek_length m t at count bytes true sound is = absurd (cc is)
peek_length m t at count bytes false sound is = length_read m t at count bytes sound is

peek_fits : (count : ℕ) (told : Result (List ℕ) Code) → ((bytes : List ℕ) → told ≡ Ok bytes → length bytes ≡ count) → is_peek_outcome count (bytes_or_refused told) ≡ true
peek_fits count (Ok bytes) all = eq-eqb (length bytes) count (all bytes refl)
peek_fits count (Err code) all = refl

-- the outcome of every request
request_fits : (k : KernelState) (t : TaskNo) (asked : Request) → IsSound k → fits asked (serve_request k t asked).outcome ≡ true
request_fits k t (R.Call p msg) sound = call_fits k t p msg (phone_at k t p)
request_fits k t R.Receive sound =
    let rest : KernelState = (drop_unawaited t k).state in
    receive_fits rest t (front rest.calls (Answers t)) (front rest.calls (Incoming t))
request_fits k t (R.Answer n reply) sound = answer_fits k t reply (held_call t (call_at k.calls n))
request_fits k t (R.Forward n p mode change) sound = forward_fits k t p mode change (call_at k.calls n) (forward_answer k.calls t (phone_at k t p) n change)
request_fits k t (R.Hangup p) sound = hangup_fits k t p (phone_at k t p)
request_fits k t (R.AreaMake base pages rights) sound = step_fits (spaces.make k.memory t base pages rights).told
request_fits k t (R.AreaDrop base) sound = step_fits (spaces.drop_area k.memory t base).told
request_fits k t (R.Poke at bytes) sound = step_fits (spaces.write k.memory t at bytes).told
request_fits k t (R.Peek at count) sound = peek_fits count (spaces.peek k.memory t at count) (λ bytes. peek_length k.memory t at count bytes (nat_lt 64 count) sound.memory.spaces)
request_fits k t R.Nothing sound = refl

pub outcome_fits : (k : KernelState) (t : TaskNo) (asked : Request) → IsSound k → fits asked (serve k t asked).outcome ≡ true
outcome_fits k t asked sound = request_fits k t asked sound

-- the same of what the code tells a task, where there is room and then the request is served
pub served_fits : (k ready : KernelState) (t : TaskNo) (asked : Request) (told : Outcome) → IsSound k → ready ≡ k → told ≡ (serve_request ready t asked).outcome → fits asked told ≡ true
served_fits k ready t asked told sound room is = rw (is, room) (request_fits k t asked sound)
