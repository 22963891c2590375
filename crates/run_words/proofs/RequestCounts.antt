-- A request, a kill and a spawn come to the same after however many events.
use Rattle.std.proofs.Common.{◌≡◌, ℕ, ◌+◌, Bool, true, false, List, ◌++◌, refl, ◌∙◌, ap, Option, None, Some, Result, Ok, Err, cond, not, nat_le, if◌then◌else◌}
use Rattle.ipc_ids.specs.declared.numbers.TaskNo.{TaskNo}
use Rattle.ipc_ids.specs.declared.numbers.Code.{Code}
use Rattle.ipc_ids.specs.declared.numbers.Label.{Label}
use Rattle.ipc_ids.specs.declared.message.Msg.{Msg}
use Rattle.ipc_ids.specs.declared.message.Reply.{Reply}
use Rattle.ipc_ids.specs.declared.message.Mode.{Mode}
use Rattle.ipc_ids.specs.declared.message.Request.{Request}
use Rattle.ipc_ids.specs.declared.message.Request.TheVariants as ask
use Rattle.ipc_ids.specs.declared.message.PhoneState.{PhoneState}
use Rattle.ipc_ids.specs.declared.message.PhoneState.TheVariants.{Free, Connecting, Connected, HungUp, Slammed}
use Rattle.ipc_ids.specs.declared.methods.MethodKind.{MethodKind}
use Rattle.ipc_ids.specs.declared.methods.MethodKind.TheVariants.{PhoneHungUp, ConnectToMe, ConnectMeTo, DataWrite, DataRead, ShareOut, ShareIn, Unused, User}
use Rattle.ipc_ids.specs.Methods.{kind_of}
use Rattle.ipc_ids.specs.Tables.{most_active}
use Rattle.ipc_ids.specs.declared.message.Outcome.TheVariants.{Done, Refused}
use Rattle.ipc_ids.specs.Codes.{enoent, eperm, elimit}
use Rattle.forwarding.specs.declared.passing.Forwarded.{Forwarded}
use Rattle.forwarding.specs.declared.passing.ForwardFault.{ForwardFault}
use Rattle.forwarding.specs.declared.passing.ForwardFault.TheVariants.{NotHeld, NotForwardable, NotConnected}
use Rattle.call_slab.specs.declared.call.Call.{Call}
use Rattle.call_slab.specs.declared.call.Place.TheVariants.{Incoming, Answers}
use Rattle.answerbox.specs.Calls.{calls_at, active_calls}
use Rattle.switchboard.specs.State.{KernelState, Transition, label_of, with_event}
use Rattle.switchboard.specs.Serving.{Handed, Served, then_serve, telling, refusal}
use Rattle.switchboard.specs.Joins.{settle_live, lives, drop_answer, new_call, delivery, reception, answer_to}
use Rattle.switchboard.specs.Kept.{accepts}
use Rattle.kernel_core.specs.Moments.{before_send, before_send_of, keeping_to_send, carrying, bringing, asking, on_receive_of, on_accept_of, on_delivery, brings_bytes}
use Rattle.kernel_core.specs.Calling.{call_over, call_tested, call_through, sent_to, is_callable}
use Rattle.kernel_core.specs.Receiving.{receive, receive_now, receive_first, drop_unawaited, next_unawaited}
use Rattle.kernel_core.specs.Answering.{answer_held, accept_for}
use Rattle.kernel_core.specs.Forward.{forward_told}
use Rattle.kernel_core.specs.HangingUp.{hangup_over}
use Rattle.kernel_core.specs.Request.{serve_request}
use Rattle.kernel_core.specs.Kernel.{and_event, serve, kill_event, spawn_event, spawning, next_task, named}
use Rattle.run_words.proofs.KillCounts.{drain_at, if_at, settle_at, kill_at}
use Rattle.run_words.specs.Counted.{with_count, step_with_count, served_with_count}

-- what a moment hands to a join, with another count
abbrev handed_with_count : ℕ → Handed → Handed
handed_with_count n handed = record { state = with_count n handed.state; call = handed.call; note = handed.note }

module _ (n : ℕ) where
  -- ---- a call
  result_at : Result Handed Code → Result Handed Code
  result_at (Ok h) = Ok (handed_with_count n h)
  result_at (Err code) = Err code

  kept_at : (k : KernelState) (c : Call) (o : Option Label)
      → keeping_to_send (with_count n k) c o ≡ result_at (keeping_to_send k c o)
  unfolding result_at
  kept_at k c None = refl
  kept_at k c (Some l) = refl

  carried_at : (k : KernelState) (c : Call) (r : Result (List ℕ) Code)
      → carrying (with_count n k) c r ≡ result_at (carrying k c r)
  unfolding result_at
  carried_at k c (Ok b) = refl
  carried_at k c (Err e) = refl

  brought_at : (k : KernelState) (c : Call) (r : Result ℕ Code)
      → bringing (with_count n k) c r ≡ result_at (bringing k c r)
  unfolding result_at
  brought_at k c (Ok b) = refl
  brought_at k c (Err e) = refl

  asked_at : (k : KernelState) (c : Call) (r : Result (Unit {0}) Code)
      → asking (with_count n k) c r ≡ result_at (asking k c r)
  unfolding result_at
  asked_at k c (Ok b) = refl
  asked_at k c (Err e) = refl

  send_of_at : (kind : MethodKind) (k : KernelState) (c : Call)
      → before_send_of kind (with_count n k) c ≡ result_at (before_send_of kind k c)
  unfolding result_at
  send_of_at PhoneHungUp k c = refl
  send_of_at ConnectToMe k c = refl
  send_of_at ConnectMeTo k c = kept_at k c _
  send_of_at DataWrite k c = carried_at k c _
  send_of_at DataRead k c = brought_at k c _
  send_of_at ShareOut k c = asked_at k c _
  send_of_at ShareIn k c = asked_at k c _
  send_of_at Unused k c = refl
  send_of_at User k c = refl

  sent_at : (u : TaskNo) (k : KernelState) (c : Call) (r : Result Handed Code)
      → sent_to u (with_count n k) c (result_at r) ≡ served_with_count n (sent_to u k c r)
  unfolding result_at
  sent_at u k c (Ok h) = refl
  sent_at u k c (Err code) = refl

  through_at : (k : KernelState) (t : TaskNo) (p : ℕ) (msg : Msg) (state : PhoneState)
      → call_through (with_count n k) t p msg state ≡ served_with_count n (call_through k t p msg state)
  through_at k t p msg Free = refl
  through_at k t p msg Connecting = refl
  through_at k t p msg HungUp = refl
  through_at k t p msg Slammed = refl
  through_at k t p msg (Connected u) =
      let c : Call = new_call k t p msg (Incoming u) in
      ap (sent_to u (with_count n k) c) (send_of_at (kind_of msg.method) k c) ∙ sent_at u k c (before_send k c)

  if_served : (b : Bool) (x y : Served) (x' y' : Served) → x' ≡ served_with_count n x → y' ≡ served_with_count n y
      → cond b x' y' ≡ served_with_count n (cond b x y)
  if_served true x y x' y' e f = e
  if_served false x y x' y' e f = f

  tested_at : (k : KernelState) (t : TaskNo) (p : ℕ) (msg : Msg) (state : PhoneState)
      → call_tested (with_count n k) t p msg state ≡ served_with_count n (call_tested k t p msg state)
  tested_at k t p msg state =
      let is_full : Bool = nat_le most_active (active_calls k.calls (label_of t p)) in
      if_served (not (is_callable (kind_of msg.method)))
      (refusal k eperm) (if is_full then refusal k elimit else call_through k t p msg state)
      (refusal (with_count n k) eperm)
      (if is_full then refusal (with_count n k) elimit else call_through (with_count n k) t p msg state)
      refl
      (if_served is_full (refusal k elimit) (call_through k t p msg state)
      (refusal (with_count n k) elimit) (call_through (with_count n k) t p msg state)
      refl (through_at k t p msg state))

  over_at : (k : KernelState) (t : TaskNo) (p : ℕ) (msg : Msg) (o : Option PhoneState)
      → call_over (with_count n k) t p msg o ≡ served_with_count n (call_over k t p msg o)
  over_at k t p msg None = refl
  over_at k t p msg (Some Free) = refl
  over_at k t p msg (Some Connecting) = refl
  over_at k t p msg (Some (Connected u)) = tested_at k t p msg (Connected u)
  over_at k t p msg (Some HungUp) = tested_at k t p msg HungUp
  over_at k t p msg (Some Slammed) = tested_at k t p msg Slammed

  -- ---- a receive
  receive_of_at : (kind : MethodKind) (k : KernelState) (c : Call) (t : TaskNo)
      → on_receive_of kind (with_count n k) c t ≡ handed_with_count n (on_receive_of kind k c t)
  receive_of_at PhoneHungUp k c t = refl
  receive_of_at ConnectToMe k c t = refl
  receive_of_at ConnectMeTo k c t = refl
  receive_of_at DataWrite k c t = refl
  receive_of_at DataRead k c t = refl
  receive_of_at ShareOut k c t = refl
  receive_of_at ShareIn k c t = refl
  receive_of_at Unused k c t = refl
  receive_of_at User k c t = refl

  if_handed : (b : Bool) (x y : Handed) (x' y' : Handed) → x' ≡ handed_with_count n x → y' ≡ handed_with_count n y
      → cond b x' y' ≡ handed_with_count n (cond b x y)
  if_handed true x y x' y' e f = e
  if_handed false x y x' y' e f = f

  delivery_at : (k : KernelState) (c : Call) (t : TaskNo)
      → on_delivery (with_count n k) c t ≡ handed_with_count n (on_delivery k c t)
  delivery_at k c t = if_handed (brings_bytes c) _ _ _ _ refl refl

  first_at_all : (k : KernelState) (t : TaskNo) (a i : Option Call)
      → receive_first (with_count n k) t a i ≡ served_with_count n (receive_first k t a i)
  first_at_all k t (Some c) i = ap (delivery t) (delivery_at k c t)
  first_at_all k t None (Some c) = ap (reception t) (receive_of_at (kind_of c.request.method) k c t)
  first_at_all k t None None = refl

  dropped_at : (t : TaskNo) (k : KernelState)
      → drop_unawaited t (with_count n k) ≡ step_with_count n (drop_unawaited t k)
  dropped_at t k =
      drain_at n (next_unawaited t) (drop_answer t) (λ j. refl) (λ j c. refl) (calls_at k.calls (Answers t)) k

  receive_at : (k : KernelState) (t : TaskNo) → receive (with_count n k) t ≡ served_with_count n (receive k t)
  receive_at k t =
      let dropped : Transition = drop_unawaited t k in
      ap (λ (z : Transition). then_serve z (receive_now t)) (dropped_at t k)
      ∙ ap (λ (z : Served). record z { entries = dropped.entries ++ z.entries }) (first_at_all dropped.state t _ _)

  -- ---- an answer
  accept_of_at : (kind : MethodKind) (k : KernelState) (c : Call) (reply : Reply) (t u : TaskNo)
      → on_accept_of kind (with_count n k) c reply t u ≡ handed_with_count n (on_accept_of kind k c reply t u)
  accept_of_at PhoneHungUp k c reply t u = refl
  accept_of_at ConnectToMe k c reply t u = refl
  accept_of_at ConnectMeTo k c reply t u = refl
  accept_of_at DataWrite k c reply t u = refl
  accept_of_at DataRead k c reply t u = refl
  accept_of_at ShareOut k c reply t u = refl
  accept_of_at ShareIn k c reply t u = refl
  accept_of_at Unused k c reply t u = refl
  accept_of_at User k c reply t u = refl

  accepted_at : (k : KernelState) (t : TaskNo) (reply : Reply) (c : Call) (o : Option TaskNo) (b : Bool)
      → accept_for (with_count n k) t reply c o b ≡ step_with_count n (accept_for k t reply c o b)
  accepted_at k t reply c None b = refl
  accepted_at k t reply c (Some u) false = refl
  accepted_at k t reply c (Some u) true =
      ap (λ (h : Handed). answer_to h (Some t) u) (accept_of_at (kind_of c.request.method) k c reply t u)

  answered_at : (k : KernelState) (t : TaskNo) (reply : Reply) (o : Option Call)
      → answer_held (with_count n k) t reply o ≡ served_with_count n (answer_held k t reply o)
  answered_at k t reply None = refl
  answered_at k t reply (Some c) =
      ap (λ (z : Transition). telling z Done)
      (if_at n (accepts reply.code) _ _ _ _
      (accepted_at k t reply c c.caller (lives k c.caller)) (settle_at n reply (Some t) k c))

  -- ---- a forward
  live_at : (k : KernelState) (reply : Reply) (by : Option TaskNo) (o : Option Call)
      → settle_live (with_count n k) reply by o ≡ step_with_count n (settle_live k reply by o)
  live_at k reply by None = refl
  live_at k reply by (Some c) = settle_at n reply by k c

  forwarded_at : (k : KernelState) (t : TaskNo) (p : ℕ) (mode : Mode) (change : Option Msg) (o : Option Call)
      (r : Result Forwarded ForwardFault)
      → forward_told (with_count n k) t p mode change o r ≡ served_with_count n (forward_told k t p mode change o r)
  forwarded_at k t p mode change None (Ok f) = refl
  forwarded_at k t p mode change (Some c) (Ok f) = refl
  forwarded_at k t p mode change o (Err NotHeld) = refl
  forwarded_at k t p mode change o (Err NotForwardable) =
      ap (λ (z : Transition). telling z (Refused eperm)) (live_at k _ None o)
  forwarded_at k t p mode change o (Err NotConnected) =
      ap (λ (z : Transition). telling z (Refused enoent)) (live_at k _ None o)

  -- ---- a hangup
  hangup_at : (k : KernelState) (t : TaskNo) (p : ℕ) (o : Option PhoneState)
      → hangup_over (with_count n k) t p o ≡ served_with_count n (hangup_over k t p o)
  hangup_at k t p None = refl
  hangup_at k t p (Some Free) = refl
  hangup_at k t p (Some Connecting) = refl
  hangup_at k t p (Some HungUp) = refl
  hangup_at k t p (Some Slammed) = refl
  hangup_at k t p (Some (Connected u)) = refl

  pub request_at : (k : KernelState) (t : TaskNo) (r : Request)
      → serve_request (with_count n k) t r ≡ served_with_count n (serve_request k t r)
  request_at k t (ask.Call p msg) = over_at k t p msg _
  request_at k t ask.Receive = receive_at k t
  request_at k t (ask.Answer m reply) = answered_at k t reply _
  request_at k t (ask.Forward m p mode change) = forwarded_at k t p mode change _ _
  request_at k t (ask.Hangup p) = hangup_at k t p _
  request_at k t (ask.AreaMake base pages rights) = refl
  request_at k t (ask.AreaDrop base) = refl
  request_at k t (ask.Poke at' bytes) = refl
  request_at k t (ask.Peek at' count) = refl
  request_at k t ask.Nothing = refl

  spawn_by_at : (k : KernelState) (t : TaskNo) (limit : ℕ) (o : Option TaskNo)
      → spawning (with_count n k) t limit o ≡ step_with_count n (spawning k t limit o)
  spawn_by_at k t limit None = refl
  spawn_by_at k t limit (Some u) = refl

-- ---- one event more

-- what a step gives, where it is an event
abbrev step_and_event : Transition → Transition
step_and_event step = record { state = with_event step.state; entries = step.entries }

pub serve_counts : (n : ℕ) (k : KernelState) (t : TaskNo) (r : Request)
    → serve (with_count n k) t r ≡ served_with_count (n + 1) (serve k t r)
serve_counts n k t r = ap and_event (request_at n k t r)

pub kill_counts : (n : ℕ) (k : KernelState) (t : TaskNo)
    → kill_event (with_count n k) t ≡ step_with_count (n + 1) (kill_event k t)
kill_counts n k t = ap step_and_event (kill_at n k t)

pub spawn_counts : (n : ℕ) (k : KernelState) (limit : ℕ) (names : Option TaskNo)
    → spawn_event (with_count n k) limit names ≡ step_with_count (n + 1) (spawn_event k limit names)
spawn_counts n k limit names = ap step_and_event (spawn_by_at n k (next_task k) limit (named k names))
