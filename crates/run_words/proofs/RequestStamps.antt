-- A request, a kill and a spawn come to the same with other stamps of the calls.
use Rattle.std.proofs.Common.{◌≡◌, ◌≤◌, ℕ, ◌+◌, Bool, true, false, List, [], ◌∷◌, ◌++◌, refl, ◌∙◌, ap, Option, None, Some, option_map, option_and_then, Result, Ok, Err, cond, not, nat_le}
use Rattle.std.specs.Prelude.{⊤}
use Rattle.std.specs.Option.{option_map_or}
use Rattle.ipc_ids.specs.declared.numbers.TaskNo.{TaskNo}
use Rattle.ipc_ids.specs.declared.numbers.Code.{Code}
use Rattle.ipc_ids.specs.declared.numbers.Label.{Label}
use Rattle.ipc_ids.specs.declared.message.Msg.{Msg}
use Rattle.ipc_ids.specs.declared.message.Reply.{Reply}
use Rattle.ipc_ids.specs.declared.message.Mode.{Mode}
use Rattle.ipc_ids.specs.declared.message.Mode.TheVariants.{Plain, Route}
use Rattle.ipc_ids.specs.declared.message.Request.{Request}
use Rattle.ipc_ids.specs.declared.message.Request.TheVariants as ask
use Rattle.ipc_ids.specs.declared.message.PhoneState.{PhoneState}
use Rattle.ipc_ids.specs.declared.message.PhoneState.TheVariants.{Free, Connecting, Connected, HungUp, Slammed}
use Rattle.ipc_ids.specs.declared.methods.MethodKind.{MethodKind}
use Rattle.ipc_ids.specs.declared.methods.MethodKind.TheVariants.{PhoneHungUp, ConnectToMe, ConnectMeTo, DataWrite, DataRead, ShareOut, ShareIn, Unused, User}
use Rattle.ipc_ids.specs.Methods.{kind_of}
use Rattle.ipc_ids.specs.Tables.{most_active}
use Rattle.ipc_ids.specs.declared.message.Outcome.TheVariants.{Done, Refused}
use Rattle.ipc_ids.specs.Codes.{enoent, eperm, elimit, ehangup}
use Rattle.forwarding.specs.declared.passing.Forwarded.{Forwarded}
use Rattle.forwarding.specs.declared.passing.ForwardFault.{ForwardFault}
use Rattle.forwarding.specs.declared.passing.ForwardFault.TheVariants.{NotHeld, NotForwardable, NotConnected}
use Rattle.forwarding.specs.Forwarding.{is_held, msg_after, label_after}
use Rattle.forwarding.specs.Routes.{receiver_of, as_forwarded, forward_answer}
use Rattle.call_slab.specs.declared.call.Call.{Call}
use Rattle.call_slab.specs.declared.call.Place.{Place}
use Rattle.call_slab.specs.declared.call.Place.TheVariants.{Incoming, Dispatched, Answers}
use Rattle.phone_table.specs.Phones.{row_at, is_usable}
use Rattle.answerbox.specs.Calls.{CallTable, call_at, front, calls_at, active_calls, used}
use Rattle.switchboard.specs.State.{KernelState, Transition, label_of, phone_at, drain, with_event, with_calls}
use Rattle.switchboard.specs.Serving.{Handed, Served, then_serve, telling, refusal}
use Rattle.switchboard.specs.Joins.{bare_reply, settle_live, lives, drop_answer, new_call, acceptance, answer_at_once, with_delivery, delivery, reception, answer_to, passed_call, passage}
use Rattle.switchboard.specs.Kept.{accepts, first_usable_from, first_usable_of}
use Rattle.switchboard.specs.Data.{read_at_answer, delivered_read}
use Rattle.data_hooks.specs.DataMoments.{write_before_send, read_accept}
use Rattle.kernel_core.specs.Moments.{before_send, before_send_of, keeping_to_send, keeping_to_receive, carrying, bringing, asking, on_receive, on_receive_of, on_accept, on_accept_of, on_delivery, brings_bytes, reply_of}
use Rattle.kernel_core.specs.Calling.{call_over, call_tested, call_through, sent_to, is_callable}
use Rattle.kernel_core.specs.Receiving.{receive, receive_now, receive_first, drop_unawaited, next_unawaited, unawaited}
use Rattle.kernel_core.specs.Answering.{answer_held, accept_for, held_call}
use Rattle.kernel_core.specs.Forward.{forward_told}
use Rattle.kernel_core.specs.HangingUp.{hangup_over}
use Rattle.kernel_core.specs.Request.{serve_request}
use Rattle.kernel_core.specs.Kernel.{and_event, serve, kill_event, spawn_event, spawning, next_task, named}
use Rattle.run_words.specs.Stamped.{Rises, Shifts, restamp, restamped, with_stamps, step_with_stamps, served_with_stamps}
use Rattle.run_words.proofs.TableStamps.{found, count_at, count_active, used_at, left, put, queued, front_at}
use Rattle.run_words.proofs.KillStamps.{Comes, later, from_same, by_table, drain_at, if_at, dropped_at, hung_up_at, settle_at, kill_at}

-- what a request gives, with this table of calls
abbrev serving_table : Served → CallTable → Served
serving_table served calls =
    record { state = with_calls served.state calls; outcome = served.outcome; entries = served.entries }

-- what a moment of a live call hands to a join, with other stamps
abbrev handed_with_stamps : (Place → ℕ → ℕ) → ℕ → Handed → Handed
handed_with_stamps f d handed =
    record { state = with_stamps f d handed.state; call = restamp f handed.call; note = handed.note }

-- what a moment of a new call hands to a join, which is still to get its stamp
abbrev sent_with_stamps : (Place → ℕ → ℕ) → ℕ → Result Handed Code → Result Handed Code
sent_with_stamps f d (Ok h) = Ok (record { state = with_stamps f d h.state; call = h.call; note = h.note })
sent_with_stamps f d (Err code) = Err code

-- the stamps are late enough
abbrev IsLate : ℕ → Result Handed Code → Type 0
IsLate n (Ok h) = n ≤ h.state.calls.next_stamp
IsLate n (Err code) = ⊤

record Sends (f : Place → ℕ → ℕ) (d n : ℕ) (made sent : Result Handed Code) : Type 0 where
  same : made ≡ sent_with_stamps f d sent
  late : IsLate n sent

record Hands (f : Place → ℕ → ℕ) (d n : ℕ) (made handed : Handed) : Type 0 where
  same : made ≡ handed_with_stamps f d handed
  late : n ≤ handed.state.calls.next_stamp

module _ (f : Place → ℕ → ℕ) (d n : ℕ) where
  -- a request that changes the table of calls
  served_by : (s : Served) (calls : CallTable) → calls ≡ restamped f d s.state.calls
      → serving_table s calls ≡ served_with_stamps f d s
  served_by s calls e = ap (serving_table s) e

  -- ---- a call
  usable_from : (calls : CallTable) (t : TaskNo) (p : ℕ) (states : List PhoneState)
      → first_usable_from (restamped f d calls) t p states ≡ first_usable_from calls t p states
  usable_from calls t p [] = refl
  usable_from calls t p (state ∷ states) =
      ap
      (λ (m : ℕ). cond (is_usable state m) (Some (label_of t p)) (first_usable_from (restamped f d calls) t (p + 1) states))
      (count_active f d calls (label_of t p))
      ∙ ap
      (λ (o : Option Label). cond (is_usable state (active_calls calls (label_of t p))) (Some (label_of t p)) o)
      (usable_from calls t (p + 1) states)

  usable_in : (calls : CallTable) (t : TaskNo) (o : Option (List PhoneState))
      → option_and_then (first_usable_from (restamped f d calls) t 0) o
      ≡ option_and_then (first_usable_from calls t 0) o
  usable_in calls t None = refl
  usable_in calls t (Some states) = usable_from calls t 0 states

  usable : (k : KernelState) (t : TaskNo) → first_usable_of (with_stamps f d k) t ≡ first_usable_of k t
  usable k t = usable_in k.calls t (row_at k.tasks.phones t.0)

  kept_at : (k : KernelState) (c : Call) (o : Option Label) → n ≤ k.calls.next_stamp
      → Sends f d n (keeping_to_send (with_stamps f d k) c o) (keeping_to_send k c o)
  kept_at k c None l = record { same = refl; late = tt }
  kept_at k c (Some label) l = record { same = refl; late = l }

  carried_at : (k : KernelState) (c : Call) (r : Result (List ℕ) Code) → n ≤ k.calls.next_stamp
      → Sends f d n (carrying (with_stamps f d k) c r) (carrying k c r)
  carried_at k c (Ok b) l = record { same = refl; late = l }
  carried_at k c (Err e) l = record { same = refl; late = tt }

  brought_at : (k : KernelState) (c : Call) (r : Result ℕ Code) → n ≤ k.calls.next_stamp
      → Sends f d n (bringing (with_stamps f d k) c r) (bringing k c r)
  brought_at k c (Ok b) l = record { same = refl; late = l }
  brought_at k c (Err e) l = record { same = refl; late = tt }

  asked_at : (k : KernelState) (c : Call) (r : Result (Unit {0}) Code) → n ≤ k.calls.next_stamp
      → Sends f d n (asking (with_stamps f d k) c r) (asking k c r)
  asked_at k c (Ok b) l = record { same = refl; late = l }
  asked_at k c (Err e) l = record { same = refl; late = tt }

  sends_from : (x y s : Result Handed Code) → x ≡ y → Sends f d n y s → Sends f d n x s
  sends_from x y s e h = record { same = e ∙ h.same; late = h.late }

  send_of_at : (kind : MethodKind) (k : KernelState) (c : Call) → n ≤ k.calls.next_stamp
      → Sends f d n (before_send_of kind (with_stamps f d k) c) (before_send_of kind k c)
  send_of_at PhoneHungUp k c l = record { same = refl; late = l }
  send_of_at ConnectToMe k c l = record { same = refl; late = l }
  send_of_at ConnectMeTo k c l =
      sends_from _ _ _ (ap (keeping_to_send (with_stamps f d k) c) (usable k c.from.task))
      (kept_at k c (first_usable_of k c.from.task) l)
  send_of_at DataWrite k c l =
      sends_from _ _ _
      (ap
      (λ (m : ℕ). carrying (with_stamps f d k) c (write_before_send k.memory c.from.task c.request.args m))
      (used_at f d k.calls))
      (carried_at k c (write_before_send k.memory c.from.task c.request.args (used k.calls)) l)
  send_of_at DataRead k c l = brought_at k c _ l
  send_of_at ShareOut k c l = asked_at k c _ l
  send_of_at ShareIn k c l = asked_at k c _ l
  send_of_at Unused k c l = record { same = refl; late = l }
  send_of_at User k c l = record { same = refl; late = l }

  if_served : (b : Bool) (x y x' y' : Served) → x' ≡ served_with_stamps f d x → y' ≡ served_with_stamps f d y
      → cond b x' y' ≡ served_with_stamps f d (cond b x y)
  if_served true x y x' y' e g = e
  if_served false x y x' y' e g = g

  module _ (shifts : Shifts n d f) where
    sent_at : (u : TaskNo) (k : KernelState) (c : Call) (r : Result Handed Code) → IsLate n r
        → n ≤ k.calls.next_stamp
        → sent_to u (with_stamps f d k) c (sent_with_stamps f d r) ≡ served_with_stamps f d (sent_to u k c r)
    sent_at u k c (Ok h) r l = served_by (acceptance h (Some u)) _ (queued f d n shifts h.state.calls h.call r)
    sent_at u k c (Err code) r l =
        let moved : Call = record c { place = Answers c.from.task } in
        served_by (answer_at_once k moved code) _
        (queued f d n shifts k.calls (record moved { reply = bare_reply code }) l)

    at_once : (k : KernelState) (c : Call) (code : Code) → n ≤ k.calls.next_stamp
        → answer_at_once (with_stamps f d k) c code ≡ served_with_stamps f d (answer_at_once k c code)
    at_once k c code l =
        served_by (answer_at_once k c code) _ (queued f d n shifts k.calls (record c { reply = bare_reply code }) l)

    through_at : (k : KernelState) (t : TaskNo) (p : ℕ) (msg : Msg) (state : PhoneState) → n ≤ k.calls.next_stamp
        → call_through (with_stamps f d k) t p msg state ≡ served_with_stamps f d (call_through k t p msg state)
    through_at k t p msg Free l = refl
    through_at k t p msg Connecting l = refl
    through_at k t p msg HungUp l = at_once k (new_call k t p msg (Answers t)) ehangup l
    through_at k t p msg Slammed l = at_once k (new_call k t p msg (Answers t)) enoent l
    through_at k t p msg (Connected u) l =
        let c : Call = new_call k t p msg (Incoming u) in
        let sent : Sends f d n (before_send_of (kind_of msg.method) (with_stamps f d k) c) (before_send k c) =
        send_of_at (kind_of msg.method) k c l in
        ap (sent_to u (with_stamps f d k) c) sent.same ∙ sent_at u k c (before_send k c) sent.late l

    tested_at : (k : KernelState) (t : TaskNo) (p : ℕ) (msg : Msg) (state : PhoneState) → n ≤ k.calls.next_stamp
        → call_tested (with_stamps f d k) t p msg state ≡ served_with_stamps f d (call_tested k t p msg state)
    tested_at k t p msg state l =
        let j : KernelState = with_stamps f d k in
        let is_full : Bool = nat_le most_active (active_calls k.calls (label_of t p)) in
        ap
        (λ (m : ℕ). cond (not (is_callable (kind_of msg.method))) (refusal j eperm)
        (cond (nat_le most_active m) (refusal j elimit) (call_through j t p msg state)))
        (count_active f d k.calls (label_of t p))
        ∙ if_served (not (is_callable (kind_of msg.method)))
        (refusal k eperm) (cond is_full (refusal k elimit) (call_through k t p msg state))
        (refusal j eperm) (cond is_full (refusal j elimit) (call_through j t p msg state))
        refl
        (if_served is_full (refusal k elimit) (call_through k t p msg state)
        (refusal j elimit) (call_through j t p msg state)
        refl (through_at k t p msg state l))

    over_at : (k : KernelState) (t : TaskNo) (p : ℕ) (msg : Msg) (o : Option PhoneState) → n ≤ k.calls.next_stamp
        → call_over (with_stamps f d k) t p msg o ≡ served_with_stamps f d (call_over k t p msg o)
    over_at k t p msg None l = refl
    over_at k t p msg (Some Free) l = refl
    over_at k t p msg (Some Connecting) l = refl
    over_at k t p msg (Some (Connected u)) l = tested_at k t p msg (Connected u) l
    over_at k t p msg (Some HungUp) l = tested_at k t p msg HungUp l
    over_at k t p msg (Some Slammed) l = tested_at k t p msg Slammed l

  -- ---- a receive
  hands_from : (x y h : Handed) → x ≡ y → Hands f d n y h → Hands f d n x h
  hands_from x y h e g = record { same = e ∙ g.same; late = g.late }

  receive_of_at : (kind : MethodKind) (k : KernelState) (c : Call) (t : TaskNo) → n ≤ k.calls.next_stamp
      → Hands f d n (on_receive_of kind (with_stamps f d k) (restamp f c) t) (on_receive_of kind k c t)
  receive_of_at PhoneHungUp k c t l = record { same = refl; late = l }
  receive_of_at ConnectToMe k c t l =
      record { same = ap (keeping_to_receive (with_stamps f d k) (restamp f c)) (usable k t); late = l }
  receive_of_at ConnectMeTo k c t l = record { same = refl; late = l }
  receive_of_at DataWrite k c t l = record { same = refl; late = l }
  receive_of_at DataRead k c t l = record { same = refl; late = l }
  receive_of_at ShareOut k c t l = record { same = refl; late = l }
  receive_of_at ShareIn k c t l = record { same = refl; late = l }
  receive_of_at Unused k c t l = record { same = refl; late = l }
  receive_of_at User k c t l = record { same = refl; late = l }

  if_handed : (b : Bool) (x y x' y' : Handed) → x' ≡ handed_with_stamps f d x → y' ≡ handed_with_stamps f d y
      → cond b x' y' ≡ handed_with_stamps f d (cond b x y)
  if_handed true x y x' y' e g = e
  if_handed false x y x' y' e g = g

  replied : (kind : MethodKind) (c : Call) → reply_of kind (restamp f c) ≡ reply_of kind c
  replied PhoneHungUp c = refl
  replied ConnectToMe c = refl
  replied ConnectMeTo c = refl
  replied DataWrite c = refl
  replied DataRead c = refl
  replied ShareOut c = refl
  replied ShareIn c = refl
  replied Unused c = refl
  replied User c = refl

  delivery_at : (k : KernelState) (c : Call) (t : TaskNo)
      → on_delivery (with_stamps f d k) (restamp f c) t ≡ handed_with_stamps f d (on_delivery k c t)
  delivery_at k c t =
      let kind : MethodKind = kind_of c.request.method in
      if_handed (brings_bytes c) (delivered_read k c t) (with_delivery k c (reply_of kind c))
      (delivered_read (with_stamps f d k) (restamp f c) t)
      (with_delivery (with_stamps f d k) (restamp f c) (reply_of kind (restamp f c)))
      refl (ap (with_delivery (with_stamps f d k) (restamp f c)) (replied kind c))

  delivered_at : (t : TaskNo) (h : Handed)
      → delivery t (handed_with_stamps f d h) ≡ served_with_stamps f d (delivery t h)
  delivered_at t h = served_by (delivery t h) _ (left f d h.state.calls h.call.number.0)

  unawaited_at : (o : Option Call) → unawaited (option_map (restamp f) o) ≡ option_map (restamp f) (unawaited o)
  unawaited_at None = refl
  unawaited_at (Some c) =
      elim c.discard as (λ b. cond b (Some (restamp f c)) None ≡ option_map (restamp f) (cond b (Some c) None))
      [ true ↦ refl | false ↦ refl ]

  module _ (shifts : Shifts n d f) where
    received_at : (t : TaskNo) (h : Handed) → n ≤ h.state.calls.next_stamp
        → reception t (handed_with_stamps f d h) ≡ served_with_stamps f d (reception t h)
    received_at t h l =
        served_by (reception t h) _ (put f d n shifts h.state.calls h.call (Dispatched t) l)

    first_at_all : (k : KernelState) (t : TaskNo) (a i : Option Call) → n ≤ k.calls.next_stamp
        → receive_first (with_stamps f d k) t (option_map (restamp f) a) (option_map (restamp f) i)
        ≡ served_with_stamps f d (receive_first k t a i)
    first_at_all k t (Some c) i l = ap (delivery t) (delivery_at k c t) ∙ delivered_at t (on_delivery k c t)
    first_at_all k t None (Some c) l =
        let h : Hands f d n (on_receive (with_stamps f d k) (restamp f c) t) (on_receive k c t) =
        receive_of_at (kind_of c.request.method) k c t l in
        ap (reception t) h.same ∙ received_at t (on_receive k c t) h.late
    first_at_all k t None None l = refl

    module _ (rises : Rises f) where
      now_at : (t : TaskNo) (k : KernelState) → n ≤ k.calls.next_stamp
          → receive_now t (with_stamps f d k) ≡ served_with_stamps f d (receive_now t k)
      now_at t k l =
          ap
          (λ (a : Option Call). receive_first (with_stamps f d k) t a (front (restamped f d k.calls) (Incoming t)))
          (front_at f d rises k.calls (Answers t))
          ∙ ap
          (λ (i : Option Call). receive_first (with_stamps f d k) t (option_map (restamp f) (front k.calls (Answers t))) i)
          (front_at f d rises k.calls (Incoming t))
          ∙ first_at_all k t (front k.calls (Answers t)) (front k.calls (Incoming t)) l

      unawaited_dropped : (t : TaskNo) (k : KernelState) → n ≤ k.calls.next_stamp
          → Comes f d n (drop_unawaited t (with_stamps f d k)) (drop_unawaited t k)
      unawaited_dropped t k l =
          from_same f d n _ _ _
          (ap (λ (m : ℕ). drain (next_unawaited t) (drop_answer t) m (with_stamps f d k))
          (count_at f d k.calls (Answers t)))
          (drain_at f d n (next_unawaited t) (drop_answer t)
          (λ j. ap unawaited (front_at f d rises j.calls (Answers t)) ∙ unawaited_at (front j.calls (Answers t)))
          (dropped_at f d n t) (calls_at k.calls (Answers t)) k l)

      receive_at : (k : KernelState) (t : TaskNo) → n ≤ k.calls.next_stamp
          → receive (with_stamps f d k) t ≡ served_with_stamps f d (receive k t)
      receive_at k t l =
          let step : Transition = drop_unawaited t k in
          let dropped : Comes f d n (drop_unawaited t (with_stamps f d k)) step = unawaited_dropped t k l in
          ap (λ (z : Transition). then_serve z (receive_now t)) dropped.same
          ∙ ap (λ (z : Served). record z { entries = step.entries ++ z.entries }) (now_at t step.state dropped.late)

  -- ---- an answer
  accept_of_at : (kind : MethodKind) (k : KernelState) (c : Call) (reply : Reply) (t u : TaskNo)
      → n ≤ k.calls.next_stamp
      → Hands f d n (on_accept_of kind (with_stamps f d k) (restamp f c) reply t u) (on_accept_of kind k c reply t u)
  accept_of_at PhoneHungUp k c reply t u l = record { same = refl; late = l }
  accept_of_at ConnectToMe k c reply t u l = record { same = refl; late = l }
  accept_of_at ConnectMeTo k c reply t u l = record { same = refl; late = l }
  accept_of_at DataWrite k c reply t u l = record { same = refl; late = l }
  accept_of_at DataRead k c reply t u l =
      record {
        same = ap
            (λ (m : ℕ). read_at_answer (with_stamps f d k) (restamp f c) reply
            (read_accept k.memory t c.request.args reply m))
            (used_at f d k.calls);
        late = l;
      }
  accept_of_at ShareOut k c reply t u l = record { same = refl; late = l }
  accept_of_at ShareIn k c reply t u l = record { same = refl; late = l }
  accept_of_at Unused k c reply t u l = record { same = refl; late = l }
  accept_of_at User k c reply t u l = record { same = refl; late = l }

  held_at : (t : TaskNo) (o : Option Call)
      → held_call t (option_map (restamp f) o) ≡ option_map (restamp f) (held_call t o)
  held_at t None = refl
  held_at t (Some c) =
      elim (is_held t c) as (λ b. cond b (Some (restamp f c)) None ≡ option_map (restamp f) (cond b (Some c) None))
      [ true ↦ refl | false ↦ refl ]

  -- ---- a forward
  msg_same : (change : Option Msg) (c : Call) → msg_after change (restamp f c) ≡ msg_after change c
  msg_same None c = refl
  msg_same (Some msg) c = refl

  label_same : (t : TaskNo) (p : ℕ) (mode : Mode) (c : Call) → label_after t p mode (restamp f c) ≡ label_after t p mode c
  label_same t p Plain c = refl
  label_same t p Route c = refl

  told_at : (t : TaskNo) (phone : Option PhoneState) (m : ℕ) (change : Option Msg) (o : Option Call)
      → as_forwarded m (option_map_or (receiver_of t phone change) (option_map (restamp f) o) (Err NotHeld))
      ≡ as_forwarded m (option_map_or (receiver_of t phone change) o (Err NotHeld))
  told_at t phone m change None = refl
  told_at t phone m change (Some c) = refl

  answer_told : (k : KernelState) (t : TaskNo) (phone : Option PhoneState) (m : ℕ) (change : Option Msg)
      → forward_answer (restamped f d k.calls) t phone m change ≡ forward_answer k.calls t phone m change
  answer_told k t phone m change =
      ap (λ (o : Option Call). as_forwarded m (option_map_or (receiver_of t phone change) o (Err NotHeld)))
      (found f k.calls.records m)
      ∙ told_at t phone m change (call_at k.calls m)

  module _ (shifts : Shifts n d f) where
    answering_at : (h : Handed) (by : Option TaskNo) (u : TaskNo) → n ≤ h.state.calls.next_stamp
        → Comes f d n (answer_to (handed_with_stamps f d h) by u) (answer_to h by u)
    answering_at h by u l =
        by_table f d n (answer_to h by u) _ (put f d n shifts h.state.calls h.call (Answers u) l)
        (later f d n h.state.calls.next_stamp l)

    accepted_at : (k : KernelState) (t : TaskNo) (reply : Reply) (c : Call) (o : Option TaskNo) (b : Bool)
        → n ≤ k.calls.next_stamp
        → Comes f d n (accept_for (with_stamps f d k) t reply (restamp f c) o b) (accept_for k t reply c o b)
    accepted_at k t reply c None b l =
        by_table f d n (accept_for k t reply c None b) _ (left f d k.calls c.number.0) l
    accepted_at k t reply c (Some u) false l =
        by_table f d n (accept_for k t reply c (Some u) false) _ (left f d k.calls c.number.0) l
    accepted_at k t reply c (Some u) true l =
        let h : Hands f d n (on_accept (with_stamps f d k) (restamp f c) reply t u) (on_accept k c reply t u) =
        accept_of_at (kind_of c.request.method) k c reply t u l in
        from_same f d n _ _ _ (ap (λ (x : Handed). answer_to x (Some t) u) h.same)
        (answering_at (on_accept k c reply t u) (Some t) u h.late)

    answered_at : (k : KernelState) (t : TaskNo) (reply : Reply) (o : Option Call) → n ≤ k.calls.next_stamp
        → answer_held (with_stamps f d k) t reply (option_map (restamp f) o)
        ≡ served_with_stamps f d (answer_held k t reply o)
    answered_at k t reply None l = refl
    answered_at k t reply (Some c) l =
        let answered : Comes f d n _ _ =
        if_at f d n (accepts reply.code) _ _ _ _
        (accepted_at k t reply c c.caller (lives k c.caller) l) (settle_at f d n shifts reply (Some t) k c l) in
        ap (λ (z : Transition). telling z Done) answered.same

    live_at : (k : KernelState) (reply : Reply) (by : Option TaskNo) (o : Option Call) → n ≤ k.calls.next_stamp
        → settle_live (with_stamps f d k) reply by (option_map (restamp f) o)
        ≡ step_with_stamps f d (settle_live k reply by o)
    live_at k reply by None l = refl
    live_at k reply by (Some c) l = (settle_at f d n shifts reply by k c l).same

    passed_at : (k : KernelState) (c : Call) (msg : Msg) (label : Label) (t u : TaskNo) → n ≤ k.calls.next_stamp
        → Comes f d n (passage msg label t u (with_stamps f d k) (restamp f c)) (passage msg label t u k c)
    passed_at k c msg label t u l =
        by_table f d n (passage msg label t u k c) _
        (put f d n shifts k.calls (passed_call msg label c) (Incoming u) l) (later f d n k.calls.next_stamp l)

    forwarded_at : (k : KernelState) (t : TaskNo) (p : ℕ) (mode : Mode) (change : Option Msg) (o : Option Call)
        (r : Result Forwarded ForwardFault) → n ≤ k.calls.next_stamp
        → forward_told (with_stamps f d k) t p mode change (option_map (restamp f) o) r
        ≡ served_with_stamps f d (forward_told k t p mode change o r)
    forwarded_at k t p mode change None (Ok to) l = refl
    forwarded_at k t p mode change (Some c) (Ok to) l =
        let j : KernelState = with_stamps f d k in
        ap (λ (msg : Msg). telling (passage msg (label_after t p mode (restamp f c)) t to.to j (restamp f c)) Done)
        (msg_same change c)
        ∙ ap (λ (label : Label). telling (passage (msg_after change c) label t to.to j (restamp f c)) Done)
        (label_same t p mode c)
        ∙ ap (λ (z : Transition). telling z Done)
        (passed_at k c (msg_after change c) (label_after t p mode c) t to.to l).same
    forwarded_at k t p mode change o (Err NotHeld) l = refl
    forwarded_at k t p mode change o (Err NotForwardable) l =
        ap (λ (z : Transition). telling z (Refused eperm)) (live_at k _ None o l)
    forwarded_at k t p mode change o (Err NotConnected) l =
        ap (λ (z : Transition). telling z (Refused enoent)) (live_at k _ None o l)

    -- ---- a hangup
    hangup_at : (k : KernelState) (t : TaskNo) (p : ℕ) (o : Option PhoneState) → n ≤ k.calls.next_stamp
        → hangup_over (with_stamps f d k) t p o ≡ served_with_stamps f d (hangup_over k t p o)
    hangup_at k t p None l = refl
    hangup_at k t p (Some Free) l = refl
    hangup_at k t p (Some Connecting) l = refl
    hangup_at k t p (Some HungUp) l = refl
    hangup_at k t p (Some Slammed) l = refl
    hangup_at k t p (Some (Connected u)) l =
        ap (λ (z : Transition). telling z Done) (hung_up_at f d n shifts k t p (Some (Connected u)) l).same

    module _ (rises : Rises f) where
      request_at : (k : KernelState) (t : TaskNo) (r : Request) → n ≤ k.calls.next_stamp
          → serve_request (with_stamps f d k) t r ≡ served_with_stamps f d (serve_request k t r)
      request_at k t (ask.Call p msg) l = over_at shifts k t p msg (phone_at k t p) l
      request_at k t ask.Receive l = receive_at shifts rises k t l
      request_at k t (ask.Answer m reply) l =
          ap (λ (o : Option Call). answer_held (with_stamps f d k) t reply (held_call t o)) (found f k.calls.records m)
          ∙ ap (answer_held (with_stamps f d k) t reply) (held_at t (call_at k.calls m))
          ∙ answered_at k t reply (held_call t (call_at k.calls m)) l
      request_at k t (ask.Forward m p mode change) l =
          ap
          (λ (o : Option Call). forward_told (with_stamps f d k) t p mode change o
          (forward_answer (restamped f d k.calls) t (phone_at k t p) m change))
          (found f k.calls.records m)
          ∙ ap
          (λ (r : Result Forwarded ForwardFault). forward_told (with_stamps f d k) t p mode change
          (option_map (restamp f) (call_at k.calls m)) r)
          (answer_told k t (phone_at k t p) m change)
          ∙ forwarded_at k t p mode change (call_at k.calls m) (forward_answer k.calls t (phone_at k t p) m change) l
      request_at k t (ask.Hangup p) l = hangup_at k t p (phone_at k t p) l
      request_at k t (ask.AreaMake base pages rights) l = refl
      request_at k t (ask.AreaDrop base) l = refl
      request_at k t (ask.Poke at' bytes) l = refl
      request_at k t (ask.Peek at' count) l = refl
      request_at k t ask.Nothing l = refl

-- what a step gives, where it is an event
abbrev step_and_event : Transition → Transition
step_and_event step = record { state = with_event step.state; entries = step.entries }

pub serve_stamps : (f : Place → ℕ → ℕ) (n d : ℕ) (k : KernelState) (t : TaskNo) (asked : Request)
    → Rises f → Shifts n d f → n ≤ k.calls.next_stamp
    → serve (with_stamps f d k) t asked ≡ served_with_stamps f d (serve k t asked)
serve_stamps f n d k t asked rises shifts l = ap and_event (request_at f d n shifts rises k t asked l)

pub kill_stamps : (f : Place → ℕ → ℕ) (n d : ℕ) (k : KernelState) (t : TaskNo)
    → Rises f → Shifts n d f → n ≤ k.calls.next_stamp
    → kill_event (with_stamps f d k) t ≡ step_with_stamps f d (kill_event k t)
kill_stamps f n d k t rises shifts l = ap step_and_event (kill_at f d n shifts rises k t l).same

spawned : (f : Place → ℕ → ℕ) (d : ℕ) (k : KernelState) (t : TaskNo) (limit : ℕ) (o : Option TaskNo)
    → spawning (with_stamps f d k) t limit o ≡ step_with_stamps f d (spawning k t limit o)
spawned f d k t limit None = refl
spawned f d k t limit (Some u) = refl

pub spawn_stamps : (f : Place → ℕ → ℕ) (d : ℕ) (k : KernelState) (limit : ℕ) (names : Option TaskNo)
    → spawn_event (with_stamps f d k) limit names ≡ step_with_stamps f d (spawn_event k limit names)
spawn_stamps f d k limit names = ap step_and_event (spawned f d k (next_task k) limit (named k names))
