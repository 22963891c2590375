-- Each event keeps that argument 5 of connect calls tells their phones.
use Rattle.std.proofs.Common.{◌≡◌, ℕ, ◌+◌, ◌*◌, inl, inr, List, [], Option, None, Some, refl, ap, sym, subst, ◌∙◌, arith, nat_lt}
use Rattle.std.specs.Prelude.{length, slice_index, slice_set}
use Rattle.std.specs.Ordering.{nat_cmp}
use Rattle.std.specs.FinMap.{get-empty}
use Rattle.std.proofs.lemmas.List.{length-set, get_or-set_same}
use Rattle.ipc_ids.specs.declared.numbers.Label.{Label}
use Rattle.ipc_ids.specs.declared.numbers.TaskNo.{TaskNo}
use Rattle.ipc_ids.specs.declared.message.Msg.{Msg}
use Rattle.ipc_ids.specs.declared.message.Mode.{Mode}
use Rattle.ipc_ids.specs.declared.message.Reply.{Reply}
use Rattle.ipc_ids.specs.declared.message.Request.{Request}
use Rattle.ipc_ids.specs.declared.message.Request.TheVariants as request
use Rattle.ipc_ids.specs.declared.methods.MethodKind.{MethodKind}
use Rattle.ipc_ids.specs.declared.methods.MethodKind.TheVariants.{ConnectToMe, ConnectMeTo, DataRead, User}
use Rattle.ipc_ids.specs.Codes.{ehangup, eforward}
use Rattle.ipc_ids.specs.Methods.{kind_of, connect_me_to}
use Rattle.ipc_ids.specs.Tables.{most_data}
use Rattle.call_slab.specs.declared.call.Call.{Call}
use Rattle.call_slab.specs.declared.call.Place.{Place}
use Rattle.call_slab.specs.declared.call.Place.TheVariants.{Incoming, Dispatched, Answers}
use Rattle.answerbox.specs.Calls.{CallTable, enqueue, put_at, without_call, without_caller}
use Rattle.forwarding.specs.Forwarding.{changed_msg, msg_after, label_after}
use Rattle.data_hooks.specs.DataMoments.{count_of, cut_args}
use Rattle.switchboard.specs.State.{KernelState, Transition, start}
use Rattle.switchboard.specs.Kept.{lent_phone, first_usable_of}
use Rattle.switchboard.specs.Data.{accepted_read}
use Rattle.switchboard.specs.Serving.{Served}
use Rattle.switchboard.specs.Joins.{bare_reply, new_call, reception, answer_to, declined_call, passed_call, passage, hangup_call}
use Rattle.switchboard.proofs.Repeats.{by_test}
use Rattle.switchboard.proofs.Usable.{usable_is}
use Rattle.switchboard.proofs.SoundJoins.{unfreed}
use Rattle.kernel_core.specs.Moments.{number_of, on_receive_of, on_accept_of, cut_call}
use Rattle.kernel_core.specs.Kernel.{serve, kill_event, spawn_event, spawning, next_task, named}
use Rattle.kernel_core.proofs.ByRequest as join
use Rattle.kernel_core.proofs.ByKill as end
use Rattle.kernel_laws.specs.Connecting.{TellsPhone, TellPhones, HasFive}
use Rattle.kernel_laws.proofs.Tables.{came_by, put_by, gone_by, forgot_by}

-- a call that no task holds, at its place
away : (c : Call) (place : Place) → c.place ≡ place → ((t : TaskNo) → place ≡ Dispatched t → ⊥) → length c.msg.args ≡ 5
    → ((l : Label) → c.request.method ≡ connect_me_to → c.reserved ≡ Some l
    → slice_index c.msg.args 4 ≡ 64 * l.task.0 + l.phone.0)
    → TellsPhone c
away c place at unheld five tells = record {
  five = five;
  me_to = tells;
  to_me = λ t l asks held kept. absurd (unheld t (sym at ∙ held));
  without = λ t asks held kept. absurd (unheld t (sym at ∙ held));
}

queue_unheld : (u t : TaskNo) → Incoming u ≡ Dispatched t → ⊥
queue_unheld u t e = cc

answers_unheld : (u t : TaskNo) → Answers u ≡ Dispatched t → ⊥
answers_unheld u t e = cc

-- an answered call
answered : (c d : Call) (u : TaskNo) (stamp : ℕ) → d.msg ≡ c.msg → d.request ≡ c.request
    → ((l : Label) → d.reserved ≡ Some l → c.reserved ≡ Some l) → TellsPhone c
    → TellsPhone (record d { place = Answers u; stamp = stamp })
answered c d u stamp msg request reserved h =
    away (record d { place = Answers u; stamp = stamp }) (Answers u) refl (answers_unheld u)
    (ap (λ (m : Msg). length m.args) msg ∙ h.five)
    (λ l asks kept.
    ap (λ (m : Msg). slice_index m.args 4) msg
    ∙ h.me_to l (ap (λ (m : Msg). m.method) (sym request) ∙ asks) (reserved l kept))

module _ (q : CallTable) (h : TellPhones q) where
  tell_come : (d : Call) → TellsPhone (record d { stamp = q.next_stamp }) → TellPhones (enqueue q d)
  tell_come d tells n c is = elim (came_by q d c n is) [ inl e ↦ subst TellsPhone e.1 tells | inr e ↦ h n c e ]

  tell_put : (d : Call) (place : Place) → TellsPhone (record d { place = place; stamp = q.next_stamp })
      → TellPhones (put_at q d place)
  tell_put d place tells n c is =
      elim (put_by q d c place n is) [ inl e ↦ subst TellsPhone e.1 tells | inr e ↦ h n c e ]

  tell_gone : (m : ℕ) → TellPhones (without_call q m)
  tell_gone m n c is = h n c (gone_by q m n c is)

  tell_forgot : (m : ℕ) → TellPhones (without_caller q m)
  tell_forgot m n c is = elim (forgot_by q m n c is) [
    | inl e ↦
        let g = h m e.0 e.1 in
        subst TellsPhone e.3 (record { five = g.five; me_to = g.me_to; to_me = g.to_me; without = g.without })
    | inr e ↦ h n c e
  ]

  -- a call without a phone comes to a queue
  tell_bare : (d : Call) (place : Place) → d.place ≡ place → ((t : TaskNo) → place ≡ Dispatched t → ⊥)
      → length d.msg.args ≡ 5 → d.reserved ≡ None → TellPhones (enqueue q d)
  tell_bare d place at unheld five none =
      tell_come d (away (record d { stamp = q.next_stamp }) place at unheld five
      (λ l asks kept. absurd (let e = sym none ∙ kept in cc)))

cut_five : (args : List ℕ) → length args ≡ 5 → length (cut_args args) ≡ 5
cut_five args five =
    by_test (λ (xs : List ℕ). length xs ≡ 5) (nat_lt most_data (count_of args)) _ _ (λ _. refl) (λ _. five)

module _ (k : KernelState) (t : TaskNo) (h : TellPhones k.calls) where
  module _ (p : ℕ) (msg : Msg) (five : length msg.args ≡ 5) (u : TaskNo) where
    abbrev called : Call
    called = new_call k t p msg (Incoming u)

    -- a call that names a phone of the caller
    keeping :
        (l : Label) → first_usable_of k t ≡ Some l → TellPhones (enqueue k.calls (join.kept_to_send k called l).call)
    keeping l is =
        let n : ℕ = 64 * t.0 + l.phone.0 in
        let d : Call = (join.kept_to_send k called l).call in
        let task : l.task.0 ≡ t.0 = ap (λ (x : TaskNo). x.0) (usable_is k t l is).own in
        let told : slice_index (slice_set msg.args 4 n) 4 ≡ n = get_or-set_same msg.args 4 n 0 (omega (arith, five)) in
        tell_come k.calls h d (away (record d { stamp = k.calls.next_stamp }) (Incoming u) refl (queue_unheld u)
        (length-set msg.args 4 n ∙ five)
        (λ m asks kept. let same : l ≡ m = cc in
        told ∙ ap (λ x. 64 * x + l.phone.0) (sym task) ∙ ap (λ (x : Label). 64 * x.task.0 + x.phone.0) same))

    -- and one without, whose arguments are cut down
    cut : (bytes : List ℕ) → TellPhones (enqueue k.calls (record (cut_call called) { buffer = bytes }))
    cut bytes =
        tell_bare k.calls h (record (cut_call called) { buffer = bytes }) (Incoming u) refl (queue_unheld u)
        (cut_five msg.args five) refl

  -- a receive

  received_as :
      (c : Call) (kind : MethodKind) → TellsPhone c → kind_of c.request.method ≡ kind
      → TellPhones (reception t (on_receive_of kind k c t)).state.calls
  received_as c ConnectToMe g is =
      let o : Option Label = first_usable_of k t in
      let n : ℕ = number_of o in
      let d : Call = record c {
        msg = record { method = c.msg.method; args = slice_set c.msg.args 4 n };
        reserved = o;
      } in
      let told : slice_index (slice_set c.msg.args 4 n) 4 ≡ n =
      get_or-set_same c.msg.args 4 n 0 (let five = g.five in omega (arith, five)) in
      tell_put k.calls h d (Dispatched t) (record {
        five = length-set c.msg.args 4 n ∙ g.five;
        me_to = λ l asks kept. absurd (let e : ConnectToMe ≡ ConnectMeTo = sym is ∙ ap kind_of asks in cc);
        to_me = λ u l asks held kept. told ∙ ap number_of kept;
        without = λ u asks held kept. told ∙ ap number_of kept;
      })
  received_as c kind g is = tell_put k.calls h c (Dispatched t) (record {
    five = g.five;
    me_to = g.me_to;
    to_me = λ u l asks held kept. absurd (let e : kind ≡ ConnectToMe = sym is ∙ ap kind_of asks in cc);
    without = λ u asks held kept. absurd (let e : kind ≡ ConnectToMe = sym is ∙ ap kind_of asks in cc);
  })

  -- an answer, and a forward

  module _ (c : Call) (g : TellsPhone c) where
    replied_as :
        (d : Call) (u : TaskNo) → d.msg ≡ c.msg → d.request ≡ c.request
        → ((l : Label) → d.reserved ≡ Some l → c.reserved ≡ Some l) → TellPhones (put_at k.calls d (Answers u))
    replied_as d u msg request reserved =
        tell_put k.calls h d (Answers u) (answered c d u k.calls.next_stamp msg request reserved g)

    declining : (reply : Reply) (u : TaskNo) → TellPhones (put_at k.calls (declined_call c reply) (Answers u))
    declining reply u = replied_as (declined_call c reply) u refl refl (unfreed (lent_phone c) c.reserved)

    accepted_as :
        (reply : Reply) (u : TaskNo) (kind : MethodKind)
        → TellPhones (answer_to (on_accept_of kind k c reply t u) (Some t) u).state.calls
    accepted_as reply u DataRead = replied_as (accepted_read k c reply t).call u refl refl (λ l kept. kept)
    accepted_as reply u kind = replied_as (on_accept_of kind k c reply t u).call u refl refl (λ l kept. kept)

    -- the message of a call that is passed on
    module _ (change : Msg) (five : length change.args ≡ 5) where
      still_five : (kind : MethodKind) → length (changed_msg kind change c.msg).args ≡ 5
      still_five User = five
      still_five ConnectToMe = length-set change.args 4 (slice_index c.msg.args 4) ∙ five
      still_five ConnectMeTo = length-set change.args 4 (slice_index c.msg.args 4) ∙ five
      still_five _ = g.five

      same_fifth : slice_index (changed_msg ConnectMeTo change c.msg).args 4 ≡ slice_index c.msg.args 4
      same_fifth = get_or-set_same change.args 4 (slice_index c.msg.args 4) 0 (omega (arith, five))

    passed : (p n : ℕ) (mode : Mode) (change : Option Msg) (to : TaskNo) → HasFive (request.Forward n p mode change)
        → TellPhones (passage (msg_after change c) (label_after t p mode c) t to k c).state.calls
    passed p n mode None to five = tell_put k.calls h (passed_call c.msg (label_after t p mode c) c) (Incoming to)
        (away (record (passed_call c.msg (label_after t p mode c) c) { place = Incoming to; stamp = k.calls.next_stamp })
        (Incoming to) refl (queue_unheld to) g.five
        (λ l asks kept. g.me_to l asks (unfreed (lent_phone c) c.reserved l kept)))
    passed p n mode (Some change) to five =
        let msg : Msg = changed_msg (kind_of c.request.method) change c.msg in
        tell_put k.calls h (passed_call msg (label_after t p mode c) c) (Incoming to)
        (away (record (passed_call msg (label_after t p mode c) c) { place = Incoming to; stamp = k.calls.next_stamp })
        (Incoming to) refl (queue_unheld to) (still_five change five (kind_of c.request.method)) (λ l asks kept.
        ap (λ (x : MethodKind). slice_index (changed_msg x change c.msg).args 4) (ap kind_of asks)
        ∙ same_fifth change five ∙ g.me_to l asks (unfreed (lent_phone c) c.reserved l kept)))

  -- a hangup, of a request or of a kill
  hung_up : (p : ℕ) (u : TaskNo) → TellPhones (enqueue k.calls (hangup_call k t p u))
  hung_up p u = tell_bare k.calls h (hangup_call k t p u) (Incoming u) refl (queue_unheld u) refl refl

  -- each join of a request
  joined : (asked : Request) → HasFive asked → (s : Served) → join.Joins t asked k s → TellPhones s.state.calls
  joined asked five s (join.back p msg _ code is _ _ _) =
      tell_bare k.calls h (record (new_call k t p msg (Answers t)) { reply = bare_reply code }) (Answers t) refl
      (answers_unheld t) (subst HasFive is five) refl
  joined asked five s (join.sent p msg u is _ _ _) =
      tell_bare k.calls h (new_call k t p msg (Incoming u)) (Incoming u) refl (queue_unheld u)
      (subst HasFive is five) refl
  joined asked five s (join.sent_keeping p msg u l is _ _ first) = keeping p msg (subst HasFive is five) u l first
  joined asked five s (join.sent_carrying p msg u bytes is _ _ _) = cut p msg (subst HasFive is five) u bytes
  joined asked five s (join.sent_cut p msg u is _ _) = cut p msg (subst HasFive is five) u []
  joined asked five s (join.taken n c kind _ at is) = received_as c kind (h n c at.live) is
  joined asked five s (join.delivered n c _ _ _) = tell_gone k.calls h c.number.0
  joined asked five s (join.brought n c _ _ _) = tell_gone k.calls h c.number.0
  joined asked five s (join.vanished n c o _ _ _ _) = tell_gone k.calls h c.number.0
  joined asked five s (join.turned_down n c reply u _ at _ _ _) = declining c (h n c at.live) reply u
  joined asked five s (join.bounced n p mode change c u code _ at _ _) =
      declining c (h n c at.live) (bare_reply eforward) u
  joined asked five s (join.accepted n c reply u kind _ at _ _ _ _) = accepted_as c (h n c at.live) reply u kind
  joined asked five s (join.passed n p mode change c u is at _ _) =
      passed c (h n c at.live) p n mode change u (subst HasFive is five)
  joined asked five s (join.hung_up p u _ _) = hung_up p u
  joined asked five s _ = h

  -- and of a kill
  ended : (s : Transition) → end.Ends t k s → TellPhones s.state.calls
  ended s (end.hung_up p u _) = hung_up p u
  ended s (end.vanished n c place _ _ _) = tell_gone k.calls h c.number.0
  ended s (end.bounced n c u place _ at _ _) = declining c (h n c at.live) (bare_reply ehangup) u
  ended s (end.dropped n c _) = tell_gone k.calls h c.number.0
  ended s (end.forgotten c _) = tell_forgot k.calls h c.number.0
  ended s _ = h

pub start_tells : TellPhones start.calls
start_tells n d is = absurd (let e : None ≡ Some d = sym (get-empty nat_cmp n) ∙ is in cc)

pub serve_tells :
    (k : KernelState) (t : TaskNo) (asked : Request) → TellPhones k.calls → HasFive asked
    → TellPhones (serve k t asked).state.calls
serve_tells k t asked h five =
    join.states_by_request t asked (λ j. TellPhones j.calls) (λ j. TellPhones j.calls)
    (λ j n c g _ _. tell_gone j.calls g c.number.0) (λ j s g come. joined j t g asked five s come) k h

pub kill_tells :
    (k : KernelState) (t : TaskNo) → TellPhones k.calls → TellPhones (kill_event k t).state.calls
kill_tells k t h = end.states_by_kill t (λ j. TellPhones j.calls) (λ j s g part. ended j t g s part) k h

pub spawn_tells : (k : KernelState) (limit : ℕ) (names : Option TaskNo) → TellPhones k.calls
    → TellPhones (spawn_event k limit names).state.calls
spawn_tells k limit names h = by_name (named k names) where
  by_name : (o : Option TaskNo) → TellPhones (spawning k (next_task k) limit o).state.calls
  by_name None = h
  by_name (Some u) = h
