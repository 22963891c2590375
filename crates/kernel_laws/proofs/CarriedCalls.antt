-- A live call keeps what it carries.
use Rattle.std.proofs.Common.{◌≡◌, ℕ, ◌+◌, ◌≤◌, ◌⊎◌, inl, inr, Bool, true, false, Option, None, Some, refl, ap, sym, subst, ◌∙◌, arith}
use Rattle.std.specs.FinMap.{insert}
use Rattle.ipc_ids.specs.declared.numbers.CallNo.{CallNo}
use Rattle.ipc_ids.specs.declared.numbers.TaskNo.{TaskNo}
use Rattle.ipc_ids.specs.declared.message.Msg.{Msg}
use Rattle.ipc_ids.specs.declared.message.Reply.{Reply}
use Rattle.ipc_ids.specs.declared.message.Request.{Request}
use Rattle.ipc_ids.specs.declared.methods.MethodKind.{MethodKind}
use Rattle.ipc_ids.specs.declared.methods.MethodKind.TheVariants.{ConnectToMe, DataWrite, DataRead}
use Rattle.ipc_ids.specs.Codes.{ehangup, eforward}
use Rattle.ipc_ids.specs.Methods.{data_write, first_user_method, kind_of}
use Rattle.call_slab.specs.declared.call.Call.{Call}
use Rattle.call_slab.specs.declared.call.Place.{Place}
use Rattle.call_slab.specs.declared.call.Place.TheVariants.{Incoming, Dispatched, Answers}
use Rattle.answerbox.specs.Calls.{CallTable, call_at, calls_of, enqueue, put_at, without_call}
use Rattle.answerbox.proofs.Callers.{calls_of_live}
use Rattle.forwarding.specs.Forwarding.{is_held, msg_after, label_after}
use Rattle.switchboard.specs.State.{KernelState, Transition}
use Rattle.switchboard.specs.Sound.{IsSound}
use Rattle.switchboard.specs.Data.{accepted_read}
use Rattle.switchboard.specs.Joins.{bare_reply, new_call, reception, answer_to, declined_call, passed_call, forget_call, hangup_call}
use Rattle.switchboard.specs.Serving.{Handed, Served}
use Rattle.kernel_core.specs.Moments.{on_receive_of, on_accept_of, cut_call}
use Rattle.kernel_core.specs.Kernel.{serve, kill_event}
use Rattle.kernel_core.proofs.InEvent.{same_place-true}
use Rattle.kernel_core.proofs.ByRequest as join
use Rattle.kernel_core.proofs.ByKill as end
use Rattle.kernel_laws.specs.Carrying.{Forwards, IsCarried, AreCarried}
use Rattle.kernel_laws.proofs.Methods.{user_kind}
use Rattle.kernel_laws.proofs.Tables.{came_in, came_by, gone_by}
use Rattle.std.proofs.lemmas.Bool.{false≢true}
use Rattle.std.proofs.lemmas.Option.{same_Some}

-- ---- one record after another

same_record : (M : Type 0) (c : Call) → IsCarried M c c
same_record M c = record { from = refl; request = refl; bytes = λ _. refl; message = λ _. inr refl; answer = λ u at. (at, refl, refl) }

then_record : (M : Type 0) (c d e : Call) → IsCarried M c d → IsCarried M d e → IsCarried M c e
then_record M c d e one two = record {
  from = two.from ∙ one.from;
  request = two.request ∙ one.request;
  bytes = λ w. two.bytes (ap (λ (m : Msg). m.method) one.request ∙ w) ∙ one.bytes w;
  message = λ far. elim (one.message far) [ inl may ↦ inl may | inr p ↦ elim (two.message (subst (λ (m : Msg). first_user_method ≤ m.method) (sym one.request) far)) [ inl may ↦ inl may | inr q ↦ inr (q ∙ p) ] ];
  answer = λ u at. let p = one.answer u at in let q = two.answer u p.0 in (q.0, q.1 ∙ p.1, q.2 ∙ p.2);
}

-- the call is no answer
abbrev IsOpen : Call → Type 0
IsOpen c = (u : TaskNo) → c.place ≡ Answers u → ⊥

abbrev is_answer : Place → Bool
is_answer (Answers t) = true
is_answer _ = false

other_open : (c : Call) (place : Place) → c.place ≡ place → is_answer place ≡ false → IsOpen c
other_open c place is other u at = false≢true (sym other ∙ ap is_answer (sym is ∙ at))

-- ---- the calls of an event that began in the state k

module _ (k : KernelState) (sound : IsSound k) (May : ℕ → Type 0) where
  record IsCarrying (q : CallTable) : Type 0 where
    named : (n : ℕ) (c : Call) → call_at q n ≡ Some c → c.number.0 ≡ n
    later : k.calls.next_number ≤ q.next_number
    kept : AreCarried May k.calls q

  at_first : IsCarrying k.calls
  at_first = record { named = λ n c is. (sound.calls.each n c is).number; later = omega arith; kept = λ n c d is at. subst (IsCarried (May n) c) (same_Some c d (sym is ∙ at)) (same_record (May n) c) }

  put : (q : CallTable) (c d : Call) (stamp : ℕ) → call_at q d.number.0 ≡ Some c → IsCarried (May d.number.0) c d → IsCarrying q → IsCarrying (record { records = insert q.records d.number.0 d; next_number = q.next_number; next_stamp = stamp })
  put q c d stamp is change a = record {
    named = λ n e at. elim (came_in q d.number.0 n d e at) [
      | inl h ↦ ap (λ (x : Call). x.number.0) (sym h.1) ∙ h.0
      | inr h ↦ a.named n e h.1
    ];
    later = a.later;
    kept = λ n b e had at. elim (came_in q d.number.0 n d e at) [
      | inl h ↦ subst (λ x. IsCarried (May n) b x) h.1 (subst (λ m. IsCarried (May m) b d) h.0 (then_record (May d.number.0) b c d (a.kept d.number.0 b c (ap (call_at k.calls) h.0 ∙ had) is) change))
      | inr h ↦ a.kept n b e had h.1
    ];
  }

  gone : (q : CallTable) (m : ℕ) → IsCarrying q → IsCarrying (without_call q m)
  gone q m a = record {
    named = λ n e at. a.named n e (gone_by q m n e at);
    later = a.later;
    kept = λ n b e had at. a.kept n b e had (gone_by q m n e at);
  }

  come : (q : CallTable) (d : Call) → d.number.0 ≡ q.next_number → IsCarrying q → IsCarrying (enqueue q d)
  come q d next a = record {
    named = λ n e at. elim (came_by q d e n at) [
      | inl h ↦ ap (λ (x : Call). x.number.0) (sym h.1) ∙ h.0
      | inr h ↦ a.named n e h
    ];
    later = let l = a.later in omega (arith, l);
    kept = λ n b e had at. elim (came_by q d e n at) [
      | inl h ↦ absurd (let below = (sound.calls.each n b had).below in let l = a.later in let s = h.0 in omega (arith, below, l, s, next))
      | inr h ↦ a.kept n b e had h
    ];
  }

  -- a record of an unanswered call that goes to a place
  moved : (q : CallTable) (c d : Call) (place : Place) → call_at q c.number.0 ≡ Some c → IsOpen c → d.number ≡ c.number → d.from ≡ c.from → d.request ≡ c.request → (c.request.method ≡ data_write → d.buffer ≡ c.buffer) → (first_user_method ≤ c.request.method → May d.number.0 ⊎ (d.msg ≡ c.msg)) → IsCarrying q → IsCarrying (put_at q d place)
  moved q c d place live unanswered number from request bytes message a =
      put q c (record d { place = place; stamp = q.next_stamp }) (q.next_stamp + 1) (ap (λ (n : CallNo). call_at q n.0) number ∙ live)
      (record { from = from; request = request; bytes = bytes; message = message; answer = λ u at. absurd (unanswered u at) }) a

  abbrev Keeps : KernelState → Type 0
  Keeps j = IsCarrying j.calls

  -- ---- a join

  live_at : (j : KernelState) (n : ℕ) (c : Call) → Keeps j → call_at j.calls n ≡ Some c → call_at j.calls c.number.0 ≡ Some c
  live_at j n c a is = ap (call_at j.calls) (a.named n c is) ∙ is

  forgotten : (j : KernelState) (t : TaskNo) (c : Call) → Keeps j → calls_of j.calls t ≡ Some c → Keeps (forget_call j c).state
  forgotten j t c a is =
      let f = calls_of_live j.calls t c is in
      let live : call_at j.calls c.number.0 ≡ Some c = ap (call_at j.calls) (a.named f.number c f.is) ∙ f.is in
      rw live (put j.calls c (record c { caller = None }) j.calls.next_stamp live (record { from = refl; request = refl; bytes = λ _. refl; message = λ _. inr refl; answer = λ u at. (at, refl, refl) }) a)

  declining : (j : KernelState) (n : ℕ) (c : Call) (reply : Reply) (u : TaskNo) → call_at j.calls n ≡ Some c → IsOpen c → Keeps j → IsCarrying (put_at j.calls (declined_call c reply) (Answers u))
  declining j n c reply u is unanswered a = moved j.calls c (declined_call c reply) (Answers u) (live_at j n c a is) unanswered refl refl refl (λ _. refl) (λ _. inr refl) a

  -- a kill
  ended : (t : TaskNo) (j : KernelState) (s : Transition) → Keeps j → end.Ends t j s → Keeps s.state
  ended t j s a (end.hung_up p u _) = come j.calls (hangup_call j t p u) refl a
  ended t j s a (end.vanished n c place _ _ _) = gone j.calls c.number.0 a
  ended t j s a (end.bounced n c u place (inl there) at _ _) = declining j n c (bare_reply ehangup) u at.live (other_open c (Incoming t) (same_place-true c.place place at.here ∙ there) refl) a
  ended t j s a (end.bounced n c u place (inr there) at _ _) = declining j n c (bare_reply ehangup) u at.live (other_open c (Dispatched t) (same_place-true c.place place at.here ∙ there) refl) a
  ended t j s a (end.dropped n c _) = gone j.calls c.number.0 a
  ended t j s a (end.forgotten c is) = forgotten j t c a is
  ended t j s a _ = a

  -- a request
  received_as : (t : TaskNo) (j : KernelState) (c : Call) (kind : MethodKind) → kind_of c.request.method ≡ kind → call_at j.calls c.number.0 ≡ Some c → IsOpen c → Keeps j → Keeps (reception t (on_receive_of kind j c t)).state
  received_as t j c ConnectToMe is live unanswered a = moved j.calls c (on_receive_of ConnectToMe j c t).call (Dispatched t) live unanswered refl refl refl (λ _. refl) (λ far. absurd (not_user c.request.method is far)) a where
    not_user : (m : ℕ) → kind_of m ≡ ConnectToMe → first_user_method ≤ m → ⊥
    not_user m same far = let h = sym same ∙ user_kind m far in cc
  received_as t j c _ is live unanswered a = moved j.calls c c (Dispatched t) live unanswered refl refl refl (λ _. refl) (λ _. inr refl) a

  module _ (j : KernelState) (a : Keeps j) (c : Call) (live : call_at j.calls c.number.0 ≡ Some c) (unanswered : IsOpen c) where
    answered_as : (h : Handed) (u : TaskNo) (by : Option TaskNo) → h.state.calls ≡ j.calls → h.call.number ≡ c.number → h.call.from ≡ c.from → h.call.request ≡ c.request → h.call.msg ≡ c.msg → (c.request.method ≡ data_write → h.call.buffer ≡ c.buffer) → Keeps (answer_to h by u).state
    answered_as h u by same number from request msg bytes = subst (λ (q : CallTable). IsCarrying (put_at q h.call (Answers u))) (sym same) (moved j.calls c h.call (Answers u) live unanswered number from request bytes (λ _. inr msg) a)

    accepting : (t : TaskNo) (reply : Reply) (u : TaskNo) (kind : MethodKind) → kind_of c.request.method ≡ kind → Keeps (answer_to (on_accept_of kind j c reply t u) (Some t) u).state
    accepting t reply u DataRead is =
        answered_as (accepted_read j c reply t) u (Some t) refl refl refl refl refl
        (λ e. absurd (let z : DataRead ≡ DataWrite = sym is ∙ ap kind_of e in cc))
    accepting t reply u kind is =
        answered_as (on_accept_of kind j c reply t u) u (Some t) refl refl refl refl refl (λ _. refl)

  held_open : (t : TaskNo) (c : Call) → is_held t c ≡ true → IsOpen c
  held_open t c h = other_open c (Dispatched t) (same_place-true c.place (Dispatched t) h) refl

  joined : (t : TaskNo) (asked : Request) → ((n : ℕ) → Forwards asked n → May n) → (j : KernelState) (s : Served) → Keeps j → join.Joins t asked j s → Keeps s.state
  joined t asked may j s a (join.back p msg at code _ _ _ _) = come j.calls (record (new_call j t p msg (Answers t)) { reply = bare_reply code }) refl a
  joined t asked may j s a (join.sent p msg u _ _ _ _) = come j.calls (new_call j t p msg (Incoming u)) refl a
  joined t asked may j s a (join.sent_keeping p msg u l _ _ _ _) = come j.calls (join.kept_to_send j (new_call j t p msg (Incoming u)) l).call refl a
  joined t asked may j s a (join.sent_carrying p msg u bytes _ _ _ _) = come j.calls (record (cut_call (new_call j t p msg (Incoming u))) { buffer = bytes }) refl a
  joined t asked may j s a (join.sent_cut p msg u _ _ _) = come j.calls (cut_call (new_call j t p msg (Incoming u))) refl a
  joined t asked may j s a (join.taken n c kind _ at is) = received_as t j c kind is (live_at j n c a at.live) (other_open c (Incoming t) (same_place-true c.place (Incoming t) at.here) refl) a
  joined t asked may j s a (join.delivered n c _ _ _) = gone j.calls c.number.0 a
  joined t asked may j s a (join.brought n c _ _ _) = gone j.calls c.number.0 a
  joined t asked may j s a (join.vanished n c o _ _ _ _) = gone j.calls c.number.0 a
  joined t asked may j s a (join.turned_down n c reply u _ at _ _ _) = declining j n c reply u at.live (held_open t c at.here) a
  joined t asked may j s a (join.bounced n p mode change c u code _ at _ _) = declining j n c (bare_reply eforward) u at.live (held_open t c at.here) a
  joined t asked may j s a (join.accepted n c reply u kind _ at _ _ _ is) = accepting j a c (live_at j n c a at.live) (held_open t c at.here) t reply u kind is
  joined t asked may j s a (join.passed n p mode change c u is at _ _) =
      moved j.calls c (passed_call (msg_after change c) (label_after t p mode c) c) (Incoming u) (live_at j n c a at.live) (held_open t c at.here) refl refl refl (λ _. refl)
      (λ _. inl (may c.number.0 (rw is (sym (a.named n c at.live))))) a
  joined t asked may j s a (join.hung_up p u _ _) = come j.calls (hangup_call j t p u) refl a
  joined t asked may j s a _ = a

pub serve_carries : (k : KernelState) (t : TaskNo) (asked : Request) → IsSound k → AreCarried (Forwards asked) k.calls (serve k t asked).state.calls
serve_carries k t asked sound =
    let May : ℕ → Type 0 = Forwards asked in
    (join.states_by_request t asked (Keeps k sound May) (Keeps k sound May) (λ j n c a _ _. gone k sound May j.calls c.number.0 a) (joined k sound May t asked (λ n m. m)) k (at_first k sound May)).kept

pub kill_carries : (k : KernelState) (t : TaskNo) → IsSound k → AreCarried (λ n. ⊥) k.calls (kill_event k t).state.calls
kill_carries k t sound =
    let May : ℕ → Type 0 = λ n. ⊥ in
    (end.states_by_kill t (Keeps k sound May) (ended k sound May t) k (at_first k sound May)).kept
