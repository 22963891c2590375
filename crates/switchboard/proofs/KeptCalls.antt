-- What the calls keep after each change of a call, and that a phone which a call has let go is kept by none.
use Rattle.std.proofs.Common.{◌≡◌, ℕ, ◌⊎◌, inl, inr, Bool, true, false, Option, None, Some, List, refl, ap, sym, subst, ◌∙◌}
use Rattle.std.specs.Prelude.{◌==◌, if◌then◌else◌}
use Rattle.std.proofs.lemmas.Bool.{cases_eq, eqb-true}
use Rattle.ipc_ids.specs.declared.numbers.TaskNo.{TaskNo}
use Rattle.ipc_ids.specs.declared.numbers.Label.{Label}
use Rattle.ipc_ids.specs.declared.numbers.Code.{Code}
use Rattle.ipc_ids.specs.declared.message.Msg.{Msg}
use Rattle.ipc_ids.specs.declared.message.Reply.{Reply}
use Rattle.ipc_ids.specs.declared.message.PhoneState.{PhoneState}
use Rattle.ipc_ids.specs.declared.methods.MethodKind.TheVariants.{ConnectToMe, ConnectMeTo}
use Rattle.ipc_ids.specs.Methods.{kind_of}
use Rattle.ipc_ids.proofs.Common.{none_some}
use Rattle.call_slab.specs.declared.call.Call.{Call}
use Rattle.call_slab.specs.declared.call.Place.{Place}
use Rattle.call_slab.specs.declared.call.Place.TheVariants.{Incoming, Dispatched, Answers}
use Rattle.answerbox.specs.Calls.{CallTable, call_at, enqueue, put_at, with_record, without_call, without_caller}
use Rattle.switchboard.specs.declared.kept.Keeper.{Keeper}
use Rattle.switchboard.specs.declared.kept.Keeper.TheVariants.{Nobody, Receiver, Caller}
use Rattle.switchboard.specs.State.{KernelState, with_calls}
use Rattle.switchboard.specs.Kept.{AreKept, IsLoose, IsOf, MayKeep, accepts, phone_of, held_phone, is_accepted, keeper_of, who_keeps, kept_by, kept_of, kept_phone, lent_of, lent_phone, unless_freed}
use Rattle.switchboard.specs.Joins.{declined_call, passed_call}
use Rattle.switchboard.specs.Board.{IsPendingAt, IsHeldCall}
use Rattle.switchboard.proofs.Lookups.{at_insert, at_remove}
use Rattle.switchboard.proofs.Keepers.{AreUnkept, all_same, kept_here, kept_less, kept_of_call, kept_other, kept_same, let_go_loose, let_go_unkept, taken_kept}

-- a record keeps what it kept, or a phone that no call keeps
pub kept_with : (k : KernelState) (r : CallTable) (n : ℕ) (d : Call) → AreKept k.tasks.phones k.calls → ((m : ℕ) → call_at r m ≡ (if n == m then Some d else call_at k.calls m)) → (kept_phone d ≡ kept_by k.calls n) ⊎ IsLoose k (kept_phone d) → AreKept k.tasks.phones r
kept_with k r n d s at (inl same) = kept_same r (all_same k.calls r n (kept_here k.calls r n (Some d) at ∙ same) (kept_other k.calls r n (Some d) at)) s
kept_with k r n d s at (inr loose) = by_phone (kept_phone d) refl loose where
  here : kept_by r n ≡ kept_phone d
  here = kept_here k.calls r n (Some d) at

  by_phone : (o : Option Label) → kept_phone d ≡ o → IsLoose k o → AreKept k.tasks.phones r
  by_phone None is free = kept_less r (λ m l has. elim (cases_eq n m) [
    | inl e ↦ absurd (none_some (kept_by r n) l (here ∙ is) (ap (kept_by r) e ∙ has))
    | inr ne ↦ sym (kept_other k.calls r n (Some d) at m ne) ∙ has
  ]) s
  by_phone (Some l) is free = taken_kept k.calls r n l (here ∙ is) (kept_other k.calls r n (Some d) at) s free.waits free.unkept

pub kept_enqueue : (k : KernelState) (c : Call) → AreKept k.tasks.phones k.calls → IsLoose k (kept_phone c) → AreKept k.tasks.phones (enqueue k.calls c)
kept_enqueue k c s loose = kept_with k (enqueue k.calls c) c.number.0 (record c { stamp = k.calls.next_stamp }) s (λ m. at_insert k.calls.records c.number.0 m (record c { stamp = k.calls.next_stamp })) (inr loose)

pub kept_put : (k : KernelState) (n : ℕ) (c d : Call) (place : Place) → AreKept k.tasks.phones k.calls → call_at k.calls n ≡ Some c → d.number.0 ≡ n → MayKeep k c (record d { place = place }) → AreKept k.tasks.phones (put_at k.calls d place)
kept_put k n c d place s is number may =
    let e : Call = record d { place = place; stamp = k.calls.next_stamp } in
    let here : kept_by k.calls d.number.0 ≡ kept_phone c = kept_of_call k.calls d.number.0 c (ap (call_at k.calls) number ∙ is) in
    kept_with k (put_at k.calls d place) d.number.0 e s (λ m. at_insert k.calls.records d.number.0 m e)
    (elim may [ inl same ↦ inl (same ∙ sym here) | inr loose ↦ inr loose ])

pub kept_without : {phones : List (List PhoneState)} (q : CallTable) (n : ℕ) → AreKept phones q → AreKept phones (without_call q n)
kept_without q n s = kept_less (without_call q n) (λ m l has. elim (cases_eq n m) [
  | inl e ↦ absurd (none_some (kept_by (without_call q n) n) l (kept_here q (without_call q n) n None (at_remove q.records n)) (ap (kept_by (without_call q n)) e ∙ has))
  | inr ne ↦ sym (kept_other q (without_call q n) n None (at_remove q.records n) m ne) ∙ has
]) s

-- the caller of a call has ended
pub kept_forgotten : {phones : List (List PhoneState)} (q : CallTable) (n : ℕ) (c : Call) → AreKept phones q → call_at q n ≡ Some c → c.number.0 ≡ n → AreKept phones (without_caller q n)
kept_forgotten q n c s is number =
    let d : Call = record c { caller = None } in
    let at : (m : ℕ) → call_at (with_record q d) m ≡ (if c.number.0 == m then Some d else call_at q m) = λ m. at_insert q.records c.number.0 m d in
    let here : kept_by q c.number.0 ≡ kept_phone c = kept_of_call q c.number.0 c (ap (call_at q) number ∙ is) in
    rw is (kept_same (with_record q d) (all_same q (with_record q d) c.number.0 (kept_here q (with_record q d) c.number.0 (Some d) at ∙ sym here) (kept_other q (with_record q d) c.number.0 (Some d) at)) s)

-- what a call keeps after a change

-- an answer that does not accept
pub declined_keeps : (k : KernelState) (c : Call) (reply : Reply) (caller : TaskNo) → IsPendingAt c.place → MayKeep k c (record (declined_call c reply) { place = Answers caller })
declined_keeps k c reply caller pending = by_keeper (who_keeps c) where
  asked : (place : Place) → IsPendingAt place → (b : Bool) → ((if b then None else phone_of c.from.task c.reserved) ≡ kept_of Caller c.from.task place c.reply.code c.reserved) ⊎ IsLoose k (if b then None else phone_of c.from.task c.reserved)
  asked (Incoming t) h true = inr tt
  asked (Incoming t) h false = inl refl
  asked (Dispatched t) h true = inr tt
  asked (Dispatched t) h false = inl refl
  asked (Answers t) h b = absurd h

  by_keeper : (keeper : Keeper) → (kept_of keeper c.from.task (Answers caller) reply.code (unless_freed (lent_of keeper c.place c.reserved) c.reserved) ≡ kept_of keeper c.from.task c.place c.reply.code c.reserved) ⊎ IsLoose k (kept_of keeper c.from.task (Answers caller) reply.code (unless_freed (lent_of keeper c.place c.reserved) c.reserved))
  by_keeper Nobody = inr tt
  by_keeper Receiver = inr tt
  by_keeper Caller = asked c.place pending (accepts reply.code)

-- a call that goes on
pub passed_keeps : (k : KernelState) (c : Call) (msg : Msg) (label : Label) (to : TaskNo) → IsPendingAt c.place → MayKeep k c (record (passed_call msg label c) { place = Incoming to })
passed_keeps k c msg label to pending = by_keeper (who_keeps c) where
  asked : (place : Place) → IsPendingAt place → phone_of c.from.task c.reserved ≡ kept_of Caller c.from.task place c.reply.code c.reserved
  asked (Incoming t) h = refl
  asked (Dispatched t) h = refl
  asked (Answers t) h = absurd h

  by_keeper : (keeper : Keeper) → (kept_of keeper c.from.task (Incoming to) c.reply.code (unless_freed (lent_of keeper c.place c.reserved) c.reserved) ≡ kept_of keeper c.from.task c.place c.reply.code c.reserved) ⊎ IsLoose k (kept_of keeper c.from.task (Incoming to) c.reply.code (unless_freed (lent_of keeper c.place c.reserved) c.reserved))
  by_keeper Nobody = inr tt
  by_keeper Receiver = inr tt
  by_keeper Caller = inl (asked c.place pending)

-- a call for which no phone is reserved
pub unreserved_of : (keeper : Keeper) (from : TaskNo) (place : Place) (code : Code) → kept_of keeper from place code None ≡ None
unreserved_of Nobody from place code = refl
unreserved_of Receiver from (Incoming t) code = refl
unreserved_of Receiver from (Dispatched t) code = refl
unreserved_of Receiver from (Answers t) code = refl
unreserved_of Caller from place code = by_test (is_accepted place code) where
  by_test : (b : Bool) → (if b then None else phone_of from None) ≡ None
  by_test true = refl
  by_test false = refl

pub unreserved_loose : (k : KernelState) (c : Call) → c.reserved ≡ None → IsLoose k (kept_phone c)
unreserved_loose k c none = rw (none, unreserved_of (who_keeps c) c.from.task c.place c.reply.code) tt

-- a phone that a call has let go is loose

pub loose_after : (k : KernelState) (r : CallTable) (n : ℕ) (c : Call) (kept : Option Label) → AreKept k.tasks.phones k.calls → call_at k.calls n ≡ Some c → (kept ≡ None) ⊎ ((kept ≡ kept_phone c) × (kept_by r n ≡ None)) → ((m : ℕ) → (n ≡ m → ⊥) → kept_by r m ≡ kept_by k.calls m) → IsLoose (with_calls k r) kept
loose_after k r n c None s is may others = tt
loose_after k r n c (Some l) s is (inl none) others = absurd (cc none)
loose_after k r n c (Some l) s is (inr has) others =
    let was : kept_by k.calls n ≡ Some l = kept_of_call k.calls n c is ∙ sym has.0 in
    record {
      waits = s.waits n l was;
      unkept = let_go_loose k.calls r n l was has.1 others s;
    }

-- a call that left
pub left_loose : (k : KernelState) (n : ℕ) (c : Call) → AreKept k.tasks.phones k.calls → call_at k.calls n ≡ Some c → IsLoose (with_calls k (without_call k.calls n)) (kept_phone c)
left_loose k n c s is =
    loose_after k (without_call k.calls n) n c (kept_phone c) s is
    (inr (refl, kept_here k.calls (without_call k.calls n) n None (at_remove k.calls.records n)))
    (kept_other k.calls (without_call k.calls n) n None (at_remove k.calls.records n))

-- what its holder kept is kept no more at another place
pub lets_go : (keeper : Keeper) (from : TaskNo) (before after : Place) (code : Code) (reserved : Option Label) → ((t : TaskNo) → after ≡ Dispatched t → ⊥) → (lent_of keeper before reserved ≡ None) ⊎ ((lent_of keeper before reserved ≡ kept_of keeper from before code reserved) × ((from' : TaskNo) (code' : Code) (reserved' : Option Label) → kept_of keeper from' after code' reserved' ≡ None))
lets_go Nobody from before after code reserved not = inl refl
lets_go Receiver from before after code reserved not = inr (refl, λ from' code' reserved'. gone after not reserved') where
  gone : (place : Place) → ((t : TaskNo) → place ≡ Dispatched t → ⊥) → (reserved' : Option Label) → held_phone place reserved' ≡ None
  gone (Incoming t) h reserved' = refl
  gone (Dispatched t) h reserved' = absurd (h t refl)
  gone (Answers t) h reserved' = refl
lets_go Caller from before after code reserved not = inl refl

-- a call that was put to a place where its holder keeps nothing for it
pub put_loose : (k : KernelState) (n : ℕ) (c d : Call) (place : Place) → AreKept k.tasks.phones k.calls → call_at k.calls n ≡ Some c → d.number.0 ≡ n → d.request ≡ c.request → ((t : TaskNo) → place ≡ Dispatched t → ⊥) → IsLoose (with_calls k (put_at k.calls d place)) (lent_phone c)
put_loose k n c d place s is number request not =
    let e : Call = record d { place = place; stamp = k.calls.next_stamp } in
    let r : CallTable = put_at k.calls d place in
    let at : (m : ℕ) → call_at r m ≡ (if d.number.0 == m then Some e else call_at k.calls m) = λ m. at_insert k.calls.records d.number.0 m e in
    let here : kept_by r n ≡ kept_phone e = subst (λ i. kept_by r i ≡ kept_phone e) number (kept_here k.calls r d.number.0 (Some e) at) in
    let same : kept_phone e ≡ kept_of (who_keeps c) d.from.task place d.reply.code d.reserved = ap (λ (m : Msg). kept_of (keeper_of (kind_of m.method)) d.from.task place d.reply.code d.reserved) request in
    loose_after k r n c (lent_phone c) s is
    (elim (lets_go (who_keeps c) c.from.task c.place place c.reply.code c.reserved not) [ inl none ↦ inl none | inr x ↦ inr (x.0, here ∙ same ∙ x.1 d.from.task d.reply.code d.reserved) ])
    (λ m ne. kept_other k.calls r d.number.0 (Some e) at m (λ z. ne (sym number ∙ z)))

-- a call that was put to a place where it keeps nothing: nobody keeps what it kept
pub put_unkept : (k : KernelState) (n : ℕ) (c d : Call) (place : Place) → AreKept k.tasks.phones k.calls → call_at k.calls n ≡ Some c → d.number.0 ≡ n → kept_phone (record d { place = place }) ≡ None → AreUnkept (put_at k.calls d place) (kept_phone c)
put_unkept k n c d place s is number none = by_phone (kept_phone c) refl where
  e : Call
  e = record d { place = place; stamp = k.calls.next_stamp }

  at : (m : ℕ) → call_at (put_at k.calls d place) m ≡ (if d.number.0 == m then Some e else call_at k.calls m)
  at m = at_insert k.calls.records d.number.0 m e

  here : kept_by (put_at k.calls d place) n ≡ None
  here = subst (λ i. kept_by (put_at k.calls d place) i ≡ None) number (kept_here k.calls (put_at k.calls d place) d.number.0 (Some e) at ∙ none)

  by_phone : (o : Option Label) → kept_phone c ≡ o → AreUnkept (put_at k.calls d place) o
  by_phone None has = tt
  by_phone (Some l) has = let_go_unkept k.calls (put_at k.calls d place) n l (kept_of_call k.calls n c is ∙ has) here (λ m ne. kept_other k.calls (put_at k.calls d place) d.number.0 (Some e) at m (λ z. ne (sym number ∙ z))) s

-- a call that its holder may accept

module _ (c : Call) (t caller : TaskNo) where
  -- the phone that a CONNECT_TO_ME keeps is one of its holder
  pub held_own : IsHeldCall c ConnectToMe t caller → IsOf t (kept_phone c)
  held_own h = rw (h.kind, h.place) (by_phone c.reserved) where
    same : (l : Label) → l.task.0 ≡ t.0 → l.task ≡ t
    same l e = ap (λ n. let u : TaskNo = record { 0 = n } in u) e

    by_phone : (o : Option Label) → IsOf t (phone_of t o)
    by_phone None = tt
    by_phone (Some l) = by_test (l.task.0 == t.0) refl where
      by_test : (b : Bool) → (l.task.0 == t.0) ≡ b → IsOf t (if b then Some l else None)
      by_test true e = same l (eqb-true l.task.0 t.0 e)
      by_test false e = tt

  -- at the answers it keeps none
  pub caller_keeps : (reply : Reply) → IsHeldCall c ConnectToMe t caller → kept_phone (record c { reply = reply; place = Answers caller }) ≡ None
  caller_keeps reply h = rw h.kind refl

  pub answerer_keeps : (reply : Reply) → IsHeldCall c ConnectMeTo t caller → accepts reply.code ≡ true → kept_phone (record c { reply = reply; place = Answers caller }) ≡ None
  answerer_keeps reply h accept = rw (h.kind, accept) refl
