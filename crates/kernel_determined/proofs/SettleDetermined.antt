-- What becomes of a call that comes to its end is determined by what is said of it.
use Rattle.std.proofs.Common.{◌≡◌, ℕ, ◌⊎◌, inl, inr, List, ◌∷◌, Option, None, Some, refl, sym, ap, subst, ◌∙◌}
use Rattle.std.proofs.lemmas.Bool.{cases_eq}
use Rattle.std.proofs.lemmas.Option.{same_Some}
use Rattle.ipc_ids.specs.declared.numbers.Code.{Code}
use Rattle.ipc_ids.specs.declared.numbers.Label.{Label}
use Rattle.ipc_ids.specs.declared.numbers.TaskNo.{TaskNo}
use Rattle.ipc_ids.specs.declared.message.Reply.{Reply}
use Rattle.ipc_ids.specs.declared.message.PhoneState.{PhoneState}
use Rattle.ipc_ids.specs.declared.message.PhoneState.TheVariants.{Free}
use Rattle.ipc_ids.specs.declared.entry.Entry.{Entry}
use Rattle.ipc_ids.specs.declared.entry.Entry.TheVariants as entry
use Rattle.ipc_ids.specs.Methods.{connect_to_me, connect_me_to}
use Rattle.call_slab.specs.declared.call.Call.{Call}
use Rattle.call_slab.specs.declared.call.Place.{Place}
use Rattle.call_slab.specs.declared.call.Place.TheVariants.{Answers}
use Rattle.answerbox.specs.Calls.{CallTable}
use Rattle.switchboard.specs.State.{KernelState, phone_at}
use Rattle.kernel_laws.specs.Connecting.{IsUnconnected}
use Rattle.kernel_determined.specs.Frames.{MayCome, Moves, IsOver, IsNow}
use Rattle.kernel_determined.specs.SettleLaw.{IsGivenBack, IsKeptFor, IsAnswered, IsEnded, IsSettled, IsKeptAtAnswer, DropsAnswer}
use Rattle.kernel_determined.proofs.Same.{one_changed}
use Rattle.kernel_determined.proofs.HangupDetermined.{stay_same, come_same, AreAlike, step_same}

module _ (q a b : CallTable) (n : ℕ) where
  pub moves_same : (c d : Call) → Moves q a n c → Moves q b n d → c ≡ d → a ≡ b
  moves_same c d x y same = one_changed q a b n (Some c) (Some d) x.moved y.moved (ap Some same) x.others y.others
      (x.numbers ∙ sym y.numbers) (x.arrivals ∙ sym y.arrivals)

  pub over_same : IsOver q a n → IsOver q b n → a ≡ b
  over_same x y = one_changed q a b n None None x.gone y.gone refl x.others y.others (x.numbers ∙ sym y.numbers)
      (x.arrivals ∙ sym y.arrivals)

  pub now_same : (c d : Call) → IsNow q a n c → IsNow q b n d → c ≡ d → a ≡ b
  now_same c d x y same = one_changed q a b n (Some c) (Some d) x.now y.now (ap Some same) x.others y.others
      (x.numbers ∙ sym y.numbers) (x.arrivals ∙ sym y.arrivals)

pub back_same : (c : Call) (f g r s : Option Label) → IsGivenBack c f r → IsGivenBack c g s → (f ≡ g) × (r ≡ s)
back_same c f g r s x y = elim (cases_eq c.request.method connect_to_me) [
  | inl e ↦ let u = x.to_me e in let v = y.to_me e in (u.0 ∙ sym v.0, u.1 ∙ sym v.1)
  | inr ne ↦ let u = x.others ne in let v = y.others ne in (u.0 ∙ sym v.0, u.1 ∙ sym v.1)
]

pub kept_same : (c : Call) (f g : Option Label) → IsKeptFor c f → IsKeptFor c g → f ≡ g
kept_same c f g x y = elim (cases_eq c.request.method connect_to_me) [
  | inl e ↦ x.connect (inl e) ∙ sym (y.connect (inl e))
  | inr ne ↦ elim (cases_eq c.request.method connect_me_to) [
    | inl e ↦ x.connect (inr e) ∙ sym (y.connect (inr e))
    | inr other ↦ x.others ne other ∙ sym (y.others ne other)
  ]
]

-- what comes of phones, and the entries of it
pub may_come_same : (o : Option Label) (s : PhoneState) (k a b : KernelState) (m n : List Entry) → MayCome o s k a m
    → MayCome o s k b n → ((u : TaskNo) (q : ℕ) → phone_at a u q ≡ phone_at b u q) × (m ≡ n)
may_come_same None s k a b m n x y = (stay_same k a b x.0 y.0, x.1 ∙ sym y.1)
may_come_same (Some l) s k a b m n x y = (come_same k a b l.task l.phone.0 s x.0 y.0, x.1 ∙ sym y.1)

module _ (i : ℕ) (c : Call) (k a b : KernelState) (m n : List Entry) where
  pub answered_same : (reply : Reply) (by : Option TaskNo) → IsAnswered i c reply by k a m
      → IsAnswered i c reply by k b n
      → AreAlike a b m n
  answered_same reply by x y =
      let two = back_same c x.freed y.freed x.rest y.rest x.back y.back in
      let phones = may_come_same y.freed Free k a b x.note y.note
      (subst (λ o. MayCome o Free k a x.note) two.0 x.phones) y.phones in
      let who : x.to ≡ y.to = let e : Some x.to ≡ Some y.to = sym x.caller ∙ y.caller in cc in
      let rest : Option Label → TaskNo → Call =
      λ o w. record c { reply = reply; reserved = o; place = Answers w; stamp = k.calls.next_stamp } in
      record {
        phones = phones.0;
        calls = moves_same k.calls a.calls b.calls i _ _ x.calls y.calls
            (ap (λ o. rest o x.to) two.1 ∙ ap (rest y.rest) who);
        entries = x.entries ∙ ap (λ es. entry.Answered c.number reply by ∷ es) phones.1 ∙ sym y.entries;
      }

  pub ended_same : IsEnded i c k a m → IsEnded i c k b n → AreAlike a b m n
  ended_same x y =
      let kept = kept_same c x.kept y.kept x.keeps y.keeps in
      let phones = may_come_same y.kept Free k a b x.note y.note
      (subst (λ o. MayCome o Free k a x.note) kept x.phones) y.phones in
      record {
        phones = phones.0;
        calls = over_same k.calls a.calls b.calls i x.calls y.calls;
        entries = x.entries ∙ ap (λ es. entry.Vanished c.number ∷ es) phones.1 ∙ sym y.entries;
      }

  pub settled_same : (reply : Reply) (by : Option TaskNo) → IsSettled i c reply by k a m → IsSettled i c reply by k b n
      → AreAlike a b m n
  settled_same reply by (inl x) (inl y) = answered_same reply by x.1 y.1
  settled_same reply by (inl x) (inr y) = absurd (y.0 x.0)
  settled_same reply by (inr x) (inl y) = absurd (x.0 y.0)
  settled_same reply by (inr x) (inr y) = ended_same x.1 y.1

-- ---- an answer that is dropped

-- a phone that is kept for an answer, or none
kept_or_none : (c : Call) → ((l : Label) × IsUnconnected c l) ⊎ ((l : Label) → IsUnconnected c l → ⊥)
kept_or_none c = elim (cases_eq c.request.method connect_me_to) [
  | inr ne ↦ inr (λ l x. ne x.asks)
  | inl asks ↦ by_phone asks c.reserved refl
] where
  by_code : c.request.method ≡ connect_me_to → (l : Label) → c.reserved ≡ Some l → (place : Place) → c.place ≡ place
      → (c.reply.code.0 ≡ 0) ⊎ (c.reply.code.0 ≡ 0 → ⊥)
      → ((l : Label) × IsUnconnected c l) ⊎ ((l : Label) → IsUnconnected c l → ⊥)
  by_code asks l kept (Answers u) at (inr ne) =
      inl (l, record { asks = asks; kept = kept; unaccepted = λ v is code. ne (ap (λ (x : Code). x.0) code) })
  by_code asks l kept (Answers u) at (inl e) =
      inr (λ m x. x.unaccepted u at (ap (λ n. let code : Code = record { 0 = n } in code) e))
  by_code asks l kept place at e =
      inl (l, record { asks = asks; kept = kept; unaccepted = λ v is code. let f : place ≡ Answers v = sym at ∙ is in cc })

  by_phone : c.request.method ≡ connect_me_to → (o : Option Label) → c.reserved ≡ o
      → ((l : Label) × IsUnconnected c l) ⊎ ((l : Label) → IsUnconnected c l → ⊥)
  by_phone asks None e = inr (λ l x. let f : None ≡ Some l = sym e ∙ x.kept in cc)
  by_phone asks (Some l) e = by_code asks l e c.place refl (cases_eq c.reply.code.0 0)

kept_answer_same : (c : Call) (f g : Option Label) → IsKeptAtAnswer c f → IsKeptAtAnswer c g → f ≡ g
kept_answer_same c f g x y = elim (kept_or_none c) [
  | inl h ↦ x.waits h.0 h.1 ∙ sym (y.waits h.0 h.1)
  | inr none ↦ x.others none ∙ sym (y.others none)
]

drop_alike : (t : TaskNo) (i : ℕ) (k a b : KernelState) (m n : List Entry) (x : DropsAnswer t k i a m)
    (y : DropsAnswer t k i b n) → AreAlike a b m n
drop_alike t i k a b m n x y =
    let one : x.call ≡ y.call = same_Some x.call y.call (sym x.live ∙ y.live) in
    let kept = kept_answer_same y.call x.kept y.kept (subst (λ (c : Call). IsKeptAtAnswer c x.kept) one x.keeps)
    y.keeps in
    let phones = may_come_same y.kept Free k a b x.note y.note (subst (λ o. MayCome o Free k a x.note) kept x.phones)
    y.phones in
    record {
      phones = phones.0;
      calls = over_same k.calls a.calls b.calls i x.calls y.calls;
      entries = x.entries ∙ ap (λ (c : Call). entry.Dropped c.number t ∷ x.note) one
          ∙ ap (λ es. entry.Dropped y.call.number t ∷ es) phones.1 ∙ sym y.entries;
    }

pub drop_same : (t : TaskNo) (i : ℕ) (k a b : KernelState) (m n : List Entry) → DropsAnswer t k i a m
    → DropsAnswer t k i b n
    → (a ≡ b) × (m ≡ n)
drop_same t i k a b m n x y = step_same k a b m n x.step y.step (drop_alike t i k a b m n x y)
