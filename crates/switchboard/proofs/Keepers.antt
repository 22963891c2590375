-- Who keeps which phone after each change of a call or of a phone.
use Rattle.std.proofs.Common.{◌≡◌, ℕ, inl, inr, Option, None, Some, List, refl, ap, sym, subst, ◌∙◌}
use Rattle.std.specs.Prelude.{◌==◌, ⊤, if◌then◌else◌, IsSome, option_and_then}
use Rattle.std.proofs.lemmas.Bool.{cases_eq, eq-eqb, ne_eqb}
use Rattle.std.proofs.lemmas.Option.{same_Some}
use Rattle.ipc_ids.specs.declared.numbers.Label.{Label}
use Rattle.ipc_ids.specs.declared.message.PhoneState.{PhoneState}
use Rattle.ipc_ids.specs.declared.message.PhoneState.TheVariants.{Connecting}
use Rattle.ipc_ids.proofs.Common.{is_some, none_some}
use Rattle.call_slab.specs.declared.call.Call.{Call}
use Rattle.answerbox.specs.Calls.{CallTable, call_at}
use Rattle.phone_table.specs.Phones.{state_at}
use Rattle.switchboard.specs.State.{KernelState, with_state_at}
use Rattle.switchboard.specs.Counts.{label_at}
use Rattle.switchboard.specs.Kept.{AreKept, IsLoose, IsLoosePhone, WaitsIn, kept_by, kept_phone}
use Rattle.switchboard.specs.Sound.{HaveKeepers}
use Rattle.switchboard.proofs.Rows.{state_changed_at}
use Rattle.switchboard.proofs.Soundness.{phone_kept, value_of}

-- phones

pub same_phone : (l m : Label) → l.task.0 ≡ m.task.0 → l.phone.0 ≡ m.phone.0 → l ≡ m
same_phone l m e f = ap (λ t. label_at t l.phone.0) e ∙ ap (λ p. label_at m.task.0 p) f

pub state_elsewhere : (rows : List (List PhoneState)) (a b t p : ℕ) (s x : PhoneState) → state_at rows t p ≡ Some x → ((t ≡ a) × (p ≡ b) → ⊥) → state_at (with_state_at rows a b s) t p ≡ Some x
state_elsewhere rows a b t p s x is ne =
    let f = value_of (state_at (with_state_at rows a b s) t p) (phone_kept rows a b t p s (is_some (state_at rows t p) x is)) in
    elim (state_changed_at rows a b t p s f.0 f.1) [ inl e ↦ absurd (ne (e.0, e.1)) | inr e ↦ f.1 ∙ sym e.1 ∙ is ]

pub state_here : (rows : List (List PhoneState)) (a b : ℕ) (s : PhoneState) → IsSome (state_at rows a b) → state_at (with_state_at rows a b s) a b ≡ Some s
state_here rows a b s there =
    let f = value_of (state_at (with_state_at rows a b s) a b) (phone_kept rows a b a b s there) in
    elim (state_changed_at rows a b a b s f.0 f.1) [ inl e ↦ f.1 ∙ ap Some (sym e.2) | inr e ↦ absurd (e.0 (refl, refl)) ]

-- calls

-- what each call keeps, where one record came, changed or left
pub kept_here : (q r : CallTable) (n : ℕ) (x : Option Call) → ((m : ℕ) → call_at r m ≡ (if n == m then x else call_at q m)) → kept_by r n ≡ option_and_then kept_phone x
kept_here q r n x at = let here : call_at r n ≡ x = at n ∙ rw (eq-eqb n n refl) refl in ap (option_and_then kept_phone) here

pub kept_other : (q r : CallTable) (n : ℕ) (x : Option Call) → ((m : ℕ) → call_at r m ≡ (if n == m then x else call_at q m)) → (m : ℕ) → (n ≡ m → ⊥) → kept_by r m ≡ kept_by q m
kept_other q r n x at m ne = let there : call_at r m ≡ call_at q m = at m ∙ rw (ne_eqb n m ne) refl in ap (option_and_then kept_phone) there

pub kept_of_call : (q : CallTable) (n : ℕ) (c : Call) → call_at q n ≡ Some c → kept_by q n ≡ kept_phone c
kept_of_call q n c is = ap (option_and_then kept_phone) is

-- the same phones are kept

pub kept_same : {rows : List (List PhoneState)} {q : CallTable} (r : CallTable) → ((m : ℕ) → kept_by r m ≡ kept_by q m) → AreKept rows q → AreKept rows r
kept_same r same s = record {
  waits = λ n l is. s.waits n l (sym (same n) ∙ is);
  alone = λ m n l a b. s.alone m n l (sym (same m) ∙ a) (sym (same n) ∙ b);
}

pub keepers_same : {rows : List (List PhoneState)} {q : CallTable} (r : CallTable) → ((m : ℕ) → kept_by r m ≡ kept_by q m) → HaveKeepers rows q → HaveKeepers rows r
keepers_same r same s = record { each = λ t p is. let k = s.each t p is in (k.0, same k.0 ∙ k.1) }

-- one call keeps what it kept
pub all_same : (q r : CallTable) (n : ℕ) → kept_by r n ≡ kept_by q n → ((m : ℕ) → (n ≡ m → ⊥) → kept_by r m ≡ kept_by q m) → (m : ℕ) → kept_by r m ≡ kept_by q m
all_same q r n here others m = elim (cases_eq n m) [ inl e ↦ subst (λ i. kept_by r i ≡ kept_by q i) e here | inr ne ↦ others m ne ]

-- no call keeps a phone that it did not keep
pub kept_less : {rows : List (List PhoneState)} {q : CallTable} (r : CallTable) → ((m : ℕ) (l : Label) → kept_by r m ≡ Some l → kept_by q m ≡ Some l) → AreKept rows q → AreKept rows r
kept_less r less s = record {
  waits = λ n l is. s.waits n l (less n l is);
  alone = λ m n l a b. s.alone m n l (less m l a) (less n l b);
}

-- a phone changes

-- no call keeps this phone
abbrev pub IsUnkept : CallTable → ℕ → ℕ → Type 0
IsUnkept q a b = (n : ℕ) (l : Label) → kept_by q n ≡ Some l → (l.task.0 ≡ a) × (l.phone.0 ≡ b) → ⊥

abbrev pub AreUnkept : CallTable → Option Label → Type 0
AreUnkept q None = ⊤
AreUnkept q (Some l) = IsUnkept q l.task.0 l.phone.0

-- the phone is there, where there is one
abbrev pub IsThere : List (List PhoneState) → Option Label → Type 0
IsThere rows None = ⊤
IsThere rows (Some l) = IsSome (state_at rows l.task.0 l.phone.0)

pub loose_there : (k : KernelState) (kept : Option Label) → IsLoose k kept → IsThere k.tasks.phones kept
loose_there k None loose = tt
loose_there k (Some l) loose = is_some (state_at k.tasks.phones l.task.0 l.phone.0) Connecting loose.waits

pub loose_unkept : (k : KernelState) (l : Label) → IsLoosePhone k l → IsUnkept k.calls l.task.0 l.phone.0
loose_unkept k l loose n x is e = loose.unkept n (is ∙ ap Some (same_phone x l e.0 e.1))

pub waiting_there : (rows : List (List PhoneState)) (kept : Option Label) → WaitsIn rows kept → IsThere rows kept
waiting_there rows None waits = tt
waiting_there rows (Some l) waits = is_some (state_at rows l.task.0 l.phone.0) Connecting waits

pub not_waiting : {rows : List (List PhoneState)} {q : CallTable} (a b : ℕ) → AreKept rows q → (state_at rows a b ≡ Some Connecting → ⊥) → IsUnkept q a b
not_waiting {rows} a b s not n l is e = not (rw (← e.0, ← e.1) (s.waits n l is))

pub kept_phone_changed : {rows : List (List PhoneState)} {q : CallTable} (a b : ℕ) (state : PhoneState) → AreKept rows q → IsUnkept q a b → AreKept (with_state_at rows a b state) q
kept_phone_changed {rows} a b state s unkept = record {
  waits = λ n l is. state_elsewhere rows a b l.task.0 l.phone.0 state Connecting (s.waits n l is) (unkept n l is);
  alone = s.alone;
}

pub keepers_phone_changed : {rows : List (List PhoneState)} {q : CallTable} (a b : ℕ) (state : PhoneState) → HaveKeepers rows q → (state ≡ Connecting → ⊥) → HaveKeepers (with_state_at rows a b state) q
keepers_phone_changed {rows} a b state s not = record {
  each = λ t p is. elim (state_changed_at rows a b t p state Connecting is) [ inl e ↦ absurd (not e.2) | inr e ↦ s.each t p e.1 ];
}

-- a call lets its phone go, and the others keep theirs
module _ {rows : List (List PhoneState)} (q r : CallTable) (n : ℕ) (l : Label) (was : kept_by q n ≡ Some l) (is : kept_by r n ≡ None) (others : (m : ℕ) → (n ≡ m → ⊥) → kept_by r m ≡ kept_by q m) where
  pub let_go_kept : AreKept rows q → AreKept rows r
  let_go_kept s = kept_less r (λ m x has. elim (cases_eq n m) [
    | inl e ↦ absurd (none_some (kept_by r n) x is (ap (kept_by r) e ∙ has))
    | inr ne ↦ sym (others m ne) ∙ has
  ]) s

  pub let_go_loose : AreKept rows q → (m : ℕ) → kept_by r m ≡ Some l → ⊥
  let_go_loose s m has = elim (cases_eq n m) [
    | inl e ↦ none_some (kept_by r n) l is (ap (kept_by r) e ∙ has)
    | inr ne ↦ ne (s.alone n m l was (sym (others m ne) ∙ has))
  ]

  pub let_go_unkept : AreKept rows q → IsUnkept r l.task.0 l.phone.0
  let_go_unkept s m x has e = let_go_loose s m (has ∙ ap Some (same_phone x l e.0 e.1))

  pub let_go_keepers : (state : PhoneState) → (state ≡ Connecting → ⊥) → HaveKeepers rows q → HaveKeepers (with_state_at rows l.task.0 l.phone.0 state) r
  let_go_keepers state not s = record {
    each = λ t p waits. elim (state_changed_at rows l.task.0 l.phone.0 t p state Connecting waits) [
      | inl e ↦ absurd (not e.2)
      | inr e ↦ let k = s.each t p e.1 in elim (cases_eq n k.0) [
        | inl same ↦ absurd (let it : label_at t p ≡ l = same_Some (label_at t p) l (sym k.1 ∙ ap (kept_by q) (sym same) ∙ was) in e.0 (ap (λ (x : Label). x.task.0) it, ap (λ (x : Label). x.phone.0) it))
        | inr ne ↦ (k.0, others k.0 ne ∙ k.1)
      ]
    ];
  }

-- a call keeps a phone that no call kept, and the others keep theirs
module _ {rows : List (List PhoneState)} (q r : CallTable) (n : ℕ) (l : Label) (is : kept_by r n ≡ Some l) (others : (m : ℕ) → (n ≡ m → ⊥) → kept_by r m ≡ kept_by q m) where
  pub taken_kept : AreKept rows q → state_at rows l.task.0 l.phone.0 ≡ Some Connecting → ((m : ℕ) → kept_by q m ≡ Some l → ⊥) → AreKept rows r
  taken_kept s waits unkept = record {
    waits = λ m x has. elim (cases_eq n m) [
      | inl e ↦ let it : l ≡ x = same_Some l x (sym is ∙ ap (kept_by r) e ∙ has) in subst (λ (y : Label). state_at rows y.task.0 y.phone.0 ≡ Some Connecting) it waits
      | inr ne ↦ s.waits m x (sym (others m ne) ∙ has)
    ];
    alone = λ m i x a b. elim (cases_eq n m) [
      | inl e ↦ elim (cases_eq n i) [
        | inl f ↦ sym e ∙ f
        | inr nf ↦ absurd (unkept i (sym (others i nf) ∙ b ∙ sym a ∙ sym (ap (kept_by r) e) ∙ is))
      ]
      | inr ne ↦ elim (cases_eq n i) [
        | inl f ↦ absurd (unkept m (sym (others m ne) ∙ a ∙ sym b ∙ sym (ap (kept_by r) f) ∙ is))
        | inr nf ↦ s.alone m i x (sym (others m ne) ∙ a) (sym (others i nf) ∙ b)
      ]
    ];
  }

  -- where it kept none before
  pub taken_keepers : kept_by q n ≡ None → HaveKeepers rows q → HaveKeepers (with_state_at rows l.task.0 l.phone.0 Connecting) r
  taken_keepers was s = record {
    each = λ t p waits. elim (state_changed_at rows l.task.0 l.phone.0 t p Connecting Connecting waits) [
      | inl e ↦ (n, is ∙ ap Some (same_phone l (label_at t p) (sym e.0) (sym e.1)))
      | inr e ↦ let k = s.each t p e.1 in elim (cases_eq n k.0) [
        | inl same ↦ absurd (let has : kept_by q n ≡ Some (label_at t p) = ap (kept_by q) same ∙ k.1 in let no : None ≡ Some (label_at t p) = sym was ∙ has in cc no)
        | inr ne ↦ (k.0, others k.0 ne ∙ k.1)
      ]
    ];
  }
