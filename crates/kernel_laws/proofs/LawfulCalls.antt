-- With which methods a task may call, which phone it may keep, and what is checked of a call before it is sent.
use Rattle.std.proofs.Common.{◌≡◌, ℕ, zero, suc, ◌+◌, ◌≤◌, ◌⊎◌, inl, inr, Bool, true, false, List, [], ◌∷◌, Option, None, Some, Result, refl, ap, sym, subst, ◌∙◌, arith, nat_lt, ◌<◌}
use Rattle.std.specs.Prelude.{◌==◌, ◌↔◌, if◌then◌else◌, ⊤, slice_get}
use Rattle.std.proofs.lemmas.Bool.Decides.{nat_tests}
use Rattle.ipc_ids.specs.declared.numbers.Code.{Code}
use Rattle.ipc_ids.specs.declared.numbers.Label.{Label}
use Rattle.ipc_ids.specs.declared.numbers.TaskNo.{TaskNo}
use Rattle.ipc_ids.specs.declared.message.Msg.{Msg}
use Rattle.ipc_ids.specs.declared.message.PhoneState.{PhoneState}
use Rattle.ipc_ids.specs.declared.message.PhoneState.TheVariants.{Free, HungUp}
use Rattle.ipc_ids.specs.declared.methods.MethodKind.{MethodKind}
use Rattle.ipc_ids.specs.declared.methods.MethodKind.TheVariants.{PhoneHungUp, ConnectToMe, ConnectMeTo, DataWrite, DataRead, ShareOut, ShareIn, Unused, User}
use Rattle.ipc_ids.specs.Codes.{elimit}
use Rattle.ipc_ids.specs.Methods.{kind_of}
use Rattle.answerbox.specs.Calls.{CallTable, active_calls}
use Rattle.phone_table.specs.Phones.{row_at, is_usable}
use Rattle.address_space.specs.Sound as spaces
use Rattle.switchboard.specs.State.{KernelState, phone_at, label_of}
use Rattle.switchboard.specs.Kept.{first_usable_from, first_usable_of}
use Rattle.switchboard.proofs.Repeats.{by_test}
use Rattle.switchboard.proofs.Usable.{usable_is}
use Rattle.kernel_core.specs.Calling.{is_callable}
use Rattle.kernel_laws.specs.PoolLaws.{pool}
use Rattle.kernel_laws.specs.DataLaws.{IsLawfulCopy, IsLawfulAsking, IsLawfulOffer, IsLawfulWish}
use Rattle.kernel_laws.specs.CallCodes.{IsNoCall, cause_of, HasUsable, IsCheck}
use Rattle.kernel_laws.proofs.Methods.{user_kind}
use Rattle.std.proofs.lemmas.Bool.{eqb-true, eq-eqb, false≢true}
use Rattle.std.proofs.lemmas.Option.{same_Some}

-- ---- methods

abbrev pub IsTested : ℕ → MethodKind → Type 0
IsTested m kind = (is_callable kind ≡ false → IsNoCall m) × (is_callable kind ≡ true → IsNoCall m → ⊥)

can_call : (m n : ℕ) → m ≡ n → 1 ≤ n → n ≤ 6 → (true ≡ false → IsNoCall m) × (true ≡ true → IsNoCall m → ⊥)
can_call m n is some few = ((λ e. absurd (cc e)), λ _ b. elim b [ inl e ↦ omega (arith, e, is, some) | inr e ↦ (let from = e.0 in omega (arith, from, is, few)) ])

-- of a method, whether a task may call with it
pub method_test : (m : ℕ) → IsTested m (kind_of m)
method_test m =
    by_test (IsTested m) (m == 0) _ _ (λ h. ((λ _. inl (grind (arith, nat_tests, h))), (λ e. absurd (cc e)))) (λ n0.
    by_test (IsTested m) (m == 1) _ _ (λ h. can_call m 1 (grind (arith, nat_tests, h)) (omega arith) (omega arith)) (λ n1.
    by_test (IsTested m) (m == 2) _ _ (λ h. can_call m 2 (grind (arith, nat_tests, h)) (omega arith) (omega arith)) (λ n2.
    by_test (IsTested m) (m == 3) _ _ (λ h. can_call m 3 (grind (arith, nat_tests, h)) (omega arith) (omega arith)) (λ n3.
    by_test (IsTested m) (m == 4) _ _ (λ h. can_call m 4 (grind (arith, nat_tests, h)) (omega arith) (omega arith)) (λ n4.
    by_test (IsTested m) (m == 5) _ _ (λ h. can_call m 5 (grind (arith, nat_tests, h)) (omega arith) (omega arith)) (λ n5.
    by_test (IsTested m) (m == 6) _ _ (λ h. can_call m 6 (grind (arith, nat_tests, h)) (omega arith) (omega arith)) (λ n6.
    by_test (IsTested m) (nat_lt m 512) _ _
    (λ h. ((λ _. inr (grind (arith, nat_tests, n0, n1, n2, n3, n4, n5, n6), grind (arith, nat_tests, h))), (λ e. absurd (cc e))))
    (λ h. let far : 512 ≤ m = grind (arith, nat_tests, h) in ((λ e. absurd (cc e)), λ _ b. elim b [ inl e ↦ omega (arith, e, far) | inr e ↦ (let few = e.1 in omega (arith, far, few)) ])))))))))

-- ---- a phone for a connection

-- the phone that is found, if one is, has a higher number
abbrev pub IsBefore : ℕ → Option Label → Type 0
IsBefore p None = ⊤
IsBefore p (Some l) = p < l.phone.0

-- the first of some states, and what is known of the others: none before the one that is found is usable
module _ (q : CallTable) (t : TaskNo) (p : ℕ) (x : PhoneState) (states : List PhoneState) (o : Option Label) (s : PhoneState)
    (others : (j : ℕ) → first_usable_from q t (p + 1) states ≡ o → IsBefore (p + 1 + j) o → slice_get states j ≡ Some s
    → is_usable s (active_calls q (label_of t (p + 1 + j))) ≡ true → ⊥) where
  before_by :
      (b : Bool) → is_usable x (active_calls q (label_of t p)) ≡ b
      → (if b then Some (label_of t p) else first_usable_from q t (p + 1) states) ≡ o
      → (j : ℕ) → IsBefore (p + j) o → slice_get (x ∷ states) j ≡ Some s
      → is_usable s (active_calls q (label_of t (p + j))) ≡ true → ⊥
  before_by true it g j less has can =
      let below : p + j < p = subst (IsBefore (p + j)) (sym g) less in
      omega (arith, below)
  before_by false it g zero less has can =
      let z : p + 0 ≡ p = omega arith in
      let now = subst (λ y. is_usable y (active_calls q (label_of t (p + 0))) ≡ true) (sym (same_Some x s has)) can in
      false≢true (sym it ∙ subst (λ i. is_usable x (active_calls q (label_of t i)) ≡ true) z now)
  before_by false it g (suc j) less has can =
      let n : p + suc j ≡ p + 1 + j = omega arith in
      others j g (subst (λ i. IsBefore i o) n less) has
      (subst (λ i. is_usable s (active_calls q (label_of t i)) ≡ true) n can)

none_before : (q : CallTable) (t : TaskNo) (p : ℕ) (states : List PhoneState) (o : Option Label) (s : PhoneState) (j : ℕ)
    → first_usable_from q t p states ≡ o → IsBefore (p + j) o → slice_get states j ≡ Some s
    → is_usable s (active_calls q (label_of t (p + j))) ≡ true → ⊥
none_before q t p [] o s j e less has can = absurd (cc has)
none_before q t p (x ∷ states) o s j e less has can =
    before_by q t p x states o s (λ i. none_before q t (p + 1) states o s i)
    (is_usable x (active_calls q (label_of t p))) refl e j less has can

module _ (k : KernelState) (t : TaskNo) where
  -- so of the phones of a task
  pub unusable : (p : ℕ) (s : PhoneState) (o : Option Label) → first_usable_of k t ≡ o → IsBefore p o
      → phone_at k t p ≡ Some s → is_usable s (active_calls k.calls (label_of t p)) ≡ true → ⊥
  unusable p s o found less at can = by_row (row_at k.tasks.phones t.0) refl found at where
    by_row : (row : Option (List PhoneState)) → row_at k.tasks.phones t.0 ≡ row → first_usable_of k t ≡ o
        → phone_at k t p ≡ Some s → ⊥
    by_row None is e there = let g = rw is at there in absurd (cc g)
    by_row (Some row) is e there =
        let z : p ≡ 0 + p = omega arith in
        none_before k.calls t 0 row o s p (rw is at e) (subst (λ i. IsBefore i o) z less) (rw is at there)
        (subst (λ i. is_usable s (active_calls k.calls (label_of t i)) ≡ true) z can)

  -- what is found is usable
  pub found_usable : (l : Label) → first_usable_of k t ≡ Some l
      → (s : PhoneState) × (phone_at k t l.phone.0 ≡ Some s) × (is_usable s (active_calls k.calls (label_of t l.phone.0)) ≡ true)
  found_usable l is =
      let u = usable_is k t l is in
      let same : l ≡ label_of t l.phone.0 =
      ap (λ (v : TaskNo). let r : Label = record { task = v; phone = l.phone } in r) u.own in (
        u.state,
        subst (λ (v : TaskNo). phone_at k v l.phone.0 ≡ Some u.state) u.own u.is,
        subst (λ (x : Label). is_usable u.state (active_calls k.calls x) ≡ true) same u.usable,
      )

  pub some_usable : (l : Label) → first_usable_of k t ≡ Some l → HasUsable k t
  some_usable l is = let u = found_usable l is in (l.phone.0, by u.0 u.1 u.2) where
    by : (s : PhoneState) → phone_at k t l.phone.0 ≡ Some s
        → is_usable s (active_calls k.calls (label_of t l.phone.0)) ≡ true
        → (phone_at k t l.phone.0 ≡ Some Free)
        ⊎ ((phone_at k t l.phone.0 ≡ Some HungUp) × (active_calls k.calls (label_of t l.phone.0) ≡ 0))
    by Free at usable = inl at
    by HungUp at usable = inr (at, eqb-true (active_calls k.calls (label_of t l.phone.0)) 0 usable)
    by _ at usable = absurd (cc usable)

  pub none_usable : first_usable_of k t ≡ None → HasUsable k t → ⊥
  none_usable is (p, inl free) = unusable p Free None is tt free refl
  none_usable is (p, inr hung) =
      unusable p HungUp None is tt hung.0 (eq-eqb (active_calls k.calls (label_of t p)) 0 hung.1)

-- ---- what is checked

module _ (k : KernelState) (t : TaskNo) (p : ℕ) (msg : Msg) where
  -- what is checked of a call of each kind, and what its record has once it is sent
  abbrev pub CheckOf : MethodKind → Option Code → Type 0
  CheckOf DataWrite cause = spaces.IsSound k.memory → (told : Result (List ℕ) Code) × IsLawfulCopy k.memory t msg.args (pool k) told × (cause ≡ cause_of told)
  CheckOf DataRead cause = (told : Result ℕ Code) × IsLawfulAsking msg.args told × (cause ≡ cause_of told)
  CheckOf ShareOut cause = spaces.IsSound k.memory → (told : Result Unit Code) × IsLawfulOffer k.memory t msg.args told × (cause ≡ cause_of told)
  CheckOf ShareIn cause = (told : Result Unit Code) × IsLawfulWish msg.args told × (cause ≡ cause_of told)
  CheckOf ConnectMeTo cause = (cause ≡ None ↔ HasUsable k t) × (cause ≡ Some elimit ↔ (HasUsable k t → ⊥))
  CheckOf PhoneHungUp cause = ⊤
  CheckOf Unused cause = ⊤
  CheckOf ConnectToMe cause = cause ≡ None
  CheckOf User cause = cause ≡ None

  pub check_by : (kind : MethodKind) → kind_of msg.method ≡ kind → (cause : Option Code) → CheckOf kind cause → IsCheck k t msg cause
  check_by kind is cause h = record {
    write = λ e. subst (λ x. CheckOf x cause) (sym is ∙ ap kind_of e) h;
    read = λ e. subst (λ x. CheckOf x cause) (sym is ∙ ap kind_of e) h;
    out = λ e. subst (λ x. CheckOf x cause) (sym is ∙ ap kind_of e) h;
    inward = λ e. subst (λ x. CheckOf x cause) (sym is ∙ ap kind_of e) h;
    connect = λ e. subst (λ x. CheckOf x cause) (sym is ∙ ap kind_of e) h;
    others = λ o. elim o [ inl e ↦ subst (λ x. CheckOf x cause) (sym is ∙ ap kind_of e) h | inr far ↦ subst (λ x. CheckOf x cause) (sym is ∙ user_kind msg.method far) h ];
  }
