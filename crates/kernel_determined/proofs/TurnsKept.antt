-- Steps of the definitions give each thing its turn.
use Rattle.std.proofs.Common.{◌≡◌, ℕ, zero, suc, ◌+◌, ◌<◌, ◌≤◌, Bool, ◌⊎◌, inl, inr, List, [], ◌∷◌, ◌++◌, Option, None, Some, refl, sym, ap, subst, ◌∙◌, arith}
use Rattle.std.specs.Option.{option_map_or}
use Rattle.std.specs.FinMap.{entries}
use Rattle.std.proofs.lemmas.Bool.{cases_eq}
use Rattle.ipc_ids.specs.declared.entry.Entry.{Entry}
use Rattle.call_slab.specs.declared.call.Call.{Call}
use Rattle.answerbox.specs.Calls.{count_of}
use Rattle.switchboard.specs.State.{KernelState, Transition, nothing, then_do, drain, each}
use Rattle.kernel_laws.proofs.ReceiveLaws.{drain_stops}
use Rattle.kernel_determined.specs.Turns.{IsAmong, ComesBeforeEach, AreInOrder, EachInTurn}

-- nothing has its turn
pub no_turns : {A : Type 0} (IsSo : A → Type 0) (Before : A → A → Type 0)
    (Turn : KernelState → A → KernelState → List Entry → Type 0) (k : KernelState) → ((x : A) → IsSo x → ⊥)
    → EachInTurn IsSo Before Turn k k []
no_turns IsSo Before Turn k none = record {
  things = [];
  each = λ x h. absurd h;
  all = λ x h. absurd (none x h);
  order = tt;
  turns = (refl, refl);
}

-- the same things have their turns
pub same_turns : {A : Type 0} (P Q : A → Type 0) (Before : A → A → Type 0)
    (Turn : KernelState → A → KernelState → List Entry → Type 0) (k a : KernelState) (m : List Entry)
    → ((x : A) → P x → Q x) → ((x : A) → Q x → P x) → EachInTurn P Before Turn k a m → EachInTurn Q Before Turn k a m
same_turns P Q Before Turn k a m to from x = record {
  things = x.things;
  each = λ y h. to y (x.each y h);
  all = λ y h. x.all y (from y h);
  order = x.order;
  turns = x.turns;
}

-- thing x is first, and what it leaves are the others, in their order
pub record IsNextTurn {A : Type 0} (P Q : A → Type 0) (B C : A → A → Type 0) (x : A) : Type 0 where
  pub so : P x
  pub first : (y : A) → Q y → B x y
  pub back : (y : A) → Q y → P y
  pub forth : (y : A) → P y → (y ≡ x) ⊎ Q y
  pub order : (y z : A) → Q y → Q z → C y z → B y z

-- thing x has its turn, and then the others have theirs
module _ {A : Type 0} (P Q : A → Type 0) (B C : A → A → Type 0) (x : A) (next : IsNextTurn P Q B C x) where
  before_all : (ys : List A) → ((y : A) → IsAmong y ys → Q y) → ComesBeforeEach B x ys
  before_all [] all = tt
  before_all (y ∷ ys) all = (next.first y (all y (inl refl)), before_all ys (λ z h. all z (inr h)))

  each_back : (z : A) (ys : List A) → Q z → ((y : A) → IsAmong y ys → Q y) → ComesBeforeEach C z ys
      → ComesBeforeEach B z ys
  each_back z [] so all h = tt
  each_back z (y ∷ ys) so all h =
      (next.order z y so (all y (inl refl)) h.0, each_back z ys so (λ w g. all w (inr g)) h.1)

  order_back : (ys : List A) → ((y : A) → IsAmong y ys → Q y) → AreInOrder C ys → AreInOrder B ys
  order_back [] all h = tt
  order_back (y ∷ ys) all h =
      (each_back y ys (all y (inl refl)) (λ w g. all w (inr g)) h.0, order_back ys (λ w g. all w (inr g)) h.1)

  module _ (Turn : KernelState → A → KernelState → List Entry → Type 0) where
    pub one_turn : (k j a : KernelState) (now later : List Entry) → Turn k x j now → EachInTurn Q C Turn j a later
        → EachInTurn P B Turn k a (now ++ later)
    one_turn k j a now later turn rest = record {
      things = x ∷ rest.things;
      each = λ y h. elim h [ inl e ↦ subst P (sym e) next.so | inr among ↦ next.back y (rest.each y among) ];
      all = λ y h. elim (next.forth y h) [ inl e ↦ inl e | inr other ↦ inr (rest.all y other) ];
      order = (before_all rest.things rest.each, order_back rest.things rest.each rest.order);
      turns = (j, now, later, turn, rest.turns, refl);
    }

-- ---- a step for the next call, while there is one

-- the step for this call is a turn of thing x
pub record IsTurn {A : Type 0} (IsSo : KernelState → A → Type 0) (Before : KernelState → A → A → Type 0)
    (Turn : KernelState → A → KernelState → List Entry → Type 0) (k : KernelState) (x : A) (step : Transition) : Type
    0 where
  pub next : IsNextTurn (IsSo k) (IsSo step.state) (Before k) (Before step.state) x
  pub turn : Turn k x step.state step.entries

module _ {A : Type 0} (IsSo : KernelState → A → Type 0) (Before : KernelState → A → A → Type 0)
    (Turn : KernelState → A → KernelState → List Entry → Type 0) (next : KernelState → Option Call)
    (step : KernelState → Call → Transition) (name : Call → A) (I : KernelState → Type 0) (test : Call → Bool)
    (keeps : (k : KernelState) (c : Call) → I k → next k ≡ Some c → I (step k c).state)
    (less : (k : KernelState) (c : Call) → I k → next k ≡ Some c
    → suc (count_of test (entries (step k c).state.calls.records)) ≡ count_of test (entries k.calls.records))
    (none : (k : KernelState) → I k → next k ≡ None → (x : A) → IsSo k x → ⊥)
    (turn : (k : KernelState) (c : Call) → I k → next k ≡ Some c → IsTurn IsSo Before Turn k (name c) (step k c)) where
  abbrev Drained : KernelState → Transition → Type 0
  Drained k done = EachInTurn (IsSo k) (Before k) Turn k done.state done.entries

  pub all_drained : (most : ℕ) (k : KernelState) → I k → count_of test (entries k.calls.records) ≤ most
      → Drained k (drain next step most k)
  all_drained zero k i few = no_turns (IsSo k) (Before k) Turn k
      (none k i (drain_stops next step I test keeps less 0 k i few))
  all_drained (suc most) k i few = by_next (next k) refl (all_drained most) where
    by_next : (o : Option Call) → next k ≡ o
        → ((j : KernelState) → I j → count_of test (entries j.calls.records) ≤ most
        → Drained j (drain next step most j))
        → Drained k (option_map_or (λ c. then_do (step k c) (drain next step most)) o (nothing k))
    by_next None is later = no_turns (IsSo k) (Before k) Turn k (none k i is)
    by_next (Some c) is later =
        let t = turn k c i is in
        let fewer = less k c i is in
        let j : KernelState = (step k c).state in
        one_turn (IsSo k) (IsSo j) (Before k) (Before j) (name c) t.next Turn k j _ _ _ t.turn
        (later j (keeps k c i is) (omega (arith, fewer, few)))

-- ---- a step for each number

-- the step for a number is a turn of it, and leaves the others as they are
pub record IsOwnTurn {A : Type 0} (IsSo : KernelState → A → Type 0)
    (Turn : KernelState → A → KernelState → List Entry → Type 0) (k : KernelState) (x : A) (step : Transition) : Type
    0 where
  pub so : IsSo k x
  pub back : (y : A) → (y ≡ x → ⊥) → IsSo step.state y → IsSo k y
  pub forth : (y : A) → (y ≡ x → ⊥) → IsSo k y → IsSo step.state y
  pub turn : Turn k x step.state step.entries

module _ {A : Type 0} (IsSo : KernelState → A → Type 0) (Before : A → A → Type 0)
    (Turn : KernelState → A → KernelState → List Entry → Type 0) (step : KernelState → ℕ → Transition) (name : ℕ → A)
    (rises : (i j : ℕ) → i < j → Before (name i) (name j)) (apart : (i j : ℕ) → i < j → name j ≡ name i → ⊥)
    (I : KernelState → Type 0) (keeps : (k : KernelState) (i : ℕ) → I k → I (step k i).state)
    (decided : (k : KernelState) (i : ℕ) → I k
    → IsOwnTurn IsSo Turn k (name i) (step k i) ⊎ ((IsSo k (name i) → ⊥) × (step k i ≡ nothing k))) where
  -- one of those from number i on
  abbrev From : ℕ → KernelState → A → Type 0
  From i k x = (p : ℕ) × (i ≤ p) × (x ≡ name p) × IsSo k x

  abbrev Done : ℕ → KernelState → Transition → Type 0
  Done i k done = EachInTurn (From i k) Before Turn k done.state done.entries

  next_from : (i : ℕ) (k : KernelState) → IsOwnTurn IsSo Turn k (name i) (step k i)
      → IsNextTurn (From i k) (From (i + 1) (step k i).state) Before Before (name i)
  next_from i k t = record {
    so = (i, omega arith, refl, t.so);
    first = λ y f. let p : ℕ = f.0 in let from = f.1 in subst (Before (name i)) (sym f.2) (rises i p (omega arith));
    back = λ y f. let from = f.1 in (
      f.0,
      omega arith,
      f.2,
      t.back y (λ e. apart i f.0 (omega arith) (sym f.2 ∙ e))
          f.3,
    );
    forth = λ y f. elim (cases_eq i f.0) [
      | inl e ↦ inl (f.2 ∙ ap name (sym e))
      | inr ne ↦ let from = f.1 in
          inr (f.0, omega arith, f.2, t.forth y (λ e. apart i f.0 (omega arith) (sym f.2 ∙ e)) f.3)
    ];
    order = λ y z f g b. b;
  }

  pub all_done : (most i : ℕ) (k : KernelState) → I k → ((p : ℕ) → i + most ≤ p → IsSo k (name p) → ⊥)
      → Done i k (each step most i k)
  all_done zero i k h far = no_turns (From i k) Before Turn k
      (λ x f. let from = f.1 in far f.0 (omega arith) (subst (IsSo k) f.2 f.3))
  all_done (suc most) i k h far = elim (decided k i h) [
    | inl t ↦ (let j : KernelState = (step k i).state in
        one_turn (From i k) (From (i + 1) j) Before Before (name i) (next_from i k t) Turn k j _ _ _ t.turn
        (all_done most (i + 1) j (keeps k i h)
        (λ p more so. far p (omega arith) (t.back (name p) (λ e. apart i p (omega arith) e) so))))
    | inr s ↦ subst (λ (d : Transition). Done i k (then_do d (each step most (i + 1)))) (sym s.1)
        (same_turns (From (i + 1) k) (From i k) Before Turn k _ _
        (λ x f. let from = f.1 in (f.0, omega arith, f.2, f.3))
        (λ x f. elim (cases_eq i f.0) [
          | inl e ↦ absurd (s.0 (subst (IsSo k) (f.2 ∙ ap name (sym e)) f.3))
          | inr ne ↦ let from = f.1 in (f.0, omega arith, f.2, f.3)
        ])
        (all_done most (i + 1) k h (λ p more so. far p (omega arith) so)))
  ]
