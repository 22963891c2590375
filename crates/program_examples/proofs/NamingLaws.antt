-- The laws of the naming service, over the definitions.
use Rattle.std.proofs.Common.{◌≡◌, ℕ, zero, suc, ◌==◌, Bool, true, false, List, [], ◌∷◌, Some, None, refl, sym, ap, ◌∙◌, arith}
use Rattle.std.specs.Prelude.{not, is_some, slice_get, if◌then◌else◌}
use Rattle.std.proofs.lemmas.Bool.{eq-eqb, ne_eqb, eqb-true, and_parts, not-true, false_from_ne_true}
use Rattle.ipc_ids.specs.declared.numbers.Label.{Label}
use Rattle.ipc_ids.specs.Labels.{same_label}
use Rattle.ipc_ids.proofs.Common.{own_label}
use Rattle.task_ends.specs.declared.introduced.Introduced.{Introduced}
use Rattle.task_ends.specs.Ends.{is_open, entry_of, open_entry, leaving, leave}
use Rattle.naming_service.specs.Naming.{NamingState, phone_of}
use Rattle.program_examples.specs.NamingLaws.{Stands, IsAtRest, TasksIntroduceThemselvesOnce, TasksLeaveTheirValue, WaitsAreForTheKnown, CallsWaitForServices, OwedWorkStays}
use Rattle.std.proofs.lemmas.Option.{same_Some}
use Rattle.block_server.proofs.Windows.{none_at}
use Rattle.task_ends.proofs.LawfulEnds.{label_is}

-- ---- entries

-- the entry of a task, where it is the only one
entry_found : (w : ℕ) (xs : List Introduced) (i : ℕ) (x : Introduced) → slice_get xs i ≡ Some x → x.label.task.0 ≡ w
    → ((j : ℕ) (y : Introduced) → slice_get xs j ≡ Some y → y.label.task.0 ≡ w → j ≡ i) → entry_of w xs ≡ Some x
entry_found w [] i x at is one = absurd (none_at i x at)
entry_found w (y ∷ ys) zero x at is one = rw (same_Some y x at, eq-eqb x.label.task.0 w is) refl
entry_found w (y ∷ ys) (suc i) x at is one =
    by_test (y.label.task.0 == w) refl (entry_found w ys i x at is later) where
      later : (j : ℕ) (z : Introduced) → slice_get ys j ≡ Some z → z.label.task.0 ≡ w → j ≡ i
      later j z there same = let h : suc j ≡ suc i = one (suc j) z there same in omega (arith, h)

      by_test : (b : Bool) → (y.label.task.0 == w) ≡ b → entry_of w ys ≡ Some x
          → (if b then Some y else entry_of w ys) ≡ Some x
      by_test true same found = let h : 0 ≡ suc i = one 0 y refl (eqb-true _ _ same) in absurd (cc h)
      by_test false same found = found

-- there is none
entry_missing : (w : ℕ) (xs : List Introduced)
    → ((i : ℕ) (x : Introduced) → slice_get xs i ≡ Some x → x.label.task.0 ≡ w → ⊥) → entry_of w xs ≡ None
entry_missing w [] none = refl
entry_missing w (y ∷ ys) none =
    rw (ne_eqb y.label.task.0 w (none 0 y refl), entry_missing w ys (λ i x at. none (suc i) x at)) refl

known : (s : NamingState) (w i : ℕ) (x : Introduced) → IsAtRest s → Stands s i x → x.label.task.0 ≡ w
    → entry_of w s.ends.introduced ≡ Some x
known s w i x rest at is = entry_found w s.ends.introduced i x at is (λ j y there same.
    rest.apart j i y x there at (same ∙ sym is))

-- ---- open entries

open_is : (label : Label) (x : Introduced) → x.label ≡ label → x.ended ≡ false → is_open label x ≡ true
open_is label x same alive = rw (same, alive, own_label label) refl

is_open_is : (label : Label) (x : Introduced) → is_open label x ≡ true → (x.label ≡ label) × (x.ended ≡ false)
is_open_is label x is =
    let both = and_parts (same_label x.label label) (not x.ended) is in
    (label_is x.label label both.0, not-true x.ended both.1)

not_open : (label : Label) (x : Introduced) → (x.label ≡ label → x.ended ≡ false → ⊥) → is_open label x ≡ false
not_open label x none = false_from_ne_true (is_open label x) (λ is. let both = is_open_is label x is in none both.0 both.1)

-- there is an entry that is open
open_found : (label : Label) (xs : List Introduced) (i : ℕ) (x : Introduced) → slice_get xs i ≡ Some x
    → is_open label x ≡ true → is_some (open_entry label xs) ≡ true
open_found label [] i x at is = absurd (none_at i x at)
open_found label (y ∷ ys) zero x at is = rw (same_Some y x at, is) refl
open_found label (y ∷ ys) (suc i) x at is =
    by_test (is_open label y) refl (open_found label ys i x at is) where
      by_test : (b : Bool) → is_open label y ≡ b → is_some (open_entry label ys) ≡ true
          → is_some (if b then Some y else open_entry label ys) ≡ true
      by_test true first found = refl
      by_test false first found = found

-- there is none
open_missing : (label : Label) (xs : List Introduced)
    → ((i : ℕ) (x : Introduced) → slice_get xs i ≡ Some x → is_open label x ≡ false) → open_entry label xs ≡ None
open_missing label [] none = refl
open_missing label (y ∷ ys) none = rw (none 0 y refl, open_missing label ys (λ i x at. none (suc i) x at)) refl

-- then nothing is left
left_as_it_was : (label : Label) (v : ℕ) (xs : List Introduced)
    → ((i : ℕ) (x : Introduced) → slice_get xs i ≡ Some x → is_open label x ≡ false) → leave label v xs ≡ xs
left_as_it_was label v [] none = refl
left_as_it_was label v (y ∷ ys) none = rw (none 0 y refl, left_as_it_was label v ys (λ i x at. none (suc i) x at)) refl

-- what is left at the place of an entry
left_at : (label : Label) (v : ℕ) (xs : List Introduced) (i : ℕ) (x : Introduced) → slice_get xs i ≡ Some x
    → slice_get (leave label v xs) i ≡ Some (leaving label v x)
left_at label v [] i x at = absurd (none_at i x at)
left_at label v (y ∷ ys) zero x at = rw (same_Some y x at) refl
left_at label v (y ∷ ys) (suc i) x at = left_at label v ys i x at

-- and at all others, where it is the only one that is open
left_elsewhere : (label : Label) (v : ℕ) (xs : List Introduced) (i j : ℕ) → (j ≡ i → ⊥)
    → ((k : ℕ) (y : Introduced) → slice_get xs k ≡ Some y → is_open label y ≡ true → k ≡ i)
    → slice_get (leave label v xs) j ≡ slice_get xs j
left_elsewhere label v [] i j apart one = refl
left_elsewhere label v (y ∷ ys) i zero apart one = by_test (is_open label y) refl where
  by_test : (b : Bool) → is_open label y ≡ b
      → Some (if b then record y { end = record { has = true; value = v } } else y) ≡ Some y
  by_test true is = absurd (apart (one 0 y refl is))
  by_test false is = refl
left_elsewhere label v (y ∷ ys) zero (suc j) apart one =
    rw (left_as_it_was label v ys (λ k z at. false_from_ne_true (is_open label z)
    (λ is. let h : suc k ≡ 0 = one (suc k) z at is in cc h))) refl
left_elsewhere label v (y ∷ ys) (suc i) (suc j) apart one =
    left_elsewhere label v ys i j (λ same. apart (ap suc same))
    (λ k z at is. let h : suc k ≡ suc i = one (suc k) z at is in omega (arith, h))

-- ---- the laws

pub introductions : TasksIntroduceThemselvesOnce
introductions = record {
  first = λ s now c none.
      let new = entry_missing c.sender.task.0 s.ends.introduced none in
      rw (c.made, c.rest.idle, new)
      (record {
        asks = record { asked = refl; registry = refl; pending = refl };
        introduced = rw new refl;
        waits = refl;
      });
  again = λ s now c i x at is. rw (c.made, c.rest.idle, known s c.sender.task.0 i x c.rest at is)
      (record { asks = record { asked = refl; registry = refl; pending = refl }; ends = refl });
}

pub leaves : TasksLeaveTheirValue
leaves = record {
  left = λ s now c i x at same alive.
      let is = open_is c.sender x same alive in
      rw (c.made, c.rest.idle, open_found c.sender s.ends.introduced i x at is)
      (record {
        asks = record { asked = refl; registry = refl; pending = refl };
        left = left_at c.sender c.first s.ends.introduced i x at ∙ rw is refl;
        others = λ j apart. left_elsewhere c.sender c.first s.ends.introduced i j apart
            (λ k y there opens. c.rest.apart k i y x there at
            (ap (λ (l : Label). l.task.0) ((is_open_is c.sender y opens).0
            ∙ sym same)));
        waits = refl;
      });
  refused = λ s now c none.
      let closed : (i : ℕ) (x : Introduced) → Stands s i x
      → is_open c.sender x ≡ false = λ i x at. not_open c.sender x (none i x at) in
      rw (
        c.made,
        c.rest.idle,
        open_missing c.sender s.ends.introduced closed,
        left_as_it_was c.sender c.first s.ends.introduced closed,
      )
      (record { asks = record { asked = refl; registry = refl; pending = refl }; ends = refl });
}

pub waits : WaitsAreForTheKnown
waits = record {
  waits = λ s now c i x at is alive.
      let there = known s c.first i x c.rest at is in
      rw (c.made, c.rest.idle, there, alive)
      (record {
        asks = record { asked = refl; registry = refl; pending = refl };
        waits = rw (there, alive) refl;
        introduced = rw (there, alive) refl;
      });
  told = λ s now c i x at is ended has. rw (c.made, c.rest.idle, known s c.first i x c.rest at is, ended, has)
      (record { asks = record { asked = refl; registry = refl; pending = refl }; ends = refl });
  told_without = λ s now c i x at is ended has. rw (c.made, c.rest.idle, known s c.first i x c.rest at is, ended, has)
      (record { asks = record { asked = refl; registry = refl; pending = refl }; ends = refl });
  unknown = λ s now c none. rw (c.made, c.rest.idle, entry_missing c.first s.ends.introduced none)
      (record { asks = record { asked = refl; registry = refl; pending = refl }; ends = refl });
}

-- a service to which no phone leads
not_there : (service : ℕ) (es : List (ℕ × ℕ)) → ((i phone : ℕ) → slice_get es i ≡ Some (service, phone) → ⊥)
    → phone_of es service ≡ None
not_there service [] none = refl
not_there service (e ∷ es) none =
    rw (
      ne_eqb service e.0 (λ same. none 0 e.1 (ap (λ (n : ℕ). Some (n, e.1)) (sym same))),
      not_there service es (λ i phone at. none (suc i) phone at),
    ) refl

pub services : CallsWaitForServices
services = record {
  waits = λ s now c none one. rw (c.made, c.rest.idle, not_there c.first s.registry none, eq-eqb c.fourth 1 one)
      (record { asked = refl; pending = refl; registry = refl; ends = refl });
  refused = λ s now c none other.
      rw (c.made, c.rest.idle, not_there c.first s.registry none, ne_eqb c.fourth 1 other)
      (record { asks = record { asked = refl; registry = refl; pending = refl }; ends = refl });
}

pub owed : OwedWorkStays
owed = record {
  answer = λ s call said rest is. rw is refl;
  forward = λ s call phone msg rest is. rw is refl;
  rest = λ s first rest o is. rw is refl;
}
