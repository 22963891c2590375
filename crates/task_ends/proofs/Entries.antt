-- The entries of tasks as one introduces itself, leaves a value or ends.
use Rattle.std.proofs.Common.{ℕ, ◌≡◌, Bool, true, false, List, [], ◌∷◌, ◌++◌, Option, Some, None, refl, sym, subst, ap, ◌∙◌, arith}
use Rattle.std.specs.Prelude.{◌==◌, map, if◌then◌else◌}
use Rattle.std.proofs.lemmas.Bool.{eq-eqb, ne_eqb, eqb-true, cases_eq}
use Rattle.ipc_ids.specs.declared.numbers.Label.{Label}
use Rattle.task_ends.specs.declared.introduced.Introduced.{Introduced}
use Rattle.task_ends.specs.Ends.{is_open, is_task, entry_of, open_entry, newcomer, leaving, leave, ending, end_all, AreApart}

-- an entry that is found is of the task
pub entry_task : (w : ℕ) (xs : List Introduced) (x : Introduced) → entry_of w xs ≡ Some x → x.label.task.0 ≡ w
entry_task w [] x h = absurd (cc h)
entry_task w (y ∷ ys) x h = grind (arith, eqb-true, entry_task w ys x)

abbrev pub changed : (Introduced → Introduced) → Option Introduced → Option Introduced
changed f None = None
changed f (Some x) = Some (f x)

-- where entries keep their labels
module _ (f : Introduced → Introduced) (keeps : (x : Introduced) → (f x).label ≡ x.label) where
  found : (w : ℕ) (x : Introduced) (xs : List Introduced) (b : Bool) → is_task w x ≡ b → entry_of w (map f xs) ≡ changed f (entry_of w xs) → entry_of w (f x ∷ map f xs) ≡ changed f (entry_of w (x ∷ xs))
  found w x xs true is rest = let same : is_task w (f x) ≡ true = ap (λ (l : Label). l.task.0 == w) (keeps x) ∙ is in rw (same, is) refl
  found w x xs false is rest = let same : is_task w (f x) ≡ false = ap (λ (l : Label). l.task.0 == w) (keeps x) ∙ is in rw (same, is) rest

  pub entry_of_map : (w : ℕ) (xs : List Introduced) → entry_of w (map f xs) ≡ changed f (entry_of w xs)
  entry_of_map w [] = refl
  entry_of_map w (x ∷ xs) = found w x xs (is_task w x) refl (entry_of_map w xs)

  apart_map : (xs : List Introduced) → AreApart xs → AreApart (map f xs)
  apart_map [] h = tt
  apart_map (x ∷ xs) h = (subst (λ (l : Label). entry_of l.task.0 (map f xs) ≡ None) (sym (keeps x)) (entry_of_map x.label.task.0 xs ∙ ap (changed f) h.0), apart_map xs h.1)

leaving_keeps : (label : Label) (value : ℕ) (x : Introduced) → (leaving label value x).label ≡ x.label
leaving_keeps label value x = grind arith

ending_keeps : (label : Label) (x : Introduced) → (ending label x).label ≡ x.label
ending_keeps label x = grind arith

pub entry_leaves : (label : Label) (value w : ℕ) (xs : List Introduced) → entry_of w (leave label value xs) ≡ changed (leaving label value) (entry_of w xs)
entry_leaves label value w xs = entry_of_map (leaving label value) (leaving_keeps label value) w xs

pub entry_ends : (label : Label) (w : ℕ) (xs : List Introduced) → entry_of w (end_all label xs) ≡ changed (ending label) (entry_of w xs)
entry_ends label w xs = entry_of_map (ending label) (ending_keeps label) w xs

pub apart_leave : (label : Label) (value : ℕ) (xs : List Introduced) → AreApart xs → AreApart (leave label value xs)
apart_leave label value xs h = apart_map (leaving label value) (leaving_keeps label value) xs h

pub apart_end : (label : Label) (xs : List Introduced) → AreApart xs → AreApart (end_all label xs)
apart_end label xs h = apart_map (ending label) (ending_keeps label) xs h

-- one entry more
abbrev pub with_newcomer : Label → ℕ → Option Introduced → Option Introduced
with_newcomer label w None = if label.task.0 == w then Some (newcomer label) else None
with_newcomer label w (Some x) = Some x

pub entry_added : (label : Label) (w : ℕ) (xs : List Introduced) → entry_of w (xs ++ newcomer label ∷ []) ≡ with_newcomer label w (entry_of w xs)
entry_added label w [] = refl
entry_added label w (x ∷ xs) = grind (arith, entry_added label w xs)

pub apart_added : (label : Label) (xs : List Introduced) → entry_of label.task.0 xs ≡ None → AreApart xs → AreApart (xs ++ newcomer label ∷ [])
apart_added label [] none h = (refl, tt)
apart_added label (x ∷ xs) none h = (added, apart_added label xs rest h.1) where
  rest : entry_of label.task.0 xs ≡ None
  rest = grind (arith, none)

  added : entry_of x.label.task.0 (xs ++ newcomer label ∷ []) ≡ None
  added = grind (arith, eq-eqb, ne_eqb, eqb-true, entry_added label x.label.task.0 xs, h.0, none, cases_eq label.task.0 x.label.task.0)

-- an entry that has this label and has not ended is that of its task
open_task : (label : Label) (x : Introduced) → is_open label x ≡ true → x.label.task.0 ≡ label.task.0
open_task label x h = grind (arith, eqb-true, h)

pub open_is_entry : (label : Label) (xs : List Introduced) (x : Introduced) → AreApart xs → open_entry label xs ≡ Some x → (entry_of label.task.0 xs ≡ Some x) × (is_open label x ≡ true)
open_is_entry label [] x apart h = absurd (cc h)
open_is_entry label (y ∷ ys) x apart h = by_first (is_open label y) refl (open_is_entry label ys x apart.1) where
  by_first : (b : Bool) → is_open label y ≡ b → (open_entry label ys ≡ Some x → (entry_of label.task.0 ys ≡ Some x) × (is_open label x ≡ true)) → (entry_of label.task.0 (y ∷ ys) ≡ Some x) × (is_open label x ≡ true)
  by_first true is more =
      let same : y ≡ x = grind (arith, is, h) in
      let task : is_task label.task.0 y ≡ true = eq-eqb y.label.task.0 label.task.0 (open_task label y is) in
      (rw task (ap (λ (z : Introduced). Some z) same), subst (λ (z : Introduced). is_open label z ≡ true) same is)
  by_first false is more =
      let found : open_entry label ys ≡ Some x = grind (arith, is, h) in
      let rest = more found in
      let other : is_task label.task.0 y ≡ false = grind (arith, eqb-true, apart.0, rest.0) in
      (rw other rest.0, rest.1)

-- where no entry is so, none changes
pub closed_entry : (label : Label) (w : ℕ) (xs : List Introduced) (x : Introduced) → open_entry label xs ≡ None → entry_of w xs ≡ Some x → is_open label x ≡ false
closed_entry label w [] x none h = absurd (cc h)
closed_entry label w (y ∷ ys) x none h = grind (arith, closed_entry label w ys x)
