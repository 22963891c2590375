-- What entries by place list, and how the list changes with them.
use Rattle.std.proofs.Common.{ℕ, zero, suc, ◌≡◌, ◌+◌, ◌<◌, ◌≤◌, ◌⊎◌, inl, inr, Bool, true, false, cond}
use Rattle.std.proofs.Common.{Option, Some, None, List, [], ◌∷◌, ◌++◌, length, refl, sym, ap, subst, ◌∙◌}
use Rattle.std.proofs.Common.{arith, nat_eq}
use Rattle.std.specs.Prelude.{slice_get, slice_set}
use Rattle.std.specs.List.{AllByRecursion, IsDistinct}
use Rattle.std.specs.Map.{keys_of, values_of, lookup, lookup_key}
use Rattle.std.specs.Cmp.{nat_eq_equiv}
use Rattle.std.proofs.lemmas.Bool.{cases_eq, ne_eqb}
use Rattle.std.proofs.lemmas.Bool.Decides.{nat_tests}
use Rattle.std.proofs.lemmas.Map.Keys.{IsDistinct-head, IsDistinct-tail}
use Rattle.ipc_ids.proofs.Common.{is_same}
use Rattle.indexmap.specs.IndexMap.{IndexMap, IsUnique, with_value_at}
use Rattle.indexmap.proofs.CallerLemmas.{updates-with_value_at}
use Rattle.async_task.specs.declared.context.Context.{Context}
use Rattle.async_task.specs.Kept.{ContextsState, kept_at, with_kept, listed, AreBelow, StandsAt}

is_eq : (q n : ℕ) → nat_eq q n ≡ true → q ≡ n
is_eq q n h = grind (arith, nat_tests)

suc_eq : (q n : ℕ) → nat_eq (suc q) (suc n) ≡ nat_eq q n
suc_eq q n = grind (arith, nat_tests)

push_length : (ts : List (Option Context)) (o : Option Context) → length (ts ++ o ∷ []) ≡ suc (length ts)
push_length [] o = refl
push_length (t ∷ ts) o = ap suc (push_length ts o)

pub length_listed : (n : ℕ) (es : List (ℕ × Context)) → length (listed n es) ≡ n
unfolding listed
length_listed zero es = refl
length_listed (suc n) es =
    push_length (listed n es) (lookup (nat_eq n) es) ∙ ap suc (length_listed n es)

-- what stands at a place

push_kept : (ts : List (Option Context)) (o : Option Context) (i : ℕ) →
    kept_at (ts ++ o ∷ []) i ≡ cond (nat_eq (length ts) i) o (kept_at ts i)
push_kept [] o zero = refl
push_kept [] o (suc i) = rw (ne_eqb 0 (suc i) (λ e. absurd (omega (arith, e)))) refl
push_kept (t ∷ ts) o zero =
    rw (ne_eqb (suc (length ts)) 0 (λ e. absurd (omega (arith, e)))) refl
push_kept (t ∷ ts) o (suc i) = rw (suc_eq (length ts) i) (push_kept ts o i)

kept_past : (ts : List (Option Context)) (i : ℕ) → length ts ≤ i → kept_at ts i ≡ None
kept_past [] i h = refl
kept_past (t ∷ ts) zero h = absurd (omega arith)
kept_past (t ∷ ts) (suc i) h = kept_past ts i (omega arith)

kept_below : (n : ℕ) (es : List (ℕ × Context)) (i : ℕ) → i < n →
    kept_at (listed n es) i ≡ lookup (nat_eq i) es
unfolding listed
kept_below zero es i h = absurd (omega arith)
kept_below (suc n) es i h =
    push_kept (listed n es) (lookup (nat_eq n) es) i
    ∙ ap (λ (k : ℕ). cond (nat_eq k i) (lookup (nat_eq n) es) (kept_at (listed n es) i))
    (length_listed n es) ∙ by (cases_eq n i) (λ b. kept_below n es i b)
  where
    by : (n ≡ i) ⊎ (n ≡ i → ⊥) → (i < n → kept_at (listed n es) i ≡ lookup (nat_eq i) es) →
        cond (nat_eq n i) (lookup (nat_eq n) es) (kept_at (listed n es) i) ≡ lookup (nat_eq i) es
    by (inl e) more =
        ap (λ (k : ℕ). cond (nat_eq n k) (lookup (nat_eq n) es) (kept_at (listed n es) k)) (sym e)
        ∙ ap (λ (b : Bool). cond b (lookup (nat_eq n) es) (kept_at (listed n es) n)) (is_same n)
        ∙ ap (λ (k : ℕ). lookup (nat_eq k) es) e
    by (inr other) more =
        ap (λ (b : Bool). cond b (lookup (nat_eq n) es) (kept_at (listed n es) i)) (ne_eqb n i other)
        ∙ more (omega (arith, h, other))

pub kept_listed : (n : ℕ) (es : List (ℕ × Context)) (i : ℕ) → AreBelow n es →
    kept_at (listed n es) i ≡ lookup (nat_eq i) es
kept_listed n es i below = by (nat_lt_cases i n)
  where
    nat_lt_cases : (i n : ℕ) → (i < n) ⊎ (n ≤ i)
    nat_lt_cases i zero = inr (omega arith)
    nat_lt_cases zero (suc n) = inl (omega arith)
    nat_lt_cases (suc i) (suc n) = lift (nat_lt_cases i n)
      where
        lift : (i < n) ⊎ (n ≤ i) → (suc i < suc n) ⊎ (suc n ≤ suc i)
        lift (inl h) = inl (omega arith)
        lift (inr h) = inr (omega arith)

    by : (i < n) ⊎ (n ≤ i) → kept_at (listed n es) i ≡ lookup (nat_eq i) es
    by (inl h) = kept_below n es i h
    by (inr h) =
        kept_past (listed n es) i (subst (λ (k : ℕ). k ≤ i) (sym (length_listed n es)) h)
        ∙ sym (below.none i h)

-- what stands at a place stands there still
pub set_same : (ts : List (Option Context)) (i : ℕ) (t : Context) → kept_at ts i ≡ Some t →
    slice_set ts i (Some t) ≡ ts
set_same [] i t h = refl
set_same (u ∷ ts) zero t h = ap (λ (o : Option Context). o ∷ ts) (sym h)
set_same (u ∷ ts) (suc i) t h = ap (λ (us : List (Option Context)). u ∷ us) (set_same ts i t h)

-- a change at one place

-- the entries give that at the place, and at the others what those gave
pub record Changes (es fs : List (ℕ × Context)) (i : ℕ) (o : Option Context) : Type 0 where
  pub at : (j : ℕ) → lookup (nat_eq j) fs ≡ cond (nat_eq i j) o (lookup (nat_eq j) es)

set_push : (ts : List (Option Context)) (x : Option Context) (i : ℕ) (o : Option Context) →
    slice_set (ts ++ x ∷ []) i o ≡ slice_set ts i o ++ cond (nat_eq i (length ts)) o x ∷ []
set_push [] x zero o = refl
set_push [] x (suc i) o = rw (ne_eqb (suc i) 0 (λ e. absurd (omega (arith, e)))) refl
set_push (t ∷ ts) x zero o =
    rw (ne_eqb 0 (suc (length ts)) (λ e. absurd (omega (arith, e)))) refl
set_push (t ∷ ts) x (suc i) o =
    rw (suc_eq i (length ts)) (ap (λ (us : List (Option Context)). t ∷ us) (set_push ts x i o))

pub listed_set : (n : ℕ) (es fs : List (ℕ × Context)) (i : ℕ) (o : Option Context) →
    Changes es fs i o → listed n fs ≡ slice_set (listed n es) i o
unfolding listed
listed_set zero es fs i o h = refl
listed_set (suc n) es fs i o h =
    ap (λ (ts : List (Option Context)). ts ++ lookup (nat_eq n) fs ∷ []) (listed_set n es fs i o h)
    ∙ ap (λ (x : Option Context). slice_set (listed n es) i o ++ x ∷ []) (h.at n)
    ∙ ap (λ (k : ℕ). slice_set (listed n es) i o ++ cond (nat_eq i k) o (lookup (nat_eq n) es) ∷ [])
    (sym (length_listed n es))
    ∙ sym (set_push (listed n es) (lookup (nat_eq n) es) i o)

same_below : (n k : ℕ) (es fs : List (ℕ × Context)) (o : Option Context) → Changes es fs n o → k ≤ n →
    listed k fs ≡ listed k es
unfolding listed
same_below n zero es fs o h b = refl
same_below n (suc k) es fs o h b =
    ap (λ (ts : List (Option Context)). ts ++ lookup (nat_eq k) fs ∷ [])
    (same_below n k es fs o h (omega arith))
    ∙ ap (λ (x : Option Context). listed k es ++ x ∷ [])
    (h.at k ∙ ap (λ (c : Bool). cond c o (lookup (nat_eq k) es)) (ne_eqb n k (λ e. absurd (omega (arith, e, b)))))

pub listed_push : (n : ℕ) (es fs : List (ℕ × Context)) (t : Context) → Changes es fs n (Some t) →
    listed (n + 1) fs ≡ listed n es ++ Some t ∷ []
unfolding listed
listed_push n es fs t h =
    ap (λ (k : ℕ). listed k fs) (plus_one n)
    ∙ ap (λ (ts : List (Option Context)). ts ++ lookup (nat_eq n) fs ∷ [])
    (same_below n n es fs (Some t) h (omega arith))
    ∙ ap (λ (x : Option Context). listed n es ++ x ∷ [])
    (h.at n ∙ ap (λ (c : Bool). cond c (Some t) (lookup (nat_eq n) es)) (is_same n))
  where
    plus_one : (n : ℕ) → n + 1 ≡ suc n
    plus_one n = omega arith

pub below_push : (n : ℕ) (es fs : List (ℕ × Context)) (t : Context) → AreBelow n es →
    Changes es fs n (Some t) → AreBelow (n + 1) fs
below_push n es fs t below h = record {
  none = λ i b.
      h.at i
      ∙ ap (λ (c : Bool). cond c (Some t) (lookup (nat_eq i) es))
      (ne_eqb n i (λ e. absurd (omega (arith, e, b))))
      ∙ below.none i (omega (arith, b));
}

pub below_set : (n : ℕ) (es fs : List (ℕ × Context)) (i : ℕ) (t u : Context) → AreBelow n es →
    lookup (nat_eq i) es ≡ Some t → Changes es fs i (Some u) → AreBelow n fs
below_set n es fs i t u below is h = record {
  none = λ j b.
      h.at j
      ∙ ap (λ (c : Bool). cond c (Some u) (lookup (nat_eq j) es))
      (ne_eqb i j (λ e. absurd (cc (is, below.none i (subst (λ (k : ℕ). n ≤ k) (sym e) b)))))
      ∙ below.none j b;
}

-- a key that a search for a place finds is that place
key_is : (i : ℕ) (es : List (ℕ × Context)) (k : ℕ) → lookup_key (nat_eq i) es ≡ Some k → k ≡ i
key_is i [] k h = absurd (cc h)
key_is i (e ∷ es) k h = by (nat_eq i e.0) refl h (λ g. key_is i es k g)
  where
    by : (b : Bool) → nat_eq i e.0 ≡ b → cond b (Some e.0) (lookup_key (nat_eq i) es) ≡ Some k →
        (lookup_key (nat_eq i) es ≡ Some k → k ≡ i) → k ≡ i
    by true is g more = let same : e.0 ≡ k = cc in sym same ∙ sym (is_eq i e.0 is)
    by false is g more = more g

pub stands_there : (i : ℕ) (es : List (ℕ × Context)) (k p : ℕ) (t : Context) → k ≡ i →
    slice_get es p ≡ Some (k, t) → StandsAt es i (Some p)
stands_there i es k p t same there = (t, subst (λ (n : ℕ). slice_get es p ≡ Some (n, t)) same there)

pub stands : (i : ℕ) (es : List (ℕ × Context)) (k p : ℕ) (t : Context) → lookup_key (nat_eq i) es ≡ Some k →
    slice_get es p ≡ Some (k, t) → StandsAt es i (Some p)
stands i es k p t h there = stands_there i es k p t (key_is i es k h) there

-- what an entry that was found by its position gives
pub got : (i : ℕ) (es : List (ℕ × Context)) (p k : ℕ) (t : Context) → StandsAt es i (Some p) →
    Some (k, t) ≡ slice_get es p → lookup (nat_eq k) es ≡ Some t → lookup (nat_eq i) es ≡ Some t
got i es p k t h is there =
    let same : (k, t) ≡ (i, h.0) = cc (is, h.1) in
    let key : k ≡ i = ap (λ (e : ℕ × Context). e.0) same in
    subst (λ (n : ℕ). lookup (nat_eq n) es ≡ Some t) key there

key_apart : (x : ℕ) (es : List (ℕ × Context)) (p i : ℕ) (t : Context) →
    AllByRecursion (λ y. nat_eq x y ≡ false) (keys_of es) → slice_get es p ≡ Some (i, t) → nat_eq i x ≡ false
key_apart x [] p i t all h = absurd (cc h)
key_apart x (e ∷ es) zero i t all h =
    let same : e ≡ (i, t) = cc h in
    let away : nat_eq x i ≡ false = subst (λ (d : ℕ × Context). nat_eq x d.0 ≡ false) same all.0 in
    ne_eqb i x (λ e. absurd (cc (away, subst (λ (n : ℕ). nat_eq n i ≡ true) e (is_same i))))
key_apart x (e ∷ es) (suc p) i t all h = key_apart x es p i t all.1 h

found_at : (es : List (ℕ × Context)) (p i : ℕ) (t : Context) → IsDistinct nat_eq (keys_of es) →
    slice_get es p ≡ Some (i, t) → lookup (nat_eq i) es ≡ Some t
found_at [] p i t apart h = absurd (cc h)
found_at (e ∷ es) zero i t apart h =
    let same : e ≡ (i, t) = cc h in
    subst (λ (d : ℕ × Context). lookup (nat_eq i) (d ∷ es) ≡ Some t) (sym same) (rw (is_same i) refl)
found_at (e ∷ es) (suc p) i t apart h =
    ap (λ (b : Bool). cond b (Some e.1) (lookup (nat_eq i) es))
    (key_apart e.0 es p i t (IsDistinct-head nat_eq e.0 (keys_of es) apart) h)
    ∙ found_at es p i t (IsDistinct-tail nat_eq e.0 (keys_of es) apart) h

value_there : (es : List (ℕ × Context)) (p i : ℕ) (t : Context) → slice_get es p ≡ Some (i, t) →
    slice_get (values_of es) p ≡ Some t
value_there [] p i t h = absurd (cc h)
value_there (e ∷ es) zero i t h = let same : e ≡ (i, t) = cc h in ap (λ (d : ℕ × Context). Some d.1) same
value_there (e ∷ es) (suc p) i t h = value_there es p i t h

pub none_listed : (es : List (ℕ × Context)) → listed 0 es ≡ []
unfolding listed
none_listed es = refl

-- the value at a position is written
module _ {S : Type 0} (n : ℕ) (m : IndexMap ℕ Context S) (i p : ℕ) (unique : IsUnique nat_eq m)
    (below : AreBelow n m.entries) (h : StandsAt m.entries i (Some p)) where
  value_set : (w : Context) → Changes m.entries (with_value_at m p w).entries i (Some w)
  value_set w = record { at = (updates-with_value_at m p w nat_eq_equiv unique i h.0 h.1).0 }

  pub value_kept : slice_get (values_of m.entries) p ≡ kept_at (listed n m.entries) i
  value_kept =
      value_there m.entries p i h.0 h.1
      ∙ sym (kept_listed n m.entries i below ∙ found_at m.entries p i h.0 unique h.1)

  pub value_listed : (w : Context) (room : ℕ) →
      (let after : ContextsState =
      record { kept = listed n (with_value_at m p w).entries; spare = room } in after) ≡
      with_kept (record { kept = listed n m.entries; spare = room }) i w
  value_listed w room =
      ap (λ (ts : List (Option Context)). let after : ContextsState = record { kept = ts; spare = room } in after)
      (listed_set n m.entries (with_value_at m p w).entries i (Some w) (value_set w))

  pub value_below : (w : Context) → AreBelow n (with_value_at m p w).entries
  value_below w =
      below_set n m.entries (with_value_at m p w).entries i h.0 w below
      (found_at m.entries p i h.0 unique h.1) (value_set w)
