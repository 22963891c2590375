-- Maps by two or three numbers, as the value of one key changes, and as a part of one is looked through.
use Rattle.std.proofs.Common.{ℕ, ◌≡◌, ◌==◌, Option, Some, None, Bool, true, false, List, [], ◌∷◌, ◌++◌, refl, sym, ap, subst, ◌∙◌, arith, eq-eqb, ne_eqb}
use Rattle.std.specs.Prelude.{if◌then◌else◌, ◌&&◌, ◌||◌, ◌<◌, ◌≤◌, ◌+◌, cond, nat_lt}
use Rattle.std.specs.BTreeMap.Range.{range_contains, IsInRange, IsEntryInRange}
use Rattle.std.specs.declared.ops.Bound.TheVariants.{Included}
use Rattle.std.specs.declared.cmp.Ordering.{Ordering}
use Rattle.std.specs.declared.cmp.Ordering.TheVariants.{Less, Equal, Greater}
use Rattle.std.specs.Ordering.{nat_cmp, ordering_then, is_eq}
use Rattle.std.specs.BTreeMap.{BTreeMap, Updates, get, is_at}
use Rattle.std.specs.Map.{lookup}
use Rattle.std.specs.List.{filter, list_any}
use Rattle.std.proofs.lemmas.Grind.{common_steps}
use Rattle.std.proofs.lemmas.Bool.{or_right}
use Rattle.std.proofs.lemmas.Option.{same_Some}
use Rattle.law_check.specs.declared.held.Area.{Area}
use Rattle.law_check.specs.Stores.{ByStore, pair_cmp, triple_cmp, placed_in, reach, reaches, Changes}
use Rattle.law_check.specs.Held.{over_store}

both : (x y : Ordering) → is_eq (ordering_then x y) ≡ (is_eq x && is_eq y)
both Less y = refl
both Equal y = refl
both Greater y = refl

same_number : (a b : ℕ) → is_eq (nat_cmp a b) ≡ (a == b)
same_number a b = grind (arith, common_steps, eq-eqb, ne_eqb)

pub same_pair : (t b u c : ℕ) → is_at (pair_cmp (t, b)) (u, c) ≡ ((t == u) && (b == c))
same_pair t b u c = both (nat_cmp t u) (nat_cmp b c) ∙ ap (λ (x : Bool). x && is_eq (nat_cmp b c)) (same_number t u) ∙ ap (λ (x : Bool). (t == u) && x) (same_number b c)

same_triple : (t s b u r c : ℕ) → is_at (triple_cmp (t, s, b)) (u, r, c) ≡ (((t == u) && (s == r)) && (b == c))
same_triple t s b u r c =
    both (ordering_then (nat_cmp t u) (nat_cmp s r)) (nat_cmp b c)
    ∙ ap (λ (x : Bool). x && is_eq (nat_cmp b c)) (same_pair t s u r)
    ∙ ap (λ (x : Bool). ((t == u) && (s == r)) && x) (same_number b c)

pub pair_put :
    (m n : BTreeMap (ℕ × ℕ) Area) (t b : ℕ) (w : Option Area) → Updates pair_cmp m n (t, b) w → (u c : ℕ) →
    get pair_cmp n (u, c) ≡ (if (t == u) && (b == c) then w else get pair_cmp m (u, c))
pair_put m n t b w h u c = h.0 (u, c) ∙ ap (λ (x : Bool). if x then w else get pair_cmp m (u, c)) (same_pair t b u c)

pub triple_put : (m n : ByStore) (t s b : ℕ) (w : Option Area) → Updates triple_cmp m n (t, s, b) w → Changes m n t s b w
triple_put m n t s b w h u r c = h.0 (u, r, c) ∙ ap (λ (x : Bool). if x then w else placed_in m u r c) (same_triple t s b u r c)

-- one area that is no longer found by its store
pub same_numbers : (t u b c : ℕ) → ((t == u) && (b == c)) ≡ true → (t ≡ u) × (b ≡ c)
same_numbers t u b c h = grind (arith, common_steps)

at_key : (f : ℕ → ℕ → Option Area) (t u b c : ℕ) → ((t == u) && (b == c)) ≡ true → f u c ≡ f t b
at_key f t u b c h =
    let same = same_numbers t u b c h in
    ap (λ (x : ℕ). f x c) (sym same.0) ∙ ap (λ (x : ℕ). f t x) (sym same.1)

pub none_taken :
    (m : ByStore) (t b : ℕ) → ((s : ℕ) → placed_in m t s b ≡ None) → (u s c : ℕ) →
    placed_in m u s c ≡ (if (t == u) && (b == c) then None else placed_in m u s c)
none_taken m t b h u s c = by ((t == u) && (b == c)) refl where
  by : (x : Bool) → ((t == u) && (b == c)) ≡ x → placed_in m u s c ≡ (if x then None else placed_in m u s c)
  by true e = at_key (λ v d. placed_in m v s d) t u b c e ∙ h s
  by false e = refl

taken_step :
    (x y z here other : Bool) (v : Option Area) → (((x && y) && z) ≡ here) → ((x && z) ≡ other) → (other ≡ true → y ≡ false → v ≡ None) →
    (if here then None else v) ≡ (if other then None else v)
taken_step true true true here other v p q h = rw (← p, ← q) refl
taken_step true false true here other v p q h = rw (← p, ← q) (h (sym q) refl)
taken_step true true false here other v p q h = rw (← p, ← q) refl
taken_step true false false here other v p q h = rw (← p, ← q) refl
taken_step false y z here other v p q h = rw (← p, ← q) refl

over_another : (s : ℕ) (a : Area) → (a.store == s) ≡ false → over_store s (Some a) ≡ None
over_another s a h = rw h refl

pub one_taken :
    (m n : ByStore) (t b : ℕ) (a : Area) → Changes m n t a.store b None →
    ((s : ℕ) → placed_in m t s b ≡ over_store s (Some a)) → (u s c : ℕ) →
    placed_in n u s c ≡ (if (t == u) && (b == c) then None else placed_in m u s c)
one_taken m n t b a taken h u s c =
    taken u s c
    ∙ taken_step (t == u) (a.store == s) (b == c) _ _ (placed_in m u s c) refl refl
    (λ same apart. at_key (λ v d. placed_in m v s d) t u b c same ∙ h s ∙ over_another s a apart)

-- an area that is held in place of another, and is found over its store
put_step :
    (x y z : Bool) (w v o : Option Area) → (y ≡ true → w ≡ o) → (y ≡ false → o ≡ None) →
    (if (x && y) && z then w else (if x && z then None else v)) ≡ (if x && z then o else v)
put_step true true true w v o one none = one refl
put_step true false true w v o one none = sym (none refl)
put_step true true false w v o one none = refl
put_step true false false w v o one none = refl
put_step false y z w v o one none = refl

over_if : (s : ℕ) (x : Bool) (w v : Option Area) → over_store s (if x then w else v) ≡ (if x then over_store s w else over_store s v)
over_if s true w v = refl
over_if s false w v = refl

pub put_by_store :
    (k m n : ByStore) (t b : ℕ) (a : Area) (old new : ℕ → ℕ → Option Area) →
    ((u s c : ℕ) → placed_in m u s c ≡ (if (t == u) && (b == c) then None else placed_in k u s c)) →
    Changes m n t a.store b (Some a) →
    ((u c : ℕ) → new u c ≡ (if (t == u) && (b == c) then Some a else old u c)) →
    ((u s c : ℕ) → placed_in k u s c ≡ over_store s (old u c)) → (u s c : ℕ) → placed_in n u s c ≡ over_store s (new u c)
put_by_store k m n t b a old new taken put now was u s c =
    put u s c
    ∙ ap (λ (v : Option Area). if ((t == u) && (a.store == s)) && (b == c) then Some a else v) (taken u s c)
    ∙ put_step (t == u) (a.store == s) (b == c) (Some a) (placed_in k u s c) (over_store s (Some a)) (λ e. sym (over_itself s a e)) (λ e. over_another s a e)
    ∙ ap (λ (v : Option Area). if (t == u) && (b == c) then over_store s (Some a) else v) (was u s c)
    ∙ sym (over_if s ((t == u) && (b == c)) (Some a) (old u c))
    ∙ ap (over_store s) (sym (now u c))
  where
    over_itself : (s : ℕ) (a : Area) → (a.store == s) ≡ true → over_store s (Some a) ≡ Some a
    over_itself s a h = rw h refl

pub taken_by_store :
    (k m : ByStore) (t b : ℕ) (old new : ℕ → ℕ → Option Area) →
    ((u s c : ℕ) → placed_in m u s c ≡ (if (t == u) && (b == c) then None else placed_in k u s c)) →
    ((u c : ℕ) → new u c ≡ (if (t == u) && (b == c) then None else old u c)) →
    ((u s c : ℕ) → placed_in k u s c ≡ over_store s (old u c)) → (u s c : ℕ) → placed_in m u s c ≡ over_store s (new u c)
taken_by_store k m t b old new taken now was u s c =
    taken u s c
    ∙ ap (λ (v : Option Area). if (t == u) && (b == c) then None else v) (was u s c)
    ∙ sym (over_if s ((t == u) && (b == c)) None (old u c))
    ∙ ap (over_store s) (sym (now u c))

any_more : (b : Bool) (f : (ℕ × ℕ × ℕ) × Area → Bool) (e : (ℕ × ℕ × ℕ) × Area) (xs : List ((ℕ × ℕ × ℕ) × Area)) → list_any f xs ≡ true → list_any f (cond b (e ∷ xs) xs) ≡ true
any_more true f e xs h = or_right (f e) (list_any f xs) h
any_more false f e xs h = h

any_here : (f : (ℕ × ℕ × ℕ) × Area → Bool) (e : (ℕ × ℕ × ℕ) × Area) (xs : List ((ℕ × ℕ × ℕ) × Area)) (b : Bool) → b ≡ true → f e ≡ true → list_any f (cond b (e ∷ xs) xs) ≡ true
any_here f e xs b kept good = rw (kept, good) refl

same_entry : (u r c : ℕ) (a : Area) (e : (ℕ × ℕ × ℕ) × Area) → u ≡ e.0.0 → r ≡ e.0.1 → c ≡ e.0.2 → a ≡ e.1 → ((u, r, c), a) ≡ e
same_entry u r c a e p o q s =
    ap (λ (x : ℕ). ((x, r, c), a)) p ∙ ap (λ (x : ℕ). ((e.0.0, x, c), a)) o
    ∙ ap (λ (y : ℕ). ((e.0.0, e.0.1, y), a)) q ∙ ap (λ (z : Area). (e.0, z)) s

seen_step :
    (f keep : (ℕ × ℕ × ℕ) × Area → Bool) (e : (ℕ × ℕ × ℕ) × Area) (es : List ((ℕ × ℕ × ℕ) × Area)) (u r c : ℕ) (a : Area) →
    (lookup (is_at (triple_cmp (u, r, c))) es ≡ Some a → list_any f (filter keep es) ≡ true) → (b : Bool) →
    is_at (triple_cmp (u, r, c)) e.0 ≡ b → (b ≡ true → (u ≡ e.0.0) × (r ≡ e.0.1) × (c ≡ e.0.2)) → cond b (Some e.1) (lookup (is_at (triple_cmp (u, r, c))) es) ≡ Some a →
    keep ((u, r, c), a) ≡ true → f ((u, r, c), a) ≡ true → list_any f (filter keep (e ∷ es)) ≡ true
seen_step f keep e es u r c a rest true h same found kept good =
    let k = same refl in
    let first : ((u, r, c), a) ≡ e = same_entry u r c a e k.0 k.1 k.2 (sym (same_Some e.1 a found)) in
    any_here f e (filter keep es) (keep e) (subst (λ (x : (ℕ × ℕ × ℕ) × Area). keep x ≡ true) first kept) (subst (λ (x : (ℕ × ℕ × ℕ) × Area). f x ≡ true) first good)
seen_step f keep e es u r c a rest false h same found kept good = any_more (keep e) f e (filter keep es) (rest found)

triple_is : (a b c d e f : ℕ) → (((a == b) && (c == d)) && (e == f)) ≡ true → (a ≡ b) × (c ≡ d) × (e ≡ f)
triple_is a b c d e f h = grind (arith, common_steps)

pub seen_in :
    (f keep : (ℕ × ℕ × ℕ) × Area → Bool) (es : List ((ℕ × ℕ × ℕ) × Area)) (u r c : ℕ) (a : Area) →
    lookup (is_at (triple_cmp (u, r, c))) es ≡ Some a → keep ((u, r, c), a) ≡ true → f ((u, r, c), a) ≡ true →
    list_any f (filter keep es) ≡ true
seen_in f keep [] u r c a found kept good = cc
seen_in f keep (e ∷ es) u r c a found kept good =
    seen_step f keep e es u r c a (λ later. seen_in f keep es u r c a later kept good) (is_at (triple_cmp (u, r, c)) e.0) refl
    (λ h. triple_is u e.0.0 r e.0.1 c e.0.2 (sym (same_triple u r c e.0.0 e.0.1 e.0.2) ∙ h)) found kept good

pub in_range :
    (t s b first last : ℕ) → first ≤ b → b ≤ last →
    range_contains triple_cmp (Included (t, s, first)) (Included (t, s, last)) (t, s, b) ≡ true
in_range t s b first last l h = grind (arith, common_steps, eq-eqb)

pub reaches_from : (b : ℕ) (a : Area) (at count : ℕ) → reaches b a at count ≡ true → (b ≤ at) × (at + count < reach b a)
reaches_from b a at count h = grind (arith, common_steps)

pub reaches_if : (b : ℕ) (a : Area) (at count : ℕ) → b ≤ at → at + count < reach b a → reaches b a at count ≡ true
reaches_if b a at count l h = grind (arith, common_steps)

abbrev pub reaching : ℕ → ℕ → (ℕ × ℕ × ℕ) × Area → Bool
reaching at count e = reaches e.0.2 e.1 at count

-- the area reaches further than this
abbrev pub exceeds : ℕ → (ℕ × ℕ × ℕ) × Area → Bool
exceeds k e = nat_lt k (reach e.0.2 e.1)

-- the last of a list, of which the others are left
pub any_but_last :
    (f : (ℕ × ℕ × ℕ) × Area → Bool) (xs ys : List ((ℕ × ℕ × ℕ) × Area)) (e : (ℕ × ℕ × ℕ) × Area) → xs ≡ ys ++ e ∷ [] → f e ≡ false →
    list_any f ys ≡ list_any f xs
any_but_last f xs ys e whole bad = sym (ap (list_any f) whole ∙ last ys) where
  last : (ys : List ((ℕ × ℕ × ℕ) × Area)) → list_any f (ys ++ e ∷ []) ≡ list_any f ys
  last [] = rw bad refl
  last (y ∷ ys) = ap (λ (b : Bool). f y || b) (last ys)

-- the keys between these bounds are of this task and this store
pub own_keys :
    (t s first last : ℕ) (k : ℕ × ℕ × ℕ) → IsInRange triple_cmp (Included (t, s, first)) (Included (t, s, last)) k →
    (k.0 ≡ t) × (k.1 ≡ s) × (k.2 ≤ last)
own_keys t s first last k h = grind (arith, common_steps, h.0, h.1)

pub found_there :
    (areas : ByStore) (t s first last : ℕ) (k : ℕ × ℕ × ℕ) (a : Area) →
    IsEntryInRange triple_cmp (Included (t, s, first)) (Included (t, s, last)) areas (k, a) → placed_in areas t s k.2 ≡ Some a
found_there areas t s first last k a h =
    let own = own_keys t s first last k h.0 in
    ap (λ (x : ℕ). placed_in areas x s k.2) (sym own.0) ∙ ap (λ (x : ℕ). placed_in areas k.0 x k.2) (sym own.1) ∙ h.1
