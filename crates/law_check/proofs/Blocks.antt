-- Blocks that hold the areas of a task over a store.
use Rattle.std.proofs.Common.{ℕ, zero, suc, ◌≡◌, ◌<◌, ◌≤◌, ◌+◌, ◌^◌, ◌==◌, ◌⊎◌, Option, Some, None, Bool, true, false, List, [], ◌∷◌, ◌++◌, length, refl, sym, ap, subst, ◌∙◌, inl, inr, arith, eq-eqb}
use Rattle.std.specs.Prelude.{Result, Ok, Err, OnOk, OnErr, is_ok, is_err, if◌then◌else◌, ◌&&◌, ◌||◌, max, slice_set, slice_index_or}
use Rattle.std.specs.BTreeMap.{BTreeMap, Updates, get, is_at}
use Rattle.std.specs.BTreeMap.Range.{range_contains}
use Rattle.std.specs.declared.ops.Bound.TheVariants.{Included}
use Rattle.std.specs.Map.{lookup}
use Rattle.std.specs.List.{filter, list_any}
use Rattle.std.proofs.lemmas.Grind.{common_steps}
use Rattle.std.proofs.lemmas.Bool.{or_right, eqb-true, lt-ltb, le-ltb}
use Rattle.std.proofs.lemmas.Option.{same_Some}
use Rattle.ipc_ids.proofs.Common.{not_both}
use Rattle.law_check.specs.declared.held.Area.{Area}
use Rattle.law_check.specs.declared.stores.Block.{Block}
use Rattle.law_check.specs.declared.stores.Blocks.{Blocks}
use Rattle.law_check.specs.Stores.{ByStore, pair_cmp, triple_cmp, placed_in, reach, reaches, holds, Bounds, IsTight, IsBounded, AreBounded, Changes}
use Rattle.law_check.proofs.Pairs.{exceeds, seen_in, in_range, reaches_from, same_pair, same_numbers}

max_is : (a b : ℕ) → (max a b ≡ a) ⊎ (max a b ≡ b)
max_is a b = grind arith

-- how far areas reach, with one more of them
pub tight_more :
    (areas : ByStore) (t s last most base : ℕ) (a : Area) → placed_in areas t s base ≡ Some a → base ≤ last →
    IsTight areas t s last most → IsTight areas t s last (max most (reach base a))
tight_more areas t s last most base a there low tight = elim (max_is most (reach base a)) [
  | inl e ↦ subst (λ (n : ℕ). IsTight areas t s last n) (sym e) tight
  | inr e ↦ inr (base, a, there, low, sym e)
]

pub not_beyond : (k most : ℕ) (e : (ℕ × ℕ × ℕ) × Area) → max most (reach e.0.2 e.1) ≤ k → exceeds k e ≡ false
not_beyond k most e h = le-ltb k (reach e.0.2 e.1) (omega (arith, h))

pub at_most : (most r k : ℕ) → max most r ≤ k → most ≤ k
at_most most r k h = omega (arith, h)

pub le_or_lt : (a b : ℕ) → (a ≤ b) ⊎ (b < a)
le_or_lt a b = grind arith

-- where none of those that are looked through reaches further, none does
pub bounds_of :
    (areas : ByStore) (t s first last most : ℕ) →
    list_any (exceeds most) (filter (λ e. range_contains triple_cmp (Included (t, s, first)) (Included (t, s, last)) e.0) areas.entries) ≡ false →
    Bounds areas t s first last most
bounds_of areas t s first last most none = λ base a there low high. elim (le_or_lt (reach base a) most) [
  | inl within ↦ within
  | inr beyond ↦
      absurd (not_both (seen_in (exceeds most) (λ e. range_contains triple_cmp (Included (t, s, first)) (Included (t, s, last)) e.0)
      areas.entries t s base a there (in_range t s base first last low high) (lt-ltb most (reach base a) beyond)) none)
]

pub none_between : (areas : ByStore) (t s first last : ℕ) → last < first → Bounds areas t s first last 0
none_between areas t s first last h = λ base a there low high. absurd (not_between base low high) where
  not_between : (base : ℕ) → first ≤ base → base ≤ last → ⊥
  not_between base low high = omega (arith, h, low, high)

pub holds_if :
    (base : ℕ) (a : Area) (block : Block) → block.first ≤ base → base ≤ block.last → reach base a ≤ block.end → holds base a block ≡ true
holds_if base a block low high within = grind (arith, common_steps)

holds_means :
    (base : ℕ) (a : Area) (block : Block) → holds base a block ≡ true →
    (block.first ≤ base) × (base ≤ block.last) × (reach base a ≤ block.end)
holds_means base a block h = grind (arith, common_steps)

any_left : (f : Block → Bool) (xs : List Block) (y : Block) → list_any f xs ≡ true → list_any f (xs ++ y ∷ []) ≡ true
any_left f [] y h = cc
any_left f (x ∷ xs) y h = by (f x) (any_left f xs y) h where
  by : (b : Bool) → (list_any f xs ≡ true → list_any f (xs ++ y ∷ []) ≡ true) → (b || list_any f xs) ≡ true →
      (b || list_any f (xs ++ y ∷ [])) ≡ true
  by true rest h = refl
  by false rest h = rest h

any_right : (f : Block → Bool) (xs : List Block) (y : Block) → f y ≡ true → list_any f (xs ++ y ∷ []) ≡ true
any_right f [] y h = rw h refl
any_right f (x ∷ xs) y h = by (f x) (any_right f xs y h) where
  by : (b : Bool) → list_any f (xs ++ y ∷ []) ≡ true → (b || list_any f (xs ++ y ∷ [])) ≡ true
  by true rest = refl
  by false rest = rest

-- the areas with a base below this are in these blocks
abbrev pub AreBelow : ByStore → ℕ → ℕ → ℕ → List Block → Type 0
AreBelow areas t s first list =
    (base : ℕ) (a : Area) → placed_in areas t s base ≡ Some a → base < first → list_any (holds base a) list ≡ true

pub none_below : (areas : ByStore) (t s : ℕ) (list : List Block) → AreBelow areas t s 0 list
none_below areas t s list = λ base a there low. absurd (not_below base low) where
  not_below : (base : ℕ) → base < 0 → ⊥
  not_below base low = omega (arith, low)

-- with one more block
pub more_below :
    (areas : ByStore) (t s first last : ℕ) (list : List Block) (block : Block) → AreBelow areas t s first list →
    ((base : ℕ) (a : Area) → placed_in areas t s base ≡ Some a → first ≤ base → base ≤ last → holds base a block ≡ true) →
    AreBelow areas t s (last + 1) (list ++ block ∷ [])
more_below areas t s first last list block below here = λ base a there low. elim (le_or_lt first base) [
  | inl from ↦ any_right (holds base a) list block (here base a there from (up_to base low))
  | inr under ↦ any_left (holds base a) list block (below base a there under)
] where
  up_to : (base : ℕ) → base < last + 1 → base ≤ last
  up_to base low = omega (arith, low)

pub all_below :
    (areas : ByStore) (t s most : ℕ) (list : List Block) → 2 ^ 64 ≤ most → AreBelow areas t s most list → IsBounded areas t s list
all_below areas t s most list h below = λ base a small there. below base a there (omega (arith, h, small))

pub found_in :
    (areas : ByStore) (t s at count base : ℕ) (a : Area) (block : Block) (last most : ℕ) → placed_in areas t s base ≡ Some a →
    reaches base a at count ≡ true → holds base a block ≡ true → Bounds areas t s block.first last most →
    (base ≤ block.last → base ≤ at → base ≤ last) → at + count < most
found_in areas t s at count base a block last most there wanted held bounds within =
    let r = reaches_from base a at count wanted in
    let h = holds_means base a block held in
    omega (arith, r.1, bounds base a there h.0 (within h.1 r.0))

pub not_before : (at count base : ℕ) (a : Area) (block : Block) → at < block.first → reaches base a at count ≡ true → holds base a block ≡ true → ⊥
not_before at count base a block low wanted held =
    omega (arith, low, (reaches_from base a at count wanted).0, (holds_means base a block held).0)

-- a block in place of another
pub any_set :
    (f : Block → Bool) (xs : List Block) (i : ℕ) (d y : Block) → (f (slice_index_or xs i d) ≡ true → f y ≡ true) →
    i < length xs → list_any f xs ≡ true → list_any f (slice_set xs i y) ≡ true
any_set f [] i d y over low h = cc
any_set f (x ∷ xs) zero d y over low h = by (f x) refl h where
  by : (b : Bool) → f x ≡ b → (b || list_any f xs) ≡ true → (f y || list_any f xs) ≡ true
  by true e h = rw (over e) refl
  by false e h = or_right (f y) (list_any f xs) h
any_set f (x ∷ xs) (suc i) d y over low h = by (f x) (any_set f xs i d y over (omega (arith, low))) h where
  by : (b : Bool) → (list_any f xs ≡ true → list_any f (slice_set xs i y) ≡ true) → (b || list_any f xs) ≡ true →
      (b || list_any f (slice_set xs i y)) ≡ true
  by true rest h = refl
  by false rest h = rest h

-- the blocks of one task over one store are taken out, or are these
get_put :
    (m n : BTreeMap (ℕ × ℕ) Blocks) (t s : ℕ) (w : Option Blocks) → Updates pair_cmp m n (t, s) w → (u r : ℕ) →
    get pair_cmp n (u, r) ≡ (if (t == u) && (s == r) then w else get pair_cmp m (u, r))
get_put m n t s w h u r = h.0 (u, r) ∙ ap (λ (x : Bool). if x then w else get pair_cmp m (u, r)) (same_pair t s u r)

pub bounded_put :
    (old new : ByStore) (m n : BTreeMap (ℕ × ℕ) Blocks) (t s : ℕ) (w : Option Blocks) → Updates pair_cmp m n (t, s) w →
    ((b : Blocks) → w ≡ Some b → IsBounded new t s b.list.items) →
    ((u r c : ℕ) → ((t == u) && (s == r)) ≡ false → placed_in new u r c ≡ placed_in old u r c) →
    AreBounded old m → AreBounded new n
bounded_put old new m n t s w put here other was = λ u r b found. by u r b ((t == u) && (s == r)) refl (sym (get_put m n t s w put u r) ∙ found) where
  by : (u r : ℕ) (b : Blocks) (x : Bool) → ((t == u) && (s == r)) ≡ x → (if x then w else get pair_cmp m (u, r)) ≡ Some b → IsBounded new u r b.list.items
  by u r b true e h =
      let k = same_numbers t u s r e in
      subst (λ (v : ℕ). IsBounded new v r b.list.items) k.0 (subst (λ (v : ℕ). IsBounded new t v b.list.items) k.1 (here b h))
  by u r b false e h = λ base a small there. was u r b h base a small (sym (other u r base e) ∙ there)

pub fewer_bounded :
    (old new : ByStore) (m : BTreeMap (ℕ × ℕ) Blocks) (t s base : ℕ) → Changes old new t s base None → AreBounded old m → AreBounded new m
fewer_bounded old new m t s base changes was = λ u r b found c a small there.
    was u r b found c a small (by (((t == u) && (s == r)) && (base == c)) (placed_in old u r c) a (sym (changes u r c) ∙ there))
  where
    by : (x : Bool) (o : Option Area) (a : Area) → (if x then None else o) ≡ Some a → o ≡ Some a
    by true o a h = cc
    by false o a h = h

pub others_stay :
    (old new : ByStore) (t s base : ℕ) (w : Option Area) → Changes old new t s base w → (u r c : ℕ) → ((t == u) && (s == r)) ≡ false →
    placed_in new u r c ≡ placed_in old u r c
others_stay old new t s base w changes u r c apart = changes u r c ∙ rw apart refl

-- a block of one more area
pub with_one :
    (old new : ByStore) (t s base : ℕ) (a : Area) (list : List Block) (block : Block) → Changes old new t s base (Some a) →
    IsBounded old t s list → holds base a block ≡ true → IsBounded new t s (list ++ block ∷ [])
with_one old new t s base a list block changes was own = λ c x small there. by c x small (base == c) refl (sym (here c) ∙ there) where
  here : (c : ℕ) → placed_in new t s c ≡ (if base == c then Some a else placed_in old t s c)
  here c = changes t s c ∙ rw (eq-eqb t t refl, eq-eqb s s refl) refl

  by : (c : ℕ) (x : Area) → c < 2 ^ 64 → (y : Bool) → (base == c) ≡ y → (if y then Some a else placed_in old t s c) ≡ Some x →
      list_any (holds c x) (list ++ block ∷ []) ≡ true
  by c x small true e h =
      any_right (holds c x) list block (subst (λ (n : ℕ). holds n x block ≡ true) (eqb-true base c e) (subst (λ (z : Area). holds base z block ≡ true) (same_Some a x h) own))
  by c x small false e h = any_left (holds c x) list block (was c x small h)

-- the blocks of a task over a store were taken out
pub without_blocks :
    (old new : ByStore) (m n : BTreeMap (ℕ × ℕ) Blocks) (t s base : ℕ) (w : Option Area) → Updates pair_cmp m n (t, s) None →
    Changes old new t s base w → AreBounded old m → AreBounded new n
without_blocks old new m n t s base w taken changes was = bounded_put old new m n t s None taken nothing (others_stay old new t s base w changes) was where
  nothing : (b : Blocks) → None ≡ Some b → IsBounded new t s b.list.items
  nothing b e = cc

pub none_changes : (areas : ByStore) (t s base : ℕ) → Changes areas areas t s base (placed_in areas t s base)
none_changes areas t s base = λ u r c. by u r c (((t == u) && (s == r)) && (base == c)) refl where
  all_same : (u r c : ℕ) → (((t == u) && (s == r)) && (base == c)) ≡ true → (t ≡ u) × (s ≡ r) × (base ≡ c)
  all_same u r c h = grind (arith, common_steps)

  by : (u r c : ℕ) (x : Bool) → (((t == u) && (s == r)) && (base == c)) ≡ x →
      placed_in areas u r c ≡ (if x then placed_in areas t s base else placed_in areas u r c)
  by u r c true e =
      let k = all_same u r c e in
      sym (ap (λ (v : ℕ). placed_in areas v s base) k.0 ∙ ap (λ (v : ℕ). placed_in areas u v base) k.1 ∙ ap (λ (v : ℕ). placed_in areas u r v) k.2)
  by u r c false e = refl

-- blocks that were put in, or with no memory were not
pub put_or_not :
    {E V : Type 0} (areas : ByStore) (m n : BTreeMap (ℕ × ℕ) Blocks) (t s : ℕ) (b : Blocks) (r : Result V E) →
    OnOk r (Updates pair_cmp m n (t, s) (Some b)) → OnErr r (n.entries ≡ m.entries) → IsBounded areas t s b.list.items →
    AreBounded areas m → AreBounded areas n
put_or_not areas m n t s b (Ok x) put same here was = bounded_put areas areas m n t s (Some b) put own (λ u r c apart. refl) was where
  same_blocks : (b d : Blocks) → Some b ≡ Some d → b ≡ d
  same_blocks b d e = cc

  own : (d : Blocks) → Some b ≡ Some d → IsBounded areas t s d.list.items
  own d e = subst (λ (x : Blocks). IsBounded areas t s x.list.items) (same_blocks b d e) here
put_or_not areas m n t s b (Err x) put same here was = λ u r d found. was u r d (ap (lookup (is_at (pair_cmp (u, r)))) (sym same) ∙ found)

pub was_ok : {V E : Type 0} (r : Result V E) → is_err r ≡ false → is_ok r ≡ true
was_ok (Ok x) e = refl
was_ok (Err x) e = cc

pub one_holds :
    (base : ℕ) (a : Area) (end : ℕ) → end ≡ reach base a → holds base a (record { first = base; last = base; end = end }) ≡ true
one_holds base a end e = holds_if base a (record { first = base; last = base; end = end }) (same base) (same base) (omega (arith, e)) where
  same : (n : ℕ) → n ≤ n
  same n = omega arith
