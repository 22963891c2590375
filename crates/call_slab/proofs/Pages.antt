-- The keys in pages as a finite map.
use Rattle.std.proofs.Common.{◌≡◌, ℕ, zero, suc, ◌+◌, ◌*◌, ◌/◌, ◌%◌, ◌<◌, Bool, true, false, cond, List, [], ◌∷◌, ◌++◌, Option, Some, None, refl, sym, ap, ◌∙◌, arith, nat_eq, ⊎_elim}
use Rattle.std.specs.Ordering.{nat_cmp, eq_by_cmp, is_eq}
use Rattle.std.specs.Cmp.{nat_cmp_total}
use Rattle.std.specs.FinMap.{find, insert, remove, empty, same_map, nat_cmp-IsAntisymmetric, get-insert, get-remove, get-from_entries}
use Rattle.std.specs.FinMap as fin
use Rattle.std.specs.List.{AllByRecursion, IsDistinct}
use Rattle.std.specs.Map.{keys_of, lookup}
use Rattle.std.proofs.lemmas.Bool.{cases_eq, ne_eqb}
use Rattle.std.proofs.lemmas.Bool.Decides.{nat_tests}
use Rattle.std.proofs.lemmas.Map.Keys.{IsDistinct-head, IsDistinct-tail, IsDistinct-cons}
use Rattle.ipc_ids.proofs.Common.{is_same}
use Rattle.call_slab.specs.declared.index.Page.{Page}
use Rattle.call_slab.specs.Index.{key_in, key_at, no_calls, with_key, keys_below, keys_of_pages, keys_in, IsPaged}

is_eq_true : (q n : ℕ) → q ≡ n → nat_eq q n ≡ true
is_eq_true q n h = grind (arith, nat_tests)

eq_tie : (q k : ℕ) → is_eq (nat_cmp q k) ≡ nat_eq q k
eq_tie q k = grind (arith, nat_tests)

flip : (q k : ℕ) → nat_eq k q ≡ eq_by_cmp nat_cmp q k
flip q k = grind (arith, nat_tests)

whole : (q : ℕ) → q ≡ 8 * (q / 8) + q % 8
whole q = omega arith

low : (q : ℕ) → q % 8 < 8
low q = omega arith

same_number : (q n : ℕ) → n / 8 ≡ q / 8 → n % 8 ≡ q % 8 → n ≡ q
same_number q n h i = omega arith

-- the first of two that is there
either : Option ℕ → Option ℕ → Option ℕ
either None o = o
either (Some x) o = Some x

cond_either : (b : Bool) (x : ℕ) (o p : Option ℕ) → cond b (Some x) (either o p) ≡ either (cond b (Some x) o) p
unfolding either
cond_either true x o p = refl
cond_either false x o p = refl

either_none : (o : Option ℕ) → either o None ≡ o
unfolding either
either_none None = refl
either_none (Some x) = refl

lookup_append : (q : ℕ) (xs ys : List (ℕ × ℕ)) → lookup (nat_eq q) (xs ++ ys) ≡ either (lookup (nat_eq q) xs) (lookup (nat_eq q) ys)
unfolding either
lookup_append q [] ys = refl
lookup_append q (x ∷ xs) ys = ap (cond (nat_eq q x.0) (Some x.1)) (lookup_append q xs ys) ∙ cond_either (nat_eq q x.0) x.1 (lookup (nat_eq q) xs) (lookup (nat_eq q) ys)

head_apart : (q n : ℕ) (o : Option ℕ) (es : List (ℕ × ℕ)) → (q ≡ n → ⊥) → lookup (nat_eq q) (with_key n o es) ≡ lookup (nat_eq q) es
head_apart q n None es h = refl
head_apart q n (Some k) es h = rw (ne_eqb q n h) refl

head_here : (q n : ℕ) (o : Option ℕ) (es : List (ℕ × ℕ)) → q ≡ n → lookup (nat_eq q) es ≡ None → lookup (nat_eq q) (with_key n o es) ≡ o
head_here q n None es e h = h
head_here q n (Some k) es e h = rw (is_eq_true q n e) refl

miss : (page : Page) (first lanes q : ℕ) → ((l : ℕ) → l < lanes → q ≡ first + l → ⊥) → lookup (nat_eq q) (keys_below page first lanes) ≡ None
unfolding keys_below
miss page first zero q h = refl
miss page first (suc c) q h = head_apart q (first + c) (key_in page c) (keys_below page first c) (h c (omega arith)) ∙ miss page first c q (λ l b. h l (omega arith))

hit : (page : Page) (first lanes q l : ℕ) → l < lanes → q ≡ first + l → lookup (nat_eq q) (keys_below page first lanes) ≡ key_in page l
unfolding keys_below
hit page first zero q l b e = absurd (omega arith)
hit page first (suc c) q l b e =
    ⊎_elim
    (λ (t : l ≡ c). head_here q (first + c) (key_in page c) (keys_below page first c) (omega arith) (miss page first c q (λ m lt is. omega arith)) ∙ ap (key_in page) (sym t))
    (λ (t : l ≡ c → ⊥). head_apart q (first + c) (key_in page c) (keys_below page first c) (λ s. t (omega arith)) ∙ hit page first c q l (omega arith) e)
    (cases_eq l c)

none_from : (p : ℕ) (es : List (ℕ × Page)) → AllByRecursion (λ y. nat_eq p y ≡ false) (keys_of es) → lookup (nat_eq p) es ≡ None
none_from p [] h = refl
none_from p (e ∷ es) h = rw (h.0) (none_from p es h.1)

all_from : (p : ℕ) (es : List (ℕ × Page)) → lookup (nat_eq p) es ≡ None → AllByRecursion (λ y. nat_eq p y ≡ false) (keys_of es)
all_from p [] h = tt
all_from p (e ∷ es) h = by (nat_eq p e.0) refl h (all_from p es)
  where
    by : (b : Bool) → nat_eq p e.0 ≡ b → cond b (Some e.1) (lookup (nat_eq p) es) ≡ None → (lookup (nat_eq p) es ≡ None → AllByRecursion (λ y. nat_eq p y ≡ false) (keys_of es)) → AllByRecursion (λ y. nat_eq p y ≡ false) (keys_of (e ∷ es))
    by true is g rest = absurd (cc g)
    by false is g rest = (is, rest g)

-- the keys of pages, by the number of the page and the lane
hits : (ps : List (ℕ × Page)) (q p l : ℕ) → l < 8 → q ≡ 8 * p + l → IsDistinct nat_eq (keys_of ps) → lookup (nat_eq q) (keys_of_pages ps) ≡ key_at (lookup (nat_eq p) ps) l
unfolding keys_of_pages either
hits [] q p l b is d = refl
hits (e ∷ ps) q p l b is d =
    let rest = hits ps q p l b is (IsDistinct-tail nat_eq e.0 (keys_of ps) d) in
    lookup_append q (keys_below e.1 (8 * e.0) 8) (keys_of_pages ps)
    ∙ ⊎_elim
    (λ (t : p ≡ e.0).
    let gone = ap (λ n. lookup (nat_eq n) ps) t ∙ none_from e.0 ps (IsDistinct-head nat_eq e.0 (keys_of ps) d) in
    ap (either (lookup (nat_eq q) (keys_below e.1 (8 * e.0) 8))) (rest ∙ ap (λ o. key_at o l) gone)
    ∙ either_none (lookup (nat_eq q) (keys_below e.1 (8 * e.0) 8))
    ∙ hit e.1 (8 * e.0) 8 q l b (omega arith)
    ∙ rw (is_eq_true p e.0 t) refl)
    (λ (t : p ≡ e.0 → ⊥).
    ap (λ o. either o (lookup (nat_eq q) (keys_of_pages ps))) (miss e.1 (8 * e.0) 8 q (λ m lt s. t (omega arith)))
    ∙ rest ∙ rw (ne_eqb p e.0 t) refl)
    (cases_eq p e.0)

find_keys : (es : List (ℕ × ℕ)) (q : ℕ) → find nat_cmp q es ≡ lookup (nat_eq q) es
find_keys [] q = refl
find_keys (e ∷ es) q = rw (eq_tie q e.0, find_keys es q) refl

-- the key in a lane of one of the pages
abbrev pub lane_of : ℕ → Page → List (ℕ × Page) → ℕ → ℕ → Option ℕ
lane_of open_page page es p l = key_at (lookup (nat_eq p) ((open_page, page) ∷ es)) l

-- a look-up of a number is one of its page and its lane
pub get_key : (a : ℕ) (page : Page) (es : List (ℕ × Page)) (q : ℕ) → IsPaged a es → fin.get (keys_in ((a, page) ∷ es)) q ≡ lane_of a page es (q / 8) (q % 8)
get_key a page es q paged =
    let entries = keys_of_pages ((a, page) ∷ es) in
    get-from_entries nat_cmp_total entries q ∙ find_keys entries q
    ∙ hits ((a, page) ∷ es) q (q / 8) (q % 8) (low q) (whole q) (IsDistinct-cons nat_eq a (keys_of es) (all_from a es paged.apart) paged.unique)

-- the open page has its own keys, and the others have theirs
pub open_lane : (a : ℕ) (page : Page) (es : List (ℕ × Page)) (p l : ℕ) → p ≡ a → lane_of a page es p l ≡ key_in page l
open_lane a page es p l e = rw (is_eq_true p a e) refl

pub other_lane : (a : ℕ) (page : Page) (es : List (ℕ × Page)) (p l : ℕ) → (p ≡ a → ⊥) → lane_of a page es p l ≡ key_at (lookup (nat_eq p) es) l
other_lane a page es p l h = rw (ne_eqb p a h) refl

-- from old to new the lane of this number is written, and no other
pub record Writes (old new : ℕ → ℕ → Option ℕ) (n : ℕ) (v : Option ℕ) : Type 0 where
  pub here : new (n / 8) (n % 8) ≡ v
  pub lanes : (l : ℕ) → (n % 8 ≡ l → ⊥) → new (n / 8) l ≡ old (n / 8) l
  pub others : (p l : ℕ) → (n / 8 ≡ p → ⊥) → new p l ≡ old p l

at_number : (old new : ℕ → ℕ → Option ℕ) (n : ℕ) (v : Option ℕ) → Writes old new n v → (q : ℕ) → new (q / 8) (q % 8) ≡ cond (eq_by_cmp nat_cmp q n) v (old (q / 8) (q % 8))
at_number old new n v w q =
    ⊎_elim
    (λ (t : n ≡ q). ap (λ m. new (m / 8) (m % 8)) (sym t) ∙ w.here ∙ rw (sym (flip q n), is_eq_true n q t) refl)
    (λ (t : n ≡ q → ⊥).
    ⊎_elim
    (λ (s : n / 8 ≡ q / 8).
    ap (λ p. new p (q % 8)) (sym s) ∙ w.lanes (q % 8) (λ r. t (same_number q n s r)) ∙ ap (λ p. old p (q % 8)) s)
    (λ (s : n / 8 ≡ q / 8 → ⊥). w.others (q / 8) (q % 8) s)
    (cases_eq (n / 8) (q / 8))
    ∙ rw (sym (flip q n), ne_eqb n q t) refl)
    (cases_eq n q)

module _ (a b : ℕ) (page page' : Page) (es fs : List (ℕ × Page)) (p : IsPaged a es) (p' : IsPaged b fs) (n : ℕ) where
  -- a key is put
  pub keys_put : (v : ℕ) → Writes (lane_of a page es) (lane_of b page' fs) n (Some v) → keys_in ((b, page') ∷ fs) ≡ insert (keys_in ((a, page) ∷ es)) n v
  keys_put v w =
      same_map nat_cmp_total nat_cmp-IsAntisymmetric _ _ (λ q.
      get_key b page' fs q p' ∙ at_number _ _ n (Some v) w q
      ∙ sym (get-insert nat_cmp_total (keys_in ((a, page) ∷ es)) n v q ∙ ap (cond (eq_by_cmp nat_cmp q n) (Some v)) (get_key a page es q p)))

  -- a key is taken out
  pub keys_out : Writes (lane_of a page es) (lane_of b page' fs) n None → keys_in ((b, page') ∷ fs) ≡ remove (keys_in ((a, page) ∷ es)) n
  keys_out w =
      same_map nat_cmp_total nat_cmp-IsAntisymmetric _ _ (λ q.
      get_key b page' fs q p' ∙ at_number _ _ n None w q
      ∙ sym (get-remove nat_cmp_total (keys_in ((a, page) ∷ es)) n q ∙ ap (cond (eq_by_cmp nat_cmp q n) None) (get_key a page es q p)))

-- the open page is written
pub open_written : (a n : ℕ) (page page' : Page) (es : List (ℕ × Page)) (v : Option ℕ) → n / 8 ≡ a → ((l : ℕ) → key_in page' l ≡ cond (nat_eq (n % 8) l) v (key_in page l)) → Writes (lane_of a page es) (lane_of a page' es) n v
open_written a n page page' es v e h =
    record {
      here = open_lane a page' es (n / 8) (n % 8) e ∙ h (n % 8) ∙ rw (is_same (n % 8)) refl;
      lanes = λ l t. open_lane a page' es (n / 8) l e ∙ h l ∙ rw (ne_eqb (n % 8) l t) refl ∙ sym (open_lane a page es (n / 8) l e);
      others = λ p l t.
          let far = λ (s : p ≡ a). t (omega arith) in
          other_lane a page' es p l far ∙ sym (other_lane a page es p l far);
    }

-- another page is written
pub other_written : (a n : ℕ) (page : Page) (es fs : List (ℕ × Page)) (v : Option ℕ) → (n / 8 ≡ a → ⊥) → key_at (lookup (nat_eq (n / 8)) fs) (n % 8) ≡ v
    → ((l : ℕ) → nat_eq (n % 8) l ≡ false → key_at (lookup (nat_eq (n / 8)) fs) l ≡ key_at (lookup (nat_eq (n / 8)) es) l)
    → ((p : ℕ) → nat_eq (n / 8) p ≡ false → lookup (nat_eq p) fs ≡ lookup (nat_eq p) es) → Writes (lane_of a page es) (lane_of a page fs) n v
other_written a n page es fs v far here lanes others =
    record {
      here = other_lane a page fs (n / 8) (n % 8) far ∙ here;
      lanes = λ l t. other_lane a page fs (n / 8) l far ∙ lanes l (ne_eqb (n % 8) l t) ∙ sym (other_lane a page es (n / 8) l far);
      others = λ p l t.
          ⊎_elim
          (λ (s : p ≡ a). open_lane a page fs p l s ∙ sym (open_lane a page es p l s))
          (λ (s : p ≡ a → ⊥). other_lane a page fs p l s ∙ ap (λ o. key_at o l) (others p (ne_eqb (n / 8) p t)) ∙ sym (other_lane a page es p l s))
          (cases_eq p a);
    }

-- the open page stays apart where another one changes
pub paged_still : (a p : ℕ) (es fs : List (ℕ × Page)) → IsPaged a es → (p ≡ a → ⊥) → ((q : ℕ) → nat_eq p q ≡ false → lookup (nat_eq q) fs ≡ lookup (nat_eq q) es) → IsDistinct nat_eq (keys_of fs) → IsPaged a fs
paged_still a p es fs paged far others unique = record { apart = others a (ne_eqb p a far) ∙ paged.apart; unique = unique }

-- the page of a number is taken from es and opened in place of the page a, which is put in, and then they are fs
module _ (a n : ℕ) (page taken page' : Page) (es fs : List (ℕ × Page)) (far : n / 8 ≡ a → ⊥)
    (others : (p : ℕ) → nat_eq a p ≡ false → lookup (nat_eq p) fs ≡ cond (nat_eq (n / 8) p) None (lookup (nat_eq p) es)) where
  pub opened_paged : IsDistinct nat_eq (keys_of fs) → IsPaged (n / 8) fs
  opened_paged unique =
      record {
        apart = others (n / 8) (ne_eqb a (n / 8) (λ e. far (sym e))) ∙ rw (is_same (n / 8)) refl;
        unique = unique;
      }

  pub opened_written : (v : Option ℕ) → ((l : ℕ) → key_in taken l ≡ key_at (lookup (nat_eq (n / 8)) es) l) → ((l : ℕ) → key_at (lookup (nat_eq a) fs) l ≡ key_in page l)
      → ((l : ℕ) → key_in page' l ≡ cond (nat_eq (n % 8) l) v (key_in taken l)) → Writes (lane_of a page es) (lane_of (n / 8) page' fs) n v
  opened_written v had keeps written =
      record {
        here = open_lane (n / 8) page' fs (n / 8) (n % 8) refl ∙ written (n % 8) ∙ rw (is_same (n % 8)) refl;
        lanes = λ l t. open_lane (n / 8) page' fs (n / 8) l refl ∙ written l ∙ ap (λ b. cond b v (key_in taken l)) (ne_eqb (n % 8) l t) ∙ had l ∙ sym (other_lane a page es (n / 8) l far);
        others = λ p l t.
            other_lane (n / 8) page' fs p l (λ s. t (sym s))
            ∙ ⊎_elim
            (λ (s : p ≡ a). ap (λ m. key_at (lookup (nat_eq m) fs) l) s ∙ keeps l ∙ sym (open_lane a page es p l s))
            (λ (s : p ≡ a → ⊥).
            ap (λ o. key_at o l) (others p (ne_eqb a p (λ r. s (sym r))) ∙ ap (λ b. cond b None (lookup (nat_eq p) es)) (ne_eqb (n / 8) p t))
            ∙ sym (other_lane a page es p l s))
            (cases_eq p a);
      }

-- no calls
pub no_keys : (a : ℕ) → keys_in ((a, no_calls) ∷ []) ≡ empty
unfolding keys_of_pages keys_below
no_keys a = refl
