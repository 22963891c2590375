-- What each change of links does to what the links say, and to the ends.
use Rattle.std.proofs.Common.{◌≡◌, ℕ, ◌<◌, ◌≤◌, Bool, true, false, cond, ◌==◌, List, length, Option, None, Some, IsSome, option_map, refl, sym, ap, ◌∙◌, arith, ⊎_elim}
use Rattle.std.specs.Prelude.{slice_index_or, slice_set}
use Rattle.std.specs.Ordering.{nat_cmp, eq_by_cmp}
use Rattle.std.specs.Cmp.{nat_cmp_total}
use Rattle.std.specs.FinMap.{get, insert, get-insert}
use Rattle.std.specs.Option.{option_map_or}
use Rattle.std.proofs.lemmas.Bool.{cases_eq, cases_lt, eqb-true}
use Rattle.std.proofs.lemmas.Bool.Decides.{nat_tests}
use Rattle.std.proofs.lemmas.List.{get_or-set_same, get_or-set_other, get_or_past, length-set}
use Rattle.std.proofs.lemmas.Option.{same_Some}
use Rattle.ipc_ids.proofs.Common.{keys_of_same}
use Rattle.call_slab.specs.declared.slots.Slot.{Slot}
use Rattle.call_slab.specs.declared.links.Links.{Links}
use Rattle.call_slab.specs.Calls.{links_of}
use Rattle.call_slab.specs.Slots.{at_key}
use Rattle.answerbox.specs.declared.chains.Ends.{Ends}
use Rattle.answerbox.specs.declared.chains.Chain.{Chain}
use Rattle.answerbox.specs.declared.chains.Chain.TheVariants.{Queue, Own}
use Rattle.answerbox.specs.Order.{Spot, IsLeast, Linked}
use Rattle.answerbox.specs.Chain.{Slots, core, cores, next_link, previous_link, with_next, with_previous, next_in, previous_in, no_ends, ends_at, first_of, last_of, next_put, previous_put, first_put, last_put, passed_slots, passed_ends, joined_slots, joined_ends, at_row, unlinked_slots, unlinked_rows, appended_slots, appended_rows}
use Rattle.answerbox.proofs.Order.{is_key, is_key_true, is_key_false}

pub other_key : (q k : ℕ) → (q ≡ k → ⊥) → eq_by_cmp nat_cmp q k ≡ false
other_key q k e = grind (arith, nat_tests)

-- what a change under a key leaves at that key
pub get_here : (f : Slot → Slot) (m : Slots) (k : ℕ) → get (at_key f m k) k ≡ option_map f (get m k)
get_here f m k =
    elim (get m k) as (λ o. get m k ≡ o → get (option_map_or (λ s. insert m k (f s)) o m) k ≡ option_map f o) [
      | None ↦ λ e. e
      | Some s ↦ λ e. get-insert nat_cmp_total m k (f s) k ∙ ap (λ b. cond b (Some (f s)) (get m k)) (keys_of_same k k refl)
    ] refl

-- and at each other
pub get_there : (f : Slot → Slot) (m : Slots) (k q : ℕ) → (q ≡ k → ⊥) → get (at_key f m k) q ≡ get m q
get_there f m k q n =
    elim (get m k) as (λ o. get (option_map_or (λ s. insert m k (f s)) o m) q ≡ get m q) [
      | None ↦ refl
      | Some s ↦ get-insert nat_cmp_total m k (f s) q ∙ ap (λ b. cond b (Some (f s)) (get m q)) (other_key q k n)
    ]

module _ (f : Slot → Slot) (keeps : (s : Slot) → core (f s) ≡ core s) (m : Slots) (k : ℕ) where
  pub cores_kept : (q : ℕ) → cores (at_key f m k) q ≡ cores m q
  cores_kept q =
      ⊎_elim
      (λ (e : q ≡ k). rw (e, get_here f m k) (elim (get m k) as (λ o. option_map core (option_map f o) ≡ option_map core o) [ None ↦ refl | Some s ↦ ap Some (keeps s) ]))
      (λ (n : q ≡ k → ⊥). rw (get_there f m k q n) refl)
      (cases_eq q k)

pub live_cores : (m n : Slots) (q : ℕ) → cores m q ≡ cores n q → IsSome (get n q) → IsSome (get m q)
live_cores m n q e h = by (get m q) (get n q) e h
  where
    by : (o p : Option Slot) → option_map core o ≡ option_map core p → IsSome p → IsSome o
    by None None e h = h
    by None (Some p) e h = absurd (cc e)
    by (Some o) p e h = refl

-- the links of one list
pub next-with_next : (ch : Chain) (l : Links) (o : Option ℕ) → next_link ch (with_next ch l o) ≡ o
next-with_next Queue l o = refl
next-with_next Own l o = refl

pub next-with_previous : (ch : Chain) (l : Links) (o : Option ℕ) → next_link ch (with_previous ch l o) ≡ next_link ch l
next-with_previous Queue l o = refl
next-with_previous Own l o = refl

pub previous-with_previous : (ch : Chain) (l : Links) (o : Option ℕ) → previous_link ch (with_previous ch l o) ≡ o
previous-with_previous Queue l o = refl
previous-with_previous Own l o = refl

pub previous-with_next : (ch : Chain) (l : Links) (o : Option ℕ) → previous_link ch (with_next ch l o) ≡ previous_link ch l
previous-with_next Queue l o = refl
previous-with_next Own l o = refl

-- the cores stay
pub cores-next_put : (ch : Chain) (m : Slots) (b o : Option ℕ) (q : ℕ) → cores (next_put ch m b o) q ≡ cores m q
cores-next_put ch m None o q = refl
cores-next_put ch m (Some k) o q = cores_kept (λ s. record s { links = with_next ch (links_of (get m k)) o }) (λ s. refl) m k q

pub cores-previous_put : (ch : Chain) (m : Slots) (b o : Option ℕ) (q : ℕ) → cores (previous_put ch m b o) q ≡ cores m q
cores-previous_put ch m None o q = refl
cores-previous_put ch m (Some k) o q = cores_kept (λ s. record s { links = with_previous ch (links_of (get m k)) o }) (λ s. refl) m k q

pub cores-passed : (ch : Chain) (m : Slots) (l : Links) (q : ℕ) → cores (passed_slots ch m l) q ≡ cores m q
cores-passed ch m l q =
    cores-previous_put ch (next_put ch m (previous_link ch l) (next_link ch l)) (next_link ch l) (previous_link ch l) q
    ∙ cores-next_put ch m (previous_link ch l) (next_link ch l) q

pub cores-joined : (ch : Chain) (m : Slots) (k : ℕ) (last : Option ℕ) (q : ℕ) → cores (joined_slots ch m k last) q ≡ cores m q
cores-joined ch m k last q =
    cores_kept (λ s. record s { links = with_next ch (with_previous ch (links_of (get (next_put ch m last (Some k)) k)) last) None }) (λ s. refl) (next_put ch m last (Some k)) k q
    ∙ cores-next_put ch m last (Some k) q

pub cores-unlinked : (ch : Chain) (m : Slots) (row : Option ℕ) (l : Links) (q : ℕ) → cores (unlinked_slots ch m row l) q ≡ cores m q
cores-unlinked ch m None l q = refl
cores-unlinked ch m (Some i) l q = cores-passed ch m l q

pub cores-appended : (ch : Chain) (m : Slots) (es : List Ends) (row : Option ℕ) (k q : ℕ) → cores (appended_slots ch m es row k) q ≡ cores m q
cores-appended ch m es None k q = refl
cores-appended ch m es (Some i) k q = cores-joined ch m k (last_of es i) q

-- a key that has links
pub link_here : (g : Links → Option ℕ) (l : Links) (m : Slots) (k : ℕ) → IsSome (get m k) → g (links_of (get (at_key (λ s. record s { links = l }) m k) k)) ≡ g l
link_here g l m k h =
    rw (get_here (λ s. record s { links = l }) m k) (elim (get m k) as (λ o. IsSome o → g (links_of (option_map (λ (s : Slot). record s { links = l }) o)) ≡ g l) [ None ↦ λ h. absurd (cc h) | Some s ↦ λ h. refl ] h)

pub link_there : (g : Links → Option ℕ) (l : Links) (m : Slots) (k q : ℕ) → (q ≡ k → ⊥) → g (links_of (get (at_key (λ s. record s { links = l }) m k) q)) ≡ g (links_of (get m q))
link_there g l m k q n = rw (get_there (λ s. record s { links = l }) m k q n) refl

-- a link that is not changed
pub link_kept : (g : Links → Option ℕ) (l : Links) (m : Slots) (k q : ℕ) → g l ≡ g (links_of (get m k)) → g (links_of (get (at_key (λ s. record s { links = l }) m k) q)) ≡ g (links_of (get m q))
link_kept g l m k q e =
    ⊎_elim
    (λ (t : q ≡ k). rw (t, get_here (λ s. record s { links = l }) m k) (by (get m k) e))
    (λ (n : q ≡ k → ⊥). link_there g l m k q n)
    (cases_eq q k)
  where
    by : (o : Option Slot) → g l ≡ g (links_of o) → g (links_of (option_map (λ (s : Slot). record s { links = l }) o)) ≡ g (links_of o)
    by None e = refl
    by (Some s) e = e

-- a link of the other list is not changed
module _ (ch : Chain) (g : Links → Option ℕ) (next : (l : Links) (o : Option ℕ) → g (with_next ch l o) ≡ g l) (previous : (l : Links) (o : Option ℕ) → g (with_previous ch l o) ≡ g l) where
  other-next_put : (m : Slots) (b o : Option ℕ) (q : ℕ) → g (links_of (get (next_put ch m b o) q)) ≡ g (links_of (get m q))
  other-next_put m None o q = refl
  other-next_put m (Some k) o q = link_kept g (with_next ch (links_of (get m k)) o) m k q (next (links_of (get m k)) o)

  other-previous_put : (m : Slots) (b o : Option ℕ) (q : ℕ) → g (links_of (get (previous_put ch m b o) q)) ≡ g (links_of (get m q))
  other-previous_put m None o q = refl
  other-previous_put m (Some k) o q = link_kept g (with_previous ch (links_of (get m k)) o) m k q (previous (links_of (get m k)) o)

  pub other-unlinked : (m : Slots) (row : Option ℕ) (l : Links) (q : ℕ) → g (links_of (get (unlinked_slots ch m row l) q)) ≡ g (links_of (get m q))
  other-unlinked m None l q = refl
  other-unlinked m (Some i) l q =
      other-previous_put (next_put ch m (previous_link ch l) (next_link ch l)) (next_link ch l) (previous_link ch l) q
      ∙ other-next_put m (previous_link ch l) (next_link ch l) q

  pub other-appended : (m : Slots) (es : List Ends) (row : Option ℕ) (k q : ℕ) → g (links_of (get (appended_slots ch m es row k) q)) ≡ g (links_of (get m q))
  other-appended m es None k q = refl
  other-appended m es (Some i) k q =
      let m1 = next_put ch m (last_of es i) (Some k) in
      let l = links_of (get m1 k) in
      let l1 = with_previous ch l (last_of es i) in
      link_kept g (with_next ch l1 None) m1 k q (next l1 None ∙ previous l (last_of es i)) ∙ other-next_put m (last_of es i) (Some k) q

pub previous-next_put : (ch : Chain) (m : Slots) (b o : Option ℕ) (q : ℕ) → previous_in ch (next_put ch m b o) q ≡ previous_in ch m q
previous-next_put ch m None o q = refl
previous-next_put ch m (Some k) o q = link_kept (previous_link ch) (with_next ch (links_of (get m k)) o) m k q (previous-with_next ch (links_of (get m k)) o)

pub next-previous_put : (ch : Chain) (m : Slots) (b o : Option ℕ) (q : ℕ) → next_in ch (previous_put ch m b o) q ≡ next_in ch m q
next-previous_put ch m None o q = refl
next-previous_put ch m (Some k) o q = link_kept (next_link ch) (with_previous ch (links_of (get m k)) o) m k q (next-with_previous ch (links_of (get m k)) o)

pub key_is : (k q : ℕ) → q ≡ k → (k == q) ≡ true
key_is k q e = grind (arith, nat_tests)

pub key_not : (k q : ℕ) → (q ≡ k → ⊥) → (k == q) ≡ false
key_not k q e = grind (arith, nat_tests)

pub next-next_put : (ch : Chain) (m : Slots) (b o : Option ℕ) (q : ℕ) → IsSome (get m q) → next_in ch (next_put ch m b o) q ≡ cond (is_key b q) o (next_in ch m q)
next-next_put ch m None o q h = refl
next-next_put ch m (Some k) o q h =
    ⊎_elim
    (λ (t : q ≡ k). rw (key_is k q t) (rw t (link_here (next_link ch) (with_next ch (links_of (get m k)) o) m k (rw t at h) ∙ next-with_next ch (links_of (get m k)) o)))
    (λ (n : q ≡ k → ⊥). rw (key_not k q n) (link_there (next_link ch) (with_next ch (links_of (get m k)) o) m k q n))
    (cases_eq q k)

pub previous-previous_put : (ch : Chain) (m : Slots) (b o : Option ℕ) (q : ℕ) → IsSome (get m q) → previous_in ch (previous_put ch m b o) q ≡ cond (is_key b q) o (previous_in ch m q)
previous-previous_put ch m None o q h = refl
previous-previous_put ch m (Some k) o q h =
    ⊎_elim
    (λ (t : q ≡ k). rw (key_is k q t) (rw t (link_here (previous_link ch) (with_previous ch (links_of (get m k)) o) m k (rw t at h) ∙ previous-with_previous ch (links_of (get m k)) o)))
    (λ (n : q ≡ k → ⊥). rw (key_not k q n) (link_there (previous_link ch) (with_previous ch (links_of (get m k)) o) m k q n))
    (cases_eq q k)

-- the ends of one list change
ends_there : (g : Ends → Option ℕ) (e : Ends) (es : List Ends) (i j : ℕ) → (j ≡ i → ⊥) → g (slice_index_or (slice_set es i e) j no_ends) ≡ g (slice_index_or es j no_ends)
ends_there g e es i j n = ap g (get_or-set_other es i j e no_ends n)

ends_set : (g : Ends → Option ℕ) (e : Ends) (es : List Ends) (i j : ℕ) → i < length es → g (slice_index_or (slice_set es i e) j no_ends) ≡ cond (j == i) (g e) (g (slice_index_or es j no_ends))
ends_set g e es i j h =
    ⊎_elim
    (λ (t : j ≡ i). rw (key_is j i (sym t)) (rw t (ap g (get_or-set_same es i e no_ends h))))
    (λ (n : j ≡ i → ⊥). rw (key_not j i (λ t. n (sym t))) (ends_there g e es i j n))
    (cases_eq j i)

pub length-at_row : (f : Ends → Ends) (es : List Ends) (i : ℕ) → length (at_row f es i) ≡ length es
length-at_row f es i = length-set es i _

pub length-unlinked : (ch : Chain) (es : List Ends) (row : Option ℕ) (l : Links) → length (unlinked_rows ch es row l) ≡ length es
length-unlinked ch es None l = refl
length-unlinked ch es (Some i) l = length-at_row (passed_ends ch l) es i

pub length-appended : (es : List Ends) (row : Option ℕ) (k : ℕ) → length (appended_rows es row k) ≡ length es
length-appended es None k = refl
length-appended es (Some i) k = length-at_row (joined_ends k) es i

-- none, or another
abbrev pub or_none : Option ℕ → Bool
or_none None = true
or_none (Some k) = false

first-put : (b o : Option ℕ) (e : Ends) → (first_put b o e).first ≡ cond (or_none b) o e.first
first-put None o e = refl
first-put (Some k) o e = refl

last-first_put : (b o : Option ℕ) (e : Ends) → (first_put b o e).last ≡ e.last
last-first_put None o e = refl
last-first_put (Some k) o e = refl

last-put : (b o : Option ℕ) (e : Ends) → (last_put b o e).last ≡ cond (or_none b) o e.last
last-put None o e = refl
last-put (Some k) o e = refl

first-last_put : (b o : Option ℕ) (e : Ends) → (last_put b o e).first ≡ e.first
first-last_put None o e = refl
first-last_put (Some k) o e = refl

-- a test of the list and one of the neighbour
row_test : (b o : Option ℕ) (g : Ends → Option ℕ) (es : List Ends) (i j : ℕ) → cond (j == i) (cond (or_none b) o (g (ends_at es i))) (g (ends_at es j)) ≡ cond (or_none b) (cond (j == i) o (g (ends_at es j))) (g (ends_at es j))
row_test b o g es i j =
    elim (j == i) as (λ t. (j == i) ≡ t → cond t (cond (or_none b) o (g (ends_at es i))) (g (ends_at es j)) ≡ cond (or_none b) (cond t o (g (ends_at es j))) (g (ends_at es j))) [
      | true ↦ λ t. rw (eqb-true j i t) refl
      | false ↦ λ t. elim (or_none b) as (λ u. g (ends_at es j) ≡ cond u (g (ends_at es j)) (g (ends_at es j))) [ true ↦ refl | false ↦ refl ]
    ] refl

pub first-passed : (ch : Chain) (l : Links) (es : List Ends) (i j : ℕ) → i < length es → first_of (at_row (passed_ends ch l) es i) j ≡ cond (or_none (previous_link ch l)) (cond (j == i) (next_link ch l) (first_of es j)) (first_of es j)
first-passed ch l es i j h =
    let e = ends_at es i in
    ends_set (λ d. d.first) (passed_ends ch l e) es i j h
    ∙ ap (λ o. cond (j == i) o (first_of es j)) (first-last_put (next_link ch l) (previous_link ch l) (first_put (previous_link ch l) (next_link ch l) e) ∙ first-put (previous_link ch l) (next_link ch l) e)
    ∙ row_test (previous_link ch l) (next_link ch l) (λ d. d.first) es i j

pub last-passed : (ch : Chain) (l : Links) (es : List Ends) (i j : ℕ) → i < length es → last_of (at_row (passed_ends ch l) es i) j ≡ cond (or_none (next_link ch l)) (cond (j == i) (previous_link ch l) (last_of es j)) (last_of es j)
last-passed ch l es i j h =
    let e = ends_at es i in
    ends_set (λ d. d.last) (passed_ends ch l e) es i j h
    ∙ ap (λ o. cond (j == i) o (last_of es j)) (last-put (next_link ch l) (previous_link ch l) (first_put (previous_link ch l) (next_link ch l) e) ∙ ap (cond (or_none (next_link ch l)) (previous_link ch l)) (last-first_put (previous_link ch l) (next_link ch l) e))
    ∙ row_test (next_link ch l) (previous_link ch l) (λ d. d.last) es i j

pub first-joined : (es : List Ends) (i k j : ℕ) → i < length es → first_of (at_row (joined_ends k) es i) j ≡ cond (or_none (last_of es i)) (cond (j == i) (Some k) (first_of es j)) (first_of es j)
first-joined es i k j h =
    let e = ends_at es i in
    ends_set (λ d. d.first) (joined_ends k e) es i j h
    ∙ ap (λ o. cond (j == i) o (first_of es j)) (first-put e.last (Some k) e)
    ∙ row_test e.last (Some k) (λ d. d.first) es i j

pub last-joined : (es : List Ends) (i k j : ℕ) → i < length es → last_of (at_row (joined_ends k) es i) j ≡ cond (j == i) (Some k) (last_of es j)
last-joined es i k j h = ends_set (λ d. d.last) (joined_ends k (ends_at es i)) es i j h

-- a list that has a key is there
pub within_ends : (R : ℕ → Option Spot) (A B : ℕ → Option ℕ) (es : List Ends) (L : ℕ → Option ℕ) (top k : ℕ) (x : Spot) → Linked R A B (first_of es) L top → R k ≡ Some x → x.group < length es
within_ends R A B es L top k x l e =
    ⊎_elim
    (λ (h : x.group < length es). h)
    (λ (h : length es ≤ x.group).
    let none : first_of es x.group ≡ None = ap (λ (d : Ends). d.first) (get_or_past es x.group no_ends h) in
    let n : IsLeast R x.group 0 None = rw none at (l.firsts x.group) in
    let z : x.rank < 0 = n k x e refl in absurd (omega arith))
    (cases_lt x.group (length es))

-- two tests that hold together
pub same_test : (o p : Option ℕ) (q k : ℕ) → (o ≡ Some q → p ≡ Some k) → (p ≡ Some k → o ≡ Some q) → is_key o q ≡ is_key p k
same_test o p q k f g =
    elim (is_key o q) as (λ b. is_key o q ≡ b → b ≡ is_key p k) [
      | true ↦ λ e. sym (key_of_some p k (f (is_key_true o q e)))
      | false ↦ λ e. elim (is_key p k) as (λ c. is_key p k ≡ c → false ≡ c) [
        | true ↦ λ t. absurd (is_key_false o q e (g (is_key_true p k t)))
        | false ↦ λ t. refl
      ] refl
    ] refl
  where
    key_of_some : (p : Option ℕ) (k : ℕ) → p ≡ Some k → is_key p k ≡ true
    key_of_some None k e = absurd (cc e)
    key_of_some (Some j) k e = key_is j k (same_Some k j (sym e))
