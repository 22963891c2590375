-- How many calls stand in each list, after each change of the calls and of the ends.
use Rattle.std.proofs.Common.{◌≡◌, ℕ, ◌+◌, ◌-◌, ◌^◌, ◌<◌, ◌≤◌, cond, List, length, Option, None, Some, IfSome, option_map, option_and_then, refl, ap, sym, ◌∙◌, ⊎_elim, arith, slice_set, get_or-set_other, get_or-set_same}
use Rattle.std.specs.Ordering.{nat_cmp}
use Rattle.std.specs.FinMap.{FinMap, entries, get, len}
use Rattle.std.proofs.lemmas.Bool.{cases_eq}
use Rattle.std.proofs.lemmas.Option.{same_Some}
use Rattle.call_slab.specs.declared.call.Call.{Call}
use Rattle.call_slab.specs.declared.slots.Slot.{Slot}
use Rattle.call_slab.specs.declared.links.Links.{Links}
use Rattle.call_slab.specs.Calls.{call_of}
use Rattle.answerbox.specs.declared.chains.Ends.{Ends}
use Rattle.answerbox.specs.declared.chains.Chain.{Chain}
use Rattle.answerbox.specs.Calls.{count_of}
use Rattle.answerbox.specs.Chain.{Slots, Core, core, cores, row_of, rank_of, spot_at, spots, Chained, no_ends, ends_at, last_of, count_at, AreFew, passed_ends, joined_ends, IsBetween, unlinked_rows, appended_rows}
use Rattle.answerbox.specs.Moving.{row_at}
use Rattle.answerbox.specs.Stored.{is_row, stands_in, Counted}
use Rattle.answerbox.proofs.Counts.{count-len}
use Rattle.answerbox.proofs.Chain.{key_is, key_not, within_ends}

-- the ends of one list change
count_there : (e : Ends) (es : List Ends) (i j : ℕ) → (j ≡ i → ⊥) → count_at (slice_set es i e) j ≡ count_at es j
count_there e es i j n = ap (λ (d : Ends). d.count) (get_or-set_other es i j e no_ends n)

count_here : (e : Ends) (es : List Ends) (i : ℕ) → i < length es → count_at (slice_set es i e) i ≡ e.count
count_here e es i h = ap (λ (d : Ends). d.count) (get_or-set_same es i e no_ends h)

one_less : (x y z : ℕ) → x ≡ y → y ≡ 1 + z → x - 1 ≡ z
one_less x y z e f = omega arith

one_more : (x y z : ℕ) → x ≡ y → z ≡ 1 + y → x + 1 ≡ z
one_more x y z e f = omega arith

none_less : (x y z : ℕ) → x ≡ y → y ≡ 0 + z → x ≡ z
none_less x y z e f = omega arith

none_more : (x y z : ℕ) → x ≡ y → z ≡ 0 + y → x ≡ z
none_more x y z e f = omega arith

module _ (ch : Chain) (es : List Ends) (m n : FinMap nat_cmp Call) (c : Counted ch es m) where
  -- a call that leaves its list
  pub counted_out : (row : Option ℕ) (l : Links) → IfSome row (λ i. i < length es)
      → ((j : ℕ) → count_of (stands_in ch j) (entries m) ≡ cond (is_row row j) 1 0 + count_of (stands_in ch j) (entries n)) → Counted ch (unlinked_rows ch es row l) n
  counted_out None l w h j = none_less (count_at es j) _ _ (c j) (h j)
  counted_out (Some i) l w h j =
      ⊎_elim
      (λ (t : j ≡ i). rw t (count_here (passed_ends ch l (ends_at es i)) es i w ∙ one_less (count_at es i) _ _ (c i) (rw (key_is i i refl) at (h i))))
      (λ (t : j ≡ i → ⊥). none_less _ _ _ (count_there (passed_ends ch l (ends_at es i)) es i j t ∙ c j) (rw (key_not i j t) at (h j)))
      (cases_eq j i)

  -- a call that comes to a list
  pub counted_in : (row : Option ℕ) (k : ℕ) → IfSome row (λ i. i < length es)
      → ((j : ℕ) → count_of (stands_in ch j) (entries n) ≡ cond (is_row row j) 1 0 + count_of (stands_in ch j) (entries m)) → Counted ch (appended_rows es row k) n
  counted_in None k w h j = none_more (count_at es j) _ _ (c j) (h j)
  counted_in (Some i) k w h j =
      ⊎_elim
      (λ (t : j ≡ i). rw t (count_here (joined_ends k (ends_at es i)) es i w ∙ one_more (count_at es i) _ _ (c i) (rw (key_is i i refl) at (h i))))
      (λ (t : j ≡ i → ⊥). none_more _ _ _ (count_there (joined_ends k (ends_at es i)) es i j t ∙ c j) (rw (key_not i j t) at (h j)))
      (cases_eq j i)

  -- a call that stays in its list
  pub counted_kept : ((j : ℕ) → count_of (stands_in ch j) (entries n) ≡ count_of (stands_in ch j) (entries m)) → Counted ch es n
  counted_kept h j = c j ∙ sym (h j)

pub counted_as : (ch : Chain) (es fs : List Ends) (m n : FinMap nat_cmp Call) → fs ≡ es → n ≡ m → Counted ch es m → Counted ch fs n
counted_as ch es fs m n e f c = rw (e, f) c

-- there are fewer calls than numbers
below : (x y z number : ℕ) → x ≡ y → y ≤ z → z < number → number ≤ 2 ^ 63 → x < 2 ^ 63
below x y z number e f g h = omega arith

pub few_counts : (ch : Chain) (es : List Ends) (m : FinMap nat_cmp Call) (number : ℕ) → Counted ch es m → len m < number → number ≤ 2 ^ 63 → AreFew es
few_counts ch es m number c l b i = below (count_at es i) _ (len m) number (c i) (count-len (stands_in ch i) m) l b

lower : (x y : ℕ) → x ≡ y - 1 → y < 2 ^ 63 → x < 2 ^ 63
lower x y e h = omega arith

same_few : (x y : ℕ) → x ≡ y → y < 2 ^ 63 → x < 2 ^ 63
same_few x y e h = rw e h

pub few_unlinked : (ch : Chain) (es : List Ends) (row : Option ℕ) (l : Links) → IfSome row (λ i. i < length es) → AreFew es → AreFew (unlinked_rows ch es row l)
few_unlinked ch es None l w f j = f j
few_unlinked ch es (Some i) l w f j =
    ⊎_elim
    (λ (t : j ≡ i). rw t (lower _ (count_at es i) (count_here (passed_ends ch l (ends_at es i)) es i w) (f i)))
    (λ (t : j ≡ i → ⊥). same_few _ (count_at es j) (count_there (passed_ends ch l (ends_at es i)) es i j t) (f j))
    (cases_eq j i)

pub few_row : (es : List Ends) (row : Option ℕ) → AreFew es → IfSome row (λ i. count_at es i < 2 ^ 63)
few_row es None f = tt
few_row es (Some i) f = f i

-- the list in which a call stands
pub row_at_core : (ch : Chain) (m : Slots) (k : ℕ) (c : Core) → cores m k ≡ Some c → row_at ch m k ≡ row_of ch c.call
row_at_core ch m k c e = by (get m k) e
  where
    by : (o : Option Slot) → option_map core o ≡ Some c → option_and_then (row_of ch) (call_of o) ≡ row_of ch c.call
    by None e = absurd (cc e)
    by (Some s) e = ap (λ (x : Core). row_of ch x.call) (same_Some (core s) c e)

pub row_within : (ch : Chain) (m : Slots) (es : List Ends) (top k : ℕ) (c : Core) → Chained ch m es top → cores m k ≡ Some c → IfSome (row_of ch c.call) (λ i. i < length es)
row_within ch m es top k c q e = by (row_of ch c.call) refl
  where
    by : (o : Option ℕ) → row_of ch c.call ≡ o → IfSome o (λ i. i < length es)
    by None f = tt
    by (Some i) f = within_ends (spots ch m) _ _ es (last_of es) top k (record { group = i; rank = rank_of ch c.call }) q (ap (spot_at ch) e ∙ ap (option_map (λ g. record { group = g; rank = rank_of ch c.call })) f)

pub within_as : (r s : Option ℕ) (n : ℕ) → r ≡ s → IfSome s (λ i. i < n) → IfSome r (λ i. i < n)
within_as r s n e h = rw e h

pub between_within : (ch : Chain) (m : Slots) (es : List Ends) (row : Option ℕ) (l : Links) → IsBetween ch m es row l → IfSome row (λ i. i < length es)
between_within ch m es None l b = tt
between_within ch m es (Some i) l b = b.0
