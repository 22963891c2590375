-- The words of a text, one after the other.
use Rattle.std.proofs.Common.{◌≡◌, ℕ, zero, suc, ◌+◌, ◌-◌, ◌<◌, ◌≤◌, Bool, true, false, cond, not, List, [], ◌∷◌, length, take, drop, Some, None, refl, sym, ap, subst, ◌∙◌, inl, inr, arith, length-drop}
use Rattle.std.specs.Prelude.{filter, ◌==◌, is_some, position}
use Rattle.std.specs.List.{slice_split, onto_first, position_or_len}
use Rattle.std.proofs.lemmas.Bool.{cases_Bool, cases_lt, eqb-true, lt-ltb, le-ltb, ne_eqb, true≢false}
use Rattle.std.proofs.lemmas.List.{length-take-le}
use Rattle.std.proofs.lemmas.List.Sums.{prefix_len-le-length}
use Rattle.std.proofs.lemmas.List.Splits.{slice_split-cons_yes, slice_split-cons_no}
use Rattle.std.proofs.lemmas.Option.{same_Some}
use Rattle.script_lines.proofs.Words.{kept_cons}
use Rattle.search_goals.specs.Goals.{is_gap, text_words, after_gaps}

abbrev pieces : List ℕ → List (List ℕ)
pieces text = slice_split is_gap text

abbrev kept : List (List ℕ) → List (List ℕ)
kept parts = filter (λ word. not (length word == 0)) parts

abbrev len : List ℕ → ℕ
len xs = position_or_len is_gap xs

pub found_at : (p : ℕ → Bool) (xs : List ℕ) (at : ℕ) → position p xs ≡ Some at →
    (at ≡ position_or_len p xs) × (at ≤ length xs)
found_at p xs at e = elim (cases_lt (position_or_len p xs) (length xs)) [
  | inl lt ↦
      let found : position p xs ≡ Some (position_or_len p xs) = ap (λ b. cond b (Some (position_or_len p xs)) None)
      (lt-ltb (position_or_len p xs) (length xs) lt) in
      let same : position_or_len p xs ≡ at = same_Some (position_or_len p xs) at (sym found ∙ e) in
      (sym same, omega (arith, same, lt))
  | inr ge ↦ let most = prefix_len-le-length (λ x. not (p x)) xs in absurd (true≢false (ap is_some (sym e
      ∙ none ge)))
]
  where
    none : length xs ≤ position_or_len p xs → position p xs ≡ None
    none ge = ap (λ b. cond b (Some (position_or_len p xs)) None) (le-ltb (position_or_len p xs) (length xs) ge)

-- ---- a word at the front

len_gap : (x : ℕ) (xs : List ℕ) → is_gap x ≡ true → len (x ∷ xs) ≡ 0
len_gap x xs e = rw e refl

len_more : (x : ℕ) (xs : List ℕ) → is_gap x ≡ false → len (x ∷ xs) ≡ suc (len xs)
len_more x xs e = rw e (omega arith)

gap_words : (x : ℕ) (xs : List ℕ) → is_gap x ≡ true → text_words (x ∷ xs) ≡ text_words xs
gap_words x xs e = ap kept (slice_split-cons_yes is_gap x xs e)

abbrev Cut : ℕ → List ℕ → Type 0
Cut i xs = (pieces xs ≡ take i xs ∷ drop 1 (pieces (drop i xs))) × (text_words (drop i xs) ≡ kept (drop 1 (pieces
    (drop i xs))))

cut_here : (xs : List ℕ) (parts : List (List ℕ)) → pieces xs ≡ [] ∷ parts → Cut 0 xs
cut_here xs parts e =
    let whole : pieces xs ≡ [] ∷ drop 1 (pieces xs) = e ∙ ap (λ z. [] ∷ drop 1 z) (sym e) in
    (whole, ap kept whole)

cut_more : (i x : ℕ) (xs : List ℕ) → pieces (x ∷ xs) ≡ onto_first x (pieces xs) → Cut i xs → Cut (suc i) (x ∷ xs)
cut_more i x xs e cut = (e ∙ ap (onto_first x) cut.0, cut.1)

cut : (xs : List ℕ) → Cut (len xs) xs
cut [] = (refl, refl)
cut (x ∷ xs) = elim (cases_Bool (is_gap x)) [
  | inl gap ↦ subst (λ i. Cut i (x ∷ xs)) (sym (len_gap x xs gap)) (cut_here (x ∷ xs) (pieces xs)
      (slice_split-cons_yes is_gap x xs gap))
  | inr goes ↦ subst (λ i. Cut i (x ∷ xs)) (sym (len_more x xs goes))
      (cut_more (len xs) x xs (slice_split-cons_no is_gap x xs goes) (cut xs))
]

word_first : (x : ℕ) (xs : List ℕ) → is_gap x ≡ false →
    text_words (x ∷ xs) ≡ (x ∷ take (len xs) xs) ∷ text_words (drop (len xs) xs)
word_first x xs goes =
    let both = cut_more (len xs) x xs (slice_split-cons_no is_gap x xs goes) (cut xs) in
    ap kept both.0 ∙ kept_cons (x ∷ take (len xs) xs) (drop 1 (pieces (drop (len xs) xs)))
    (ne_eqb _ 0 (λ e. omega arith)) ∙ ap (λ ws. (x ∷ take (len xs) xs) ∷ ws) (sym both.1)

-- ---- behind gaps

after_gap : (x : ℕ) (xs : List ℕ) → is_gap x ≡ true → after_gaps (x ∷ xs) ≡ after_gaps xs
after_gap x xs e = rw e (let one : 1 + position_or_len (λ b. not (is_gap b)) xs ≡ suc (position_or_len (λ b. not
    (is_gap b)) xs) = omega arith in rw one refl)

after_none : (x : ℕ) (xs : List ℕ) → is_gap x ≡ false → after_gaps (x ∷ xs) ≡ x ∷ xs
after_none x xs e = rw e refl

-- the first word, and those behind it
abbrev Next : List ℕ → List ℕ → Type 0
Next text t = (len t ≡ 0 → text_words text ≡ []) × (1 ≤ len t →
    text_words text ≡ take (len t) t ∷ text_words (drop (len t) t))

next_here : (x : ℕ) (xs : List ℕ) → is_gap x ≡ false → Next (x ∷ xs) (x ∷ xs)
next_here x xs goes =
    let more = len_more x xs goes in (
      λ (none : len (x ∷ xs) ≡ 0). absurd (omega (arith, more, none)),
      λ (some : 1 ≤ len (x ∷ xs)). rw more (word_first x xs goes),
    )

pub next_is : (text : List ℕ) → Next text (after_gaps text)
next_is [] = (λ none. refl, λ some. absurd (omega (arith, some)))
next_is (x ∷ xs) = elim (cases_Bool (is_gap x)) [
  | inl gap ↦
      let less = next_is xs in
      subst (Next (x ∷ xs)) (sym (after_gap x xs gap)) (
        λ none. gap_words x xs gap
            ∙ less.0 none,
        λ some. gap_words x xs gap ∙ less.1 some,
      )
  | inr goes ↦ subst (Next (x ∷ xs)) (sym (after_none x xs goes)) (next_here x xs goes)
]

-- not 0
pub some : (n : ℕ) → (n == 0) ≡ false → 1 ≤ n
some zero e = absurd (true≢false e)
some (suc n) e = omega arith

-- the first word and what stands behind it, as they are cut
module _ (text rest word others : List ℕ) (after : rest ≡ after_gaps text) (front : word ≡ take (len rest) rest)
    (behind : others ≡ drop (len rest) rest) where
  long : length word ≡ len rest
  long = ap length front ∙ length-take-le (len rest) rest (prefix_len-le-length (λ x. not (is_gap x)) rest)

  pub no_word : (length word == 0) ≡ true → text_words text ≡ []
  no_word is_none =
      let none = eqb-true (length word) 0 is_none in (next_is text).0 (ap len (sym after) ∙ sym long ∙ none)

  pub word_then : 1 ≤ length word → text_words text ≡ word ∷ text_words others
  word_then some =
      (next_is text).1 (let is = ap len (sym after) ∙ sym long in omega (arith, is, some))
      ∙ ap (λ (t : List ℕ). take (len t) t ∷ text_words (drop (len t) t)) (sym after)
      ∙ ap (λ (w : List ℕ). w ∷ text_words (drop (len rest) rest)) (sym front)
      ∙ ap (λ (o : List ℕ). word ∷ text_words o) (sym behind)

  pub others_shorter : 1 ≤ length word → length others < length text
  others_shorter some =
      let word_long = long in
      let most : len rest ≤ length rest = prefix_len-le-length (λ x. not (is_gap x)) rest in
      let a : length others ≡ length rest - len rest = ap length behind ∙ length-drop (len rest) rest in
      let b = ap length after ∙ length-drop (position_or_len (λ x. not (is_gap x)) text) text in
      omega (arith, some, word_long, most, a, b)
