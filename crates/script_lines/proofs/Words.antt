-- The words of a line, from its first byte on.
use Rattle.std.proofs.Common.{◌≡◌, ℕ, suc, ◌+◌, ◌≤◌, Bool, true, false, cond, not, ◌||◌, List, [], ◌∷◌, ◌++◌, length, take, drop, Some, None, refl, sym, ap, subst, ◌∙◌, inl, inr, append_assoc, arith}
use Rattle.std.specs.Prelude.{filter, ◌==◌, is_some, position}
use Rattle.std.specs.Borrow.{Bor}
use Rattle.std.specs.List.{slice_split, onto_first, list_all, position_or_len}
use Rattle.std.proofs.lemmas.Bool.{cases_Bool, and_parts, or_cases, eqb-true, ne_eqb, lt-ltb, cases_lt, true≢false}
use Rattle.std.proofs.lemmas.List.{map_push}
use Rattle.std.proofs.lemmas.List.Sums.{prefix_len-le-length}
use Rattle.std.proofs.lemmas.List.Splits.{slice_split-cons_yes, slice_split-cons_no}
use Rattle.script_lines.specs.Text.{is_allowed, is_blank, ends_word, without_comment, words, texts}

abbrev pub pieces : List ℕ → List (List ℕ)
pieces line = slice_split is_blank (without_comment line)

abbrev pub kept : List (List ℕ) → List (List ℕ)
kept parts = filter (λ word. not (length word == 0)) parts

-- how many bytes a word at the front has
abbrev pub len : List ℕ → ℕ
len xs = position_or_len ends_word xs

-- where no word is over, it has all bytes
pub none_found : (xs : List ℕ) → position ends_word xs ≡ None → length xs ≡ position_or_len ends_word xs
none_found xs e = elim (cases_lt (position_or_len ends_word xs) (length xs)) [
  | inl lt ↦ absurd (true≢false (sym (ap (λ b. is_some (cond b (Some (position_or_len ends_word xs)) None)) (lt-ltb (position_or_len ends_word xs) (length xs) lt)) ∙ ap is_some e))
  | inr ge ↦ let most = prefix_len-le-length (λ x. not (ends_word x)) xs in omega (arith, ge, most)
]

-- ---- one byte

blank_or_not : (p q a : Bool) → (p || (q || not a)) ≡ true → a ≡ true → q ≡ false → p ≡ true
blank_or_not true q a h e f = refl
blank_or_not false true a h e f = sym f
blank_or_not false false true h e f = h
blank_or_not false false false h e f = e

pub in_word : (p q a : Bool) → (p || (q || not a)) ≡ false → (p ≡ false) × (q ≡ false) × (a ≡ true)
in_word true true true h = (h, h, refl)
in_word true true false h = (h, h, sym h)
in_word true false true h = (h, refl, refl)
in_word true false false h = (h, refl, sym h)
in_word false true true h = (refl, h, refl)
in_word false true false h = (refl, h, sym h)
in_word false false true h = (refl, refl, refl)
in_word false false false h = (refl, refl, sym h)

blank_is_no_sign : (x : ℕ) → is_blank x ≡ true → (x == 35) ≡ false
blank_is_no_sign x h = elim (or_cases (x == 32) (x == 9) h) [
  | inl e ↦ rw (eqb-true x 32 e) refl
  | inr e ↦ rw (eqb-true x 9 e) refl
]

blank_is_allowed : (x : ℕ) → is_blank x ≡ true → is_allowed x ≡ true
blank_is_allowed x h = elim (or_cases (x == 32) (x == 9) h) [
  | inl e ↦ rw (eqb-true x 32 e) refl
  | inr e ↦ rw (eqb-true x 9 e) refl
]

-- ---- a byte at the front

pub take_more : (n x : ℕ) (xs : List ℕ) → take (1 + n) (x ∷ xs) ≡ x ∷ take n xs
take_more n x xs = let e : 1 + n ≡ suc n = omega arith in rw e refl

no_comment_after : (x : ℕ) (xs : List ℕ) → (x == 35) ≡ true → without_comment (x ∷ xs) ≡ []
no_comment_after x xs e = rw e refl

no_comment_at : (x : ℕ) (xs : List ℕ) → (x == 35) ≡ false → without_comment (x ∷ xs) ≡ x ∷ without_comment xs
no_comment_at x xs e = rw e (take_more _ x xs)

pieces_sign : (x : ℕ) (xs : List ℕ) → (x == 35) ≡ true → pieces (x ∷ xs) ≡ [] ∷ []
pieces_sign x xs e = ap (slice_split is_blank) (no_comment_after x xs e)

pub pieces_blank : (x : ℕ) (xs : List ℕ) → is_blank x ≡ true → pieces (x ∷ xs) ≡ [] ∷ pieces xs
pieces_blank x xs h = ap (slice_split is_blank) (no_comment_at x xs (blank_is_no_sign x h)) ∙ slice_split-cons_yes is_blank x (without_comment xs) h

pub pieces_more : (x : ℕ) (xs : List ℕ) → ends_word x ≡ false → pieces (x ∷ xs) ≡ onto_first x (pieces xs)
pieces_more x xs goes =
    let parts = in_word (is_blank x) (x == 35) (is_allowed x) goes in
    ap (slice_split is_blank) (no_comment_at x xs parts.1) ∙ slice_split-cons_no is_blank x (without_comment xs) parts.0

pub len_end : (x : ℕ) (xs : List ℕ) → ends_word x ≡ true → len (x ∷ xs) ≡ 0
len_end x xs e = rw e refl

pub len_more : (x : ℕ) (xs : List ℕ) → ends_word x ≡ false → len (x ∷ xs) ≡ suc (len xs)
len_more x xs e = rw e (omega arith)

-- ---- a word at the front

abbrev pub Cut : ℕ → List ℕ → Type 0
Cut i xs = (pieces xs ≡ take i xs ∷ drop 1 (pieces (drop i xs))) × (words (drop i xs) ≡ kept (drop 1 (pieces (drop i xs))))

pub cut_here : (xs : List ℕ) (parts : List (List ℕ)) → pieces xs ≡ [] ∷ parts → Cut 0 xs
cut_here xs parts e =
    let whole : pieces xs ≡ [] ∷ drop 1 (pieces xs) = e ∙ ap (λ z. [] ∷ drop 1 z) (sym e) in
    (whole, ap kept whole)

pub cut_more : (i x : ℕ) (xs : List ℕ) → pieces (x ∷ xs) ≡ onto_first x (pieces xs) → Cut i xs → Cut (suc i) (x ∷ xs)
cut_more i x xs e cut = (e ∙ ap (onto_first x) cut.0, cut.1)

cut_at_end : (x : ℕ) (xs : List ℕ) → is_allowed x ≡ true → ends_word x ≡ true → Cut 0 (x ∷ xs)
cut_at_end x xs good ends = elim (cases_Bool (x == 35)) [
  | inl sign ↦ cut_here (x ∷ xs) [] (pieces_sign x xs sign)
  | inr goes ↦ cut_here (x ∷ xs) (pieces xs) (pieces_blank x xs (blank_or_not (is_blank x) (x == 35) (is_allowed x) ends good goes))
]

cut : (xs : List ℕ) → list_all is_allowed xs ≡ true → Cut (len xs) xs
cut [] h = (refl, refl)
cut (x ∷ xs) h =
    let good = and_parts (is_allowed x) (list_all is_allowed xs) h in
    elim (cases_Bool (ends_word x)) [
      | inl ends ↦ subst (λ i. Cut i (x ∷ xs)) (sym (len_end x xs ends)) (cut_at_end x xs good.0 ends)
      | inr goes ↦ subst (λ i. Cut i (x ∷ xs)) (sym (len_more x xs goes)) (cut_more (len xs) x xs (pieces_more x xs goes) (cut xs good.1))
    ]

pub kept_cons : (word : List ℕ) (parts : List (List ℕ)) → (length word == 0) ≡ false → kept (word ∷ parts) ≡ word ∷ kept parts
kept_cons word parts e = rw e refl

word_first : (x : ℕ) (xs : List ℕ) → ends_word x ≡ false → list_all is_allowed xs ≡ true
    → words (x ∷ xs) ≡ (x ∷ take (len xs) xs) ∷ words (drop (len xs) xs)
word_first x xs goes good =
    let both = cut_more (len xs) x xs (pieces_more x xs goes) (cut xs good) in
    ap kept both.0 ∙ kept_cons (x ∷ take (len xs) xs) (drop 1 (pieces (drop (len xs) xs))) (ne_eqb _ 0 (λ e. omega arith)) ∙ ap (λ ws. (x ∷ take (len xs) xs) ∷ ws) (sym both.1)

allowed_after : (xs : List ℕ) → list_all is_allowed (drop (len xs) xs) ≡ list_all is_allowed xs
allowed_after [] = refl
allowed_after (x ∷ xs) = elim (cases_Bool (ends_word x)) [
  | inl ends ↦ rw (len_end x xs ends) refl
  | inr goes ↦ rw (len_more x xs goes, (in_word (is_blank x) (x == 35) (is_allowed x) goes).2) (allowed_after xs)
]

-- ---- the loop

-- what was told of a line, and what is left of it
pub record IsLeft (told : List (Bor (List ℕ))) (left line : List ℕ) : Type 0 where
  pub allowed : list_all is_allowed left ≡ list_all is_allowed line
  pub words_told : list_all is_allowed left ≡ true → texts told ++ words left ≡ words line

-- a blank at the front is passed over
pub blank_left : (told : List (Bor (List ℕ))) (x : ℕ) (xs line : List ℕ) → is_blank x ≡ true → IsLeft told (x ∷ xs) line → IsLeft told xs line
blank_left told x xs line blank left =
    let same : list_all is_allowed (x ∷ xs) ≡ list_all is_allowed xs = rw (blank_is_allowed x blank) refl in
    record {
      allowed = sym same ∙ left.allowed;
      words_told = λ good. ap (λ ps. texts told ++ kept ps) (sym (pieces_blank x xs blank)) ∙ left.words_told (same ∙ good);
    }

word_told : (told : List (Bor (List ℕ))) (word : Bor (List ℕ)) (x : ℕ) (xs line : List ℕ) → ends_word x ≡ false
    → word.now ≡ x ∷ take (len xs) xs → IsLeft told (x ∷ xs) line → IsLeft (told ++ word ∷ []) (drop (len xs) xs) line
word_told told word x xs line goes is left =
    let same : list_all is_allowed (x ∷ xs) ≡ list_all is_allowed xs = rw ((in_word (is_blank x) (x == 35) (is_allowed x) goes).2) refl in
    record {
      allowed = allowed_after xs ∙ sym same ∙ left.allowed;
      words_told = λ good.
          let all : list_all is_allowed xs ≡ true = sym (allowed_after xs) ∙ good in
          ap (λ ws. ws ++ words (drop (len xs) xs)) (map_push (λ (w : Bor (List ℕ)). w.now) told word)
          ∙ append_assoc (texts told) (word.now ∷ []) (words (drop (len xs) xs))
          ∙ ap (λ w. texts told ++ w ∷ words (drop (len xs) xs)) is
          ∙ ap (λ ws. texts told ++ ws) (sym (word_first x xs goes all))
          ∙ left.words_told (same ∙ all);
    }

word_split : (told : List (Bor (List ℕ))) (word : Bor (List ℕ)) (xs line : List ℕ) → 1 ≤ len xs
    → word.now ≡ take (len xs) xs → IsLeft told xs line → IsLeft (told ++ word ∷ []) (drop (len xs) xs) line
word_split told word [] line some is left = absurd (omega (arith, some))
word_split told word (x ∷ xs) line some is left = elim (cases_Bool (ends_word x)) [
  | inl ends ↦ let none = len_end x xs ends in absurd (omega (arith, none, some))
  | inr goes ↦
      let more = len_more x xs goes in
      rw more (word_told told word x xs line goes (is ∙ ap (λ n. take n (x ∷ xs)) more) left)
]

-- a word that stands at the front is put into the list
pub take_word : (told now : List (Bor (List ℕ))) (word : Bor (List ℕ)) (n : ℕ) (xs line : List ℕ) → n ≡ len xs → 1 ≤ n → now ≡ told ++ word ∷ []
    → word.now ≡ take n xs → IsLeft told xs line → IsLeft now (drop n xs) line
take_word told now word n xs line e some more is left =
    rw (more, e) (word_split told word xs line (rw (← e) some) (is ∙ ap (λ k. take k xs) e) left)
