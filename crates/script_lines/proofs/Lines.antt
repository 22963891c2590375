-- The lines of a text, from its first byte on.
use Rattle.std.proofs.Common.{◌≡◌, ℕ, suc, ◌+◌, ◌<◌, ◌≤◌, Bool, true, false, List, [], ◌∷◌, ◌++◌, length, take, drop, slice_index, Option, Some, None, refl, sym, ap, subst, ◌∙◌, inl, inr, arith}
use Rattle.std.specs.Prelude.{◌==◌, is_some, unwrap_or, position}
use Rattle.std.specs.Borrow.{Bor}
use Rattle.std.specs.Option.{option_map}
use Rattle.std.specs.List.{onto_first, position_or_len}
use Rattle.std.proofs.lemmas.Bool.{cases_Bool, cases_lt, lt-ltb, le-ltb, eqb-true, true≢false}
use Rattle.std.proofs.lemmas.List.{length-drop}
use Rattle.std.proofs.lemmas.List.Splits.{slice_split-cons_yes, slice_split-cons_no}
use Rattle.script_lines.specs.Text.{is_blank, ends_word, first_line, behind, after_space, lines}
use Rattle.script_lines.proofs.Words.{IsLeft, len, len_end, len_more, take_more, take_word, blank_left}

abbrev is_feed : ℕ → Bool
is_feed b = b == 10

-- the lines of what is left, if something is
abbrev pub lines_of : Option (List ℕ) → List (List ℕ)
lines_of None = []
lines_of (Some text) = lines text

-- how many bytes are left, with one for the line that they begin
abbrev pub size_of : Option (List ℕ) → ℕ
size_of None = 0
size_of (Some text) = suc (length text)

-- ---- a byte at the front

pub first_end : (x : ℕ) (xs : List ℕ) → (x == 10) ≡ true → first_line (x ∷ xs) ≡ []
first_end x xs e = rw e refl

pub first_more : (x : ℕ) (xs : List ℕ) → (x == 10) ≡ false → first_line (x ∷ xs) ≡ x ∷ first_line xs
first_more x xs e = rw e (take_more _ x xs)

pub behind_end : (x : ℕ) (xs : List ℕ) → (x == 10) ≡ true → behind (x ∷ xs) ≡ Some xs
behind_end x xs e = rw e refl

pub behind_more : (x : ℕ) (xs : List ℕ) → (x == 10) ≡ false → behind (x ∷ xs) ≡ behind xs
behind_more x xs e = rw e refl

-- ---- a line at the front

pub lines_cut : (text : List ℕ) → lines text ≡ first_line text ∷ lines_of (behind text)
lines_cut [] = refl
lines_cut (x ∷ xs) = elim (cases_Bool (x == 10)) [
  | inl e ↦ rw (first_end x xs e, behind_end x xs e) (slice_split-cons_yes is_feed x xs e)
  | inr e ↦ rw (first_more x xs e, behind_more x xs e) (slice_split-cons_no is_feed x xs e ∙ ap (onto_first x) (lines_cut xs))
]

pub behind_is_less : (text : List ℕ) → size_of (behind text) ≤ length text
behind_is_less [] = omega arith
behind_is_less (x ∷ xs) = elim (cases_Bool (x == 10)) [
  | inl e ↦ rw (behind_end x xs e) (omega arith)
  | inr e ↦ rw (behind_more x xs e) (omega (arith, behind_is_less xs))
]

-- ---- the place of the first line feed

abbrev place : List ℕ → ℕ
place text = position_or_len is_feed text

place_end : (x : ℕ) (xs : List ℕ) → (x == 10) ≡ true → place (x ∷ xs) ≡ 0
place_end x xs e = rw e refl

place_more : (x : ℕ) (xs : List ℕ) → (x == 10) ≡ false → place (x ∷ xs) ≡ suc (place xs)
place_more x xs e = rw e (omega arith)

behind_place : (text : List ℕ) → place text < length text → behind text ≡ Some (drop (suc (place text)) text)
behind_place [] h = absurd (omega (arith, h))
behind_place (x ∷ xs) h = elim (cases_Bool (x == 10)) [
  | inl e ↦ rw (behind_end x xs e, place_end x xs e) refl
  | inr e ↦ rw (behind_more x xs e, place_more x xs e) (behind_place xs (omega (arith, place_more x xs e, h)))
]

nothing_behind : (text : List ℕ) → length text ≤ place text → behind text ≡ None
nothing_behind [] h = refl
nothing_behind (x ∷ xs) h = elim (cases_Bool (x == 10)) [
  | inl e ↦ absurd (omega (arith, place_end x xs e, h))
  | inr e ↦ rw (behind_more x xs e) (nothing_behind xs (omega (arith, place_more x xs e, h)))
]

found : (text : List ℕ) → place text < length text → position is_feed text ≡ Some (place text)
found text h = rw (lt-ltb (place text) (length text) h) refl

not_found : (text : List ℕ) → length text ≤ place text → position is_feed text ≡ None
not_found text h = rw (le-ltb (place text) (length text) h) refl

pub feed_found : (text : List ℕ) (at : ℕ) → position is_feed text ≡ Some at → behind text ≡ Some (drop (at + 1) text)
feed_found text at e = elim (cases_lt (place text) (length text)) [
  | inl lt ↦
      let same : place text ≡ at = ap (λ o. unwrap_or o 0) (sym (found text lt) ∙ e) in
      let next : suc (place text) ≡ at + 1 = omega (arith, same) in
      behind_place text lt ∙ ap (λ n. Some (drop n text)) next
  | inr ge ↦ absurd (true≢false (ap is_some (sym e ∙ not_found text ge)))
]

pub no_feed : (text : List ℕ) → position is_feed text ≡ None → behind text ≡ None
no_feed text e = elim (cases_lt (place text) (length text)) [
  | inl lt ↦ absurd (true≢false (ap is_some (sym (found text lt) ∙ e)))
  | inr ge ↦ nothing_behind text ge
]

-- ---- a word at the front

-- a word at the front of a text stands at the front of its first line
record SameWord (xs : List ℕ) : Type 0 where
  long : len (first_line xs) ≡ len xs
  word : take (len xs) (first_line xs) ≡ take (len xs) xs
  left : first_line (drop (len xs) xs) ≡ drop (len xs) (first_line xs)
  others : behind (drop (len xs) xs) ≡ behind xs

pub feed_ends : (x : ℕ) → ends_word x ≡ false → (x == 10) ≡ false
feed_ends x goes = elim (cases_Bool (x == 10)) [
  | inl e ↦ absurd (true≢false (sym (ap ends_word (eqb-true x 10 e)) ∙ goes))
  | inr e ↦ e
]

word_ends : (x : ℕ) (xs : List ℕ) → ends_word x ≡ true → SameWord (x ∷ xs)
word_ends x xs ends =
    let none : len (x ∷ xs) ≡ 0 = len_end x xs ends in
    record {
      long = elim (cases_Bool (x == 10)) [
        | inl e ↦ rw (first_end x xs e, none) refl
        | inr e ↦ rw (first_more x xs e, none) (len_end x (first_line xs) ends)
      ];
      word = rw none refl;
      left = rw none refl;
      others = rw none refl;
    }

word_goes : (x : ℕ) (xs : List ℕ) → ends_word x ≡ false → SameWord xs → SameWord (x ∷ xs)
word_goes x xs goes same =
    let e : (x == 10) ≡ false = feed_ends x goes in
    let more : len (x ∷ xs) ≡ suc (len xs) = len_more x xs goes in
    record {
      long = rw (first_more x xs e, more) (len_more x (first_line xs) goes ∙ ap suc same.long);
      word = rw (first_more x xs e, more) (ap (λ ys. x ∷ ys) same.word);
      left = rw (first_more x xs e, more) same.left;
      others = rw (behind_more x xs e, more) same.others;
    }

same_word : (xs : List ℕ) → SameWord xs
same_word [] = record { long = refl; word = refl; left = refl; others = refl }
same_word (x ∷ xs) = elim (cases_Bool (ends_word x)) [
  | inl ends ↦ word_ends x xs ends
  | inr goes ↦ word_goes x xs goes (same_word xs)
]

-- ---- the loop

-- what was told of the first line, and what is left of the text
pub record IsAt (told : List (Bor (List ℕ))) (left text : List ℕ) : Type 0 where
  pub line : IsLeft told (first_line left) (first_line text)
  pub others : behind left ≡ behind text
  pub short : length left ≤ length text

blank_step : (told : List (Bor (List ℕ))) (x : ℕ) (xs text : List ℕ) → is_blank x ≡ true → (x == 10) ≡ false → IsAt told (x ∷ xs) text → IsAt told xs text
blank_step told x xs text blank e at = record {
  line = blank_left told x (first_line xs) (first_line text) blank (subst (λ ls. IsLeft told ls (first_line text)) (first_more x xs e) at.line);
  others = sym (behind_more x xs e) ∙ at.others;
  short = omega (arith, at.short);
}

-- a blank is passed over
pub pass_blank : (told : List (Bor (List ℕ))) (x : ℕ) (xs text : List ℕ) → is_blank x ≡ true → IsAt told (x ∷ xs) text → IsAt told xs text
pass_blank told x xs text blank at = elim (cases_Bool (x == 10)) [
  | inl e ↦ absurd (true≢false (sym blank ∙ ap is_blank (eqb-true x 10 e)))
  | inr e ↦ blank_step told x xs text blank e at
]

pub pass_space : (told : List (Bor (List ℕ))) (left text : List ℕ) → IsAt told left text → IsAt told (after_space left) text
pass_space told [] text at = at
pass_space told (x ∷ xs) text at = elim (cases_Bool (x == 32)) [
  | inl e ↦ rw e (pass_blank told x xs text (ap is_blank (eqb-true x 32 e)) at)
  | inr e ↦ rw e at
]

-- a word is put into the list
pub word_step : (told now : List (Bor (List ℕ))) (word : Bor (List ℕ)) (n x : ℕ) (xs text : List ℕ) → ends_word x ≡ false → n ≡ 1 + len xs
    → now ≡ told ++ word ∷ [] → word.now ≡ take n (x ∷ xs) → IsAt told (x ∷ xs) text → IsAt now (drop n (x ∷ xs)) text
word_step told now word n x xs text goes e more is at =
    let all : n ≡ len (x ∷ xs) = omega (arith, e, len_more x xs goes) in
    let same : SameWord (x ∷ xs) = same_word (x ∷ xs) in
    let front : word.now ≡ take (len (x ∷ xs)) (first_line (x ∷ xs)) = rw all at is ∙ sym same.word in
    rw all record {
      line = rw same.left (take_word told now word (len (x ∷ xs)) (first_line (x ∷ xs)) (first_line text) (sym same.long) (omega (arith, len_more x xs goes)) more front at.line);
      others = same.others ∙ at.others;
      short = omega (arith, at.short, length-drop (len (x ∷ xs)) (x ∷ xs));
    }

-- ---- the same, for a text that is not empty

pub pass_blank_at : (told : List (Bor (List ℕ))) (left text : List ℕ) → 1 ≤ length left → is_blank (slice_index left 0) ≡ true → IsAt told left text → IsAt told (drop 1 left) text
pass_blank_at told [] text some blank at = absurd (omega (arith, some))
pass_blank_at told (x ∷ xs) text some blank at = pass_blank told x xs text blank at

pub word_at : (told now : List (Bor (List ℕ))) (word : Bor (List ℕ)) (n : ℕ) (left text : List ℕ) → 1 ≤ length left → ends_word (slice_index left 0) ≡ false
    → n ≡ 1 + len (drop 1 left) → now ≡ told ++ word ∷ [] → word.now ≡ take n left → IsAt told left text → IsAt now (after_space (drop n left)) text
word_at told now word n [] text some goes e more is at = absurd (omega (arith, some))
word_at told now word n (x ∷ xs) text some goes e more is at =
    pass_space now (drop n (x ∷ xs)) text (word_step told now word n x xs text goes e more is at)

-- ---- the line that is taken

-- what is left, as bytes
abbrev pub here : Option (Bor (List ℕ)) → Option (List ℕ)
here left = option_map (λ text. text.now) left

pub less_left : (text : List ℕ) (others : Option (List ℕ)) → others ≡ behind text → size_of others ≤ length text
less_left text others e = rw e (behind_is_less text)
