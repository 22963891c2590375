-- A step in its usual form: its bytes, its words, and what the definitions say of it.
use Rattle.std.proofs.Common.{◌≡◌, ℕ, suc, ◌≤◌, Bool, true, false, cond, not, ◌||◌, List, [], ◌∷◌, ◌++◌, length, take, slice_index, Some, None, refl, sym, ap, subst, ◌∙◌, inl, inr, arith, le-leb, leb-true, eqb-true, ne_eqb, le-ltb}
use Rattle.std.specs.Prelude.{◌==◌, is_some, position, codes}
use Rattle.std.specs.List.{list_all, position_or_len, onto_first}
use Rattle.std.specs.Char.{is_ascii_digit, is_ascii_lowercase}
use Rattle.std.proofs.lemmas.Bool.{cases_Bool, and_parts, or_cases, cases_lt, lt-ltb, true≢false, not-true}
use Rattle.std.proofs.lemmas.List.Sums.{prefix_len-le-length}
use Rattle.std.proofs.lemmas.Option.{same_Some}
use Rattle.ipc_ids.specs.Digits.{in_base}
use Rattle.script_lines.specs.Text.{is_allowed, is_blank, ends_word, first_line, behind, words}
use Rattle.script_lines.specs.Word.{is_name, is_name_byte, number}
use Rattle.script_lines.specs.Operation.{◌>>=◌}
use Rattle.script_reader.specs.Schedule.{count_of, step_with, step_of, event_verb_of}
use Rattle.script_reader.specs.EventLine.{EventsAndNames, with_repeated, after_event_words, after_event_line}
use Rattle.script_reader.specs.StepLine.{IsCounted, EndsStep, SaysSteps}
use Rattle.script_lines.proofs.Words.{pieces, kept, in_word, pieces_blank, pieces_more, kept_cons}
use Rattle.script_lines.proofs.Lines.{first_end, first_more, behind_end, behind_more, feed_ends}

-- ---- bytes at the front that pass a test

-- where no byte stops it, it has all bytes
pub no_end : (p : ℕ → Bool) (xs : List ℕ) → position p xs ≡ None → length xs ≡ position_or_len p xs
no_end p xs e = elim (cases_lt (position_or_len p xs) (length xs)) [
  | inl lt ↦ absurd (true≢false (sym (ap (λ b. is_some (cond b (Some (position_or_len p xs)) None)) (lt-ltb (position_or_len p xs) (length xs) lt)) ∙ ap is_some e))
  | inr ge ↦ let most = prefix_len-le-length (λ x. not (p x)) xs in omega (arith, ge, most)
]

one_more : (p : ℕ → Bool) (x : ℕ) (xs : List ℕ) → p x ≡ true → position_or_len (λ b. not (p b)) (x ∷ xs) ≡ suc (position_or_len (λ b. not (p b)) xs)
one_more p x xs e = rw e (omega arith)

no_more : (p : ℕ → Bool) (x : ℕ) (xs : List ℕ) → p x ≡ false → position_or_len (λ b. not (p b)) (x ∷ xs) ≡ 0
no_more p x xs e = rw e refl

front : (p : ℕ → Bool) (xs : List ℕ) → list_all p (take (position_or_len (λ b. not (p b)) xs) xs) ≡ true
front p [] = refl
front p (x ∷ xs) = elim (cases_Bool (p x)) [
  | inl e ↦ rw (one_more p x xs e) (rw e (front p xs))
  | inr e ↦ rw (no_more p x xs e) refl
]

-- the bytes before the place that was found pass, and where none was found all do
found_front : (p : ℕ → Bool) (xs : List ℕ) (at : ℕ) → position (λ b. not (p b)) xs ≡ Some at → (list_all p (take at xs) ≡ true) × (at ≤ length xs)
found_front p xs at e =
    let q : ℕ → Bool = λ b. not (p b) in
    elim (cases_lt (position_or_len q xs) (length xs)) [
      | inl lt ↦
          let found : position q xs ≡ Some (position_or_len q xs) = rw (lt-ltb (position_or_len q xs) (length xs) lt) refl in
          let same : position_or_len q xs ≡ at = same_Some (position_or_len q xs) at (sym found ∙ e) in
          (subst (λ n. list_all p (take n xs) ≡ true) same (front p xs), omega (arith, same, lt))
      | inr ge ↦
          let none : position q xs ≡ None = rw (le-ltb (position_or_len q xs) (length xs) ge) refl in
          absurd (true≢false (ap is_some (sym e ∙ none)))
    ]

all_front : (p : ℕ → Bool) (xs : List ℕ) → position (λ b. not (p b)) xs ≡ None → list_all p (take (length xs) xs) ≡ true
all_front p xs e = subst (λ n. list_all p (take n xs) ≡ true) (sym (no_end (λ b. not (p b)) xs e)) (front p xs)

pub name_front : (xs : List ℕ) (at : ℕ) → position (λ b. not (is_name_byte b)) xs ≡ Some at → (list_all is_name_byte (take at xs) ≡ true) × (at ≤ length xs)
name_front xs at e = found_front is_name_byte xs at e

pub no_name_end : (xs : List ℕ) → position (λ b. not (is_name_byte b)) xs ≡ None → list_all is_name_byte (take (length xs) xs) ≡ true
no_name_end xs e = all_front is_name_byte xs e

-- a name, by its parts
pub name_is : (w : List ℕ) → is_ascii_lowercase (slice_index w 0) ≡ true → length w ≤ 15 → list_all is_name_byte w ≡ true → is_name w ≡ true
unfolding is_name
name_is w first short all = rw (first, le-leb (length w) 15 short, all) refl

-- ---- bytes of a word

abbrev goes : ℕ → Bool
goes b = not (ends_word b)

-- each byte that passes is one of a word
abbrev IsOfWords : (ℕ → Bool) → Type 0
IsOfWords p = (b : ℕ) → p b ≡ true → ends_word b ≡ false

goes_on : IsOfWords goes
goes_on b h = not-true (ends_word b) h

pub between : (b : ℕ) → 48 ≤ b → b ≤ 122 → ends_word b ≡ false
between b lo hi = rw (ne_eqb b 32 (λ e. omega (arith, e, lo)), ne_eqb b 9 (λ e. omega (arith, e, lo)), ne_eqb b 35 (λ e. omega (arith, e, lo)), le-leb 32 b (omega (arith, lo)), le-leb b 126 (omega (arith, hi))) refl

digit_goes : IsOfWords is_ascii_digit
digit_goes b h =
    let parts = and_parts _ _ h in
    between b (leb-true 48 b parts.0) (let hi = leb-true b 57 parts.1 in omega (arith, hi))

pub lower_goes : (b : ℕ) → is_ascii_lowercase b ≡ true → ends_word b ≡ false
lower_goes b h =
    let parts = and_parts _ _ h in
    between b (let lo = leb-true 97 b parts.0 in omega (arith, lo)) (leb-true b 122 parts.1)

name_goes : IsOfWords is_name_byte
name_goes b h = elim (or_cases (is_ascii_lowercase b || is_ascii_digit b) (b == 95) h) [
  | inl known ↦ elim (or_cases (is_ascii_lowercase b) (is_ascii_digit b) known) [
    | inl lower ↦ lower_goes b lower
    | inr digit ↦ digit_goes b digit
  ]
  | inr line ↦ rw (eqb-true b 95 line) refl
]

-- ---- such bytes at the front of a text

first_front : (p : ℕ → Bool) → IsOfWords p → (w r : List ℕ) → list_all p w ≡ true → first_line (w ++ r) ≡ w ++ first_line r
first_front p each [] r h = refl
first_front p each (x ∷ w) r h =
    let parts = and_parts (p x) (list_all p w) h in
    first_more x (w ++ r) (feed_ends x (each x parts.0)) ∙ ap (λ l. x ∷ l) (first_front p each w r parts.1)

behind_front : (p : ℕ → Bool) → IsOfWords p → (w r : List ℕ) → list_all p w ≡ true → behind (w ++ r) ≡ behind r
behind_front p each [] r h = refl
behind_front p each (x ∷ w) r h =
    let parts = and_parts (p x) (list_all p w) h in
    behind_more x (w ++ r) (feed_ends x (each x parts.0)) ∙ behind_front p each w r parts.1

allowed_front : (p : ℕ → Bool) → IsOfWords p → (w q : List ℕ) → list_all p w ≡ true → list_all is_allowed (w ++ q) ≡ list_all is_allowed q
allowed_front p each [] q h = refl
allowed_front p each (x ∷ w) q h =
    let parts = and_parts (p x) (list_all p w) h in
    rw ((in_word (is_blank x) (x == 35) (is_allowed x) (each x parts.0)).2) (allowed_front p each w q parts.1)

pieces_front : (p : ℕ → Bool) → IsOfWords p → (w q : List ℕ) (ps : List (List ℕ)) → list_all p w ≡ true → pieces q ≡ [] ∷ ps → pieces (w ++ q) ≡ w ∷ ps
pieces_front p each [] q ps h e = e
pieces_front p each (x ∷ w) q ps h e =
    let parts = and_parts (p x) (list_all p w) h in
    pieces_more x (w ++ q) (each x parts.0) ∙ ap (onto_first x) (pieces_front p each w q ps parts.1 e)

kept_word : (w : List ℕ) (ps : List (List ℕ)) → 1 ≤ length w → kept (w ∷ ps) ≡ w ∷ kept ps
kept_word w ps some = kept_cons w ps (ne_eqb (length w) 0 (λ e. omega (arith, e, some)))

-- ---- what stands behind the name

record Tail (r : List ℕ) (count : ℕ) (others : List ℕ) : Type 0 where
  ps : List (List ℕ)
  cut : pieces (first_line r) ≡ [] ∷ ps
  clean : list_all is_allowed (first_line r) ≡ true
  told : (names : List (List ℕ)) (name : List ℕ) → step_of names (name ∷ kept ps) ≡ step_with names name (Some count)
  left : behind r ≡ Some others

one_told : (names : List (List ℕ)) (name : List ℕ) → step_of names (name ∷ []) ≡ step_with names name (Some 1)
unfolding step_of
one_told names name = refl

counted_told : (names : List (List ℕ)) (name digits : List ℕ) → step_of names (name ∷ codes "x" ∷ digits ∷ []) ≡ step_with names name (count_of (codes "x") digits)
unfolding step_of
counted_told names name digits = refl

tail_end : (others : List ℕ) → Tail (10 ∷ others) 1 others
tail_end others = record {
  ps = [];
  cut = ap pieces (first_end 10 others refl);
  clean = ap (list_all is_allowed) (first_end 10 others refl);
  told = one_told;
  left = behind_end 10 others refl;
}

-- no digits are no count
some_digits : (digits : List ℕ) (n : ℕ) → count_of (codes "x") digits ≡ Some n → 1 ≤ length digits
unfolding count_of number in_base
some_digits [] n e = absurd cc
some_digits (x ∷ xs) n e = omega arith

counted_line : (digits others : List ℕ) → list_all is_ascii_digit digits ≡ true
    → first_line (codes " x " ++ (digits ++ 10 ∷ others)) ≡ codes " x " ++ (digits ++ [])
counted_line digits others all =
    let end = first_front is_ascii_digit digit_goes digits (10 ∷ others) all ∙ ap (λ l. digits ++ l) (first_end 10 others refl) in
    first_more 32 (120 ∷ 32 ∷ (digits ++ 10 ∷ others)) refl
    ∙ ap (λ l. 32 ∷ l) (first_more 120 (32 ∷ (digits ++ 10 ∷ others)) refl
    ∙ ap (λ l. 120 ∷ l) (first_more 32 (digits ++ 10 ∷ others) refl ∙ ap (λ l. 32 ∷ l) end))

counted_pieces : (digits : List ℕ) → list_all is_ascii_digit digits ≡ true → pieces (codes " x " ++ (digits ++ [])) ≡ [] ∷ codes "x" ∷ digits ∷ []
counted_pieces digits all =
    let d = digits ++ [] in
    pieces_blank 32 (120 ∷ 32 ∷ d) refl
    ∙ ap (λ ps. [] ∷ ps) (pieces_front goes goes_on (codes "x") (32 ∷ d) (pieces d) refl (pieces_blank 32 d refl)
    ∙ ap (λ ps. codes "x" ∷ ps) (pieces_front is_ascii_digit digit_goes digits [] [] all refl))

tail_counted : (r : List ℕ) (n : ℕ) (others : List ℕ) → IsCounted r n others → Tail r n others
tail_counted r n others c =
    let line : first_line r ≡ codes " x " ++ (c.digits ++ []) = ap first_line c.parts ∙ counted_line c.digits others c.are_digits in
    let rest = c.digits ++ 10 ∷ others in
    record {
      ps = codes "x" ∷ c.digits ∷ [];
      cut = ap pieces line ∙ counted_pieces c.digits c.are_digits;
      clean = ap (list_all is_allowed) line ∙ allowed_front is_ascii_digit digit_goes c.digits [] c.are_digits;
      told = λ names name.
          ap (λ ws. step_of names (name ∷ ws)) (kept_cons (codes "x") (c.digits ∷ []) refl ∙ ap (λ ws. codes "x" ∷ ws) (kept_word c.digits [] (some_digits c.digits n c.counted)))
          ∙ counted_told names name c.digits ∙ ap (step_with names name) c.counted;
      left = ap behind c.parts ∙ behind_more 32 (120 ∷ 32 ∷ rest) refl ∙ behind_more 120 (32 ∷ rest) refl ∙ behind_more 32 rest refl
          ∙ behind_front is_ascii_digit digit_goes c.digits (10 ∷ others) c.are_digits ∙ behind_end 10 others refl;
    }

-- ---- the whole line

-- a name is not empty, and its bytes are those of names
name_parts : (name : List ℕ) → is_name name ≡ true → (1 ≤ length name) × (list_all is_name_byte name ≡ true)
unfolding is_name
name_parts [] h = absurd cc
name_parts (x ∷ xs) h = (omega arith, (and_parts _ (list_all is_name_byte (x ∷ xs)) h).1)

-- the first line, where it stands between its words
line_is : (name r : List ℕ) → list_all is_name_byte name ≡ true → first_line (codes "step " ++ (name ++ r)) ≡ codes "step " ++ (name ++ first_line r)
line_is name r all =
    first_front goes goes_on (codes "step") (32 ∷ (name ++ r)) refl
    ∙ ap (λ l. codes "step" ++ l) (first_more 32 (name ++ r) refl ∙ ap (λ l. 32 ∷ l) (first_front is_name_byte name_goes name r all))

words_are : (name q : List ℕ) (ps : List (List ℕ)) → 1 ≤ length name → list_all is_name_byte name ≡ true → pieces q ≡ [] ∷ ps
    → words (codes "step " ++ (name ++ q)) ≡ codes "step" ∷ name ∷ kept ps
words_are name q ps some all cut =
    let behind_step = pieces_front is_name_byte name_goes name q ps all cut in
    ap kept (pieces_front goes goes_on (codes "step") (32 ∷ (name ++ q)) (pieces (name ++ q)) refl (pieces_blank 32 (name ++ q) refl))
    ∙ kept_cons (codes "step") (pieces (name ++ q)) refl
    ∙ ap (λ ws. codes "step" ∷ ws) (ap kept behind_step ∙ kept_word name ps some)

chosen : {A : Type 0} (b : Bool) (x y : A) → b ≡ true → cond b x y ≡ x
chosen b x y e = rw e refl

line_says : (templates : List (List ℕ)) (before : EventsAndNames) (line : List ℕ) → list_all is_allowed line ≡ true → after_event_line templates before line ≡ after_event_words templates before (words line)
unfolding after_event_line
line_says templates before line clean = chosen (list_all is_allowed line) _ _ clean

pub step_says : (templates : List (List ℕ)) (before : EventsAndNames) (others : List (List ℕ)) → after_event_words templates before (codes "step" ∷ others) ≡ (step_of before.names others >>= with_repeated before)
unfolding event_verb_of
step_says templates before others = refl

says : (name r : List ℕ) (n : ℕ) (others : List ℕ) → is_name name ≡ true → Tail r n others → SaysSteps (codes "step " ++ (name ++ r)) name n others
says name r n others named tail =
    let parts = name_parts name named in
    let line = line_is name r parts.1 in
    record {
      said = λ templates before.
          ap (after_event_line templates before) line
          ∙ line_says templates before (codes "step " ++ (name ++ first_line r)) (allowed_front is_name_byte name_goes name (first_line r) parts.1 ∙ tail.clean)
          ∙ ap (after_event_words templates before) (words_are name (first_line r) tail.ps parts.0 parts.1 tail.cut)
          ∙ step_says templates before (name ∷ kept tail.ps)
          ∙ ap (λ s. s >>= with_repeated before) (tail.told before.names name);
      left = behind_front goes goes_on (codes "step") (32 ∷ (name ++ r)) refl ∙ behind_more 32 (name ++ r) refl ∙ behind_front is_name_byte name_goes name r parts.1 ∙ tail.left;
      named = named;
    }

-- what stands behind the name
tail_ends : (r : List ℕ) (n : ℕ) (others : List ℕ) → EndsStep r n others → Tail r n others
tail_ends r n others (inl once) = subst (λ (k : ℕ). Tail r k others) (sym once.1) (subst (λ (t : List ℕ). Tail t 1 others) (sym once.0) (tail_end others))
tail_ends r n others (inr counted) = tail_counted r n others counted

-- what was cut off at the front says it all
pub ends_says : (text rest name r : List ℕ) (n : ℕ) (others : List ℕ) → text ≡ codes "step " ++ rest → rest ≡ name ++ r → is_name name ≡ true → EndsStep r n others → SaysSteps text name n others
ends_says text rest name r n others e f named ends =
    subst (λ (t : List ℕ). SaysSteps t name n others) (sym (e ∙ ap (λ l. codes "step " ++ l) f)) (says name r n others named (tail_ends r n others ends))
