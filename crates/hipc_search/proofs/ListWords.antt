-- The words of a list, one behind the other, and the events that they say.
use Rattle.std.proofs.Common.{◌≡◌, ℕ, suc, ◌+◌, ◌≤◌, ◌<◌, List, [], ◌∷◌, ◌++◌, length, take, drop, Option, Some, None, Result, Ok, Err, refl, sym, ap, ◌∙◌, arith}
use Rattle.std.specs.Borrow.{Bor}
use Rattle.std.specs.Prelude.{IfSome, unwrap_or, slice_get, position}
use Rattle.std.specs.List.{position_or_len}
use Rattle.std.proofs.lemmas.Bool.{lt-leb, le-leb}
use Rattle.std.proofs.lemmas.List.{length-drop}
use Rattle.std.proofs.lemmas.List.Quantifiers.{position-Some}
use Rattle.std.proofs.lemmas.List.Splits.{slice_split_none, slice_split_first, length-slice_split}
use Rattle.std.proofs.lemmas.List.Sums.{fails_before_first}
use Rattle.ipc_ids.specs.declared.message.Event.{Event}
use Rattle.script_lines.specs.declared.fault.Reason.{Reason}
use Rattle.script_lines.specs.declared.fault.Reason.TheVariants.{TooMany}
use Rattle.script_lines.specs.Operation.{◌>>=◌}
use Rattle.script_lines.proofs.Lines.{here}
use Rattle.script_reader.specs.Reading.{lines_from, at_line}
use Rattle.script_reader.proofs.StepLines.{no_end}
use Rattle.search_goals.proofs.GoalWords.{found_at}
use Rattle.hipc_search.specs.declared.moves.Listed.{Listed}
use Rattle.hipc_search.specs.Moves.{event_in, with_listed, is_comma, words_of}

-- ---- the first word

-- no comma stands in the text: it is one word
pub last_piece : (text : List ℕ) → position is_comma text ≡ None → words_of text ≡ text ∷ []
last_piece text e =
    let whole : length text ≡ position_or_len is_comma text = no_end is_comma text e in
    slice_split_none is_comma text
    (λ (k : ℕ) (d : ℕ) (l : k < length text). fails_before_first is_comma text k d (omega arith))

-- a comma stands there: a word is before it, and others are behind it
pub first_piece : (text : List ℕ) (at : ℕ) → position is_comma text ≡ Some at
    → words_of text ≡ take at text ∷ words_of (drop (at + 1) text)
first_piece text at e =
    let place : at ≡ position_or_len is_comma text = (found_at is_comma text at e).0 in
    let within : at < length text = (position-Some is_comma text at 0 e).0 in
    slice_split_first is_comma text 0 (omega arith)
    ∙ ap (λ (i : ℕ). take i text ∷ words_of (drop (i + 1) text)) (sym place)

pub less_behind : (text : List ℕ) (at : ℕ) → position is_comma text ≡ Some at → length (drop (at + 1) text) < length text
less_behind text at e =
    let within : at < length text = (position-Some is_comma text at 0 e).0 in
    let long = length-drop (at + 1) text in
    omega (arith, within, long)

-- there is a first word
pub first_of : List ℕ → List ℕ
first_of text = unwrap_or (slice_get (words_of text) 0) []

pub others_of : List ℕ → List (List ℕ)
others_of text = drop 1 (words_of text)

some_words : (words : List (List ℕ)) → 1 ≤ length words → words ≡ unwrap_or (slice_get words 0) [] ∷ drop 1 words
some_words [] l = absurd (omega (arith, l))
some_words (w ∷ ws) l = refl

pub cut_is : (text : List ℕ) → words_of text ≡ first_of text ∷ others_of text
unfolding first_of others_of
cut_is text =
    some_words (words_of text) (let long = length-slice_split is_comma text in omega (arith, long))

-- how many bytes are left, with one for the word that they begin
abbrev pub bytes_left : Option (List ℕ) → ℕ
bytes_left None = 0
bytes_left (Some text) = suc (length text)

-- the words behind one have fewer
pub less_left : (text : List ℕ) (others : Option (Bor (List ℕ))) → IfSome others (λ t. length t.now < length text)
    → bytes_left (here others) < bytes_left (Some text)
less_left text None h = omega arith
less_left text (Some t) h = omega (arith, h)

-- ---- the event of a word

abbrev pub Told : Type 0
Told = Result (List Event) (ℕ × Reason)

module _ (kind : Listed) (names : List (List ℕ)) (n : ℕ) (so_far : List Event) (word : List ℕ)
    (words all : List (List ℕ)) (whole : Told) (is : all ≡ word ∷ words)
    (told : lines_from (with_listed kind names) n so_far all ≡ whole) where
  by : (r : Result (List Event) Reason) → with_listed kind names so_far word ≡ r
      → at_line n r (λ next. lines_from (with_listed kind names) (n + 1) next words) ≡ whole
  by r e =
      ap (λ (z : Result (List Event) Reason). at_line n z (λ next. lines_from (with_listed kind names) (n + 1) next words))
      (sym e)
      ∙ ap (lines_from (with_listed kind names) n so_far) (sym is) ∙ told

  room : length so_far < 4096 → (r : Result Event Reason) → event_in kind names word ≡ r
      → with_listed kind names so_far word ≡ (r >>= λ event. Ok (so_far ++ event ∷ []))
  unfolding with_listed
  room l r e =
      rw (lt-leb 4096 (length so_far) l)
      (ap (λ (z : Result Event Reason). z >>= λ event. Ok (so_far ++ event ∷ [])) e)

  -- an event more
  pub event_listed : length so_far < 4096 → (event : Event) → event_in kind names word ≡ Ok event
      → lines_from (with_listed kind names) (n + 1) (so_far ++ event ∷ []) words ≡ whole
  event_listed l event e = by (Ok (so_far ++ event ∷ [])) (room l (Ok event) e)

  -- a word at fault
  pub fault_listed : length so_far < 4096 → (reason : Reason) → event_in kind names word ≡ Err reason
      → whole ≡ Err (n, reason)
  fault_listed l reason e = sym (by (Err reason) (room l (Err reason) e))

  full : 4096 ≤ length so_far → with_listed kind names so_far word ≡ Err TooMany
  unfolding with_listed
  full l = rw (le-leb 4096 (length so_far) l) refl

  -- a word too many
  pub one_too_many : 4096 ≤ length so_far → whole ≡ Err (n, TooMany)
  one_too_many l = sym (by (Err TooMany) (full l))

-- ---- one word of a list, whatever it adds

module _ {A : Type 0} (after : A → List ℕ → Result A Reason) (n : ℕ) (x : A) (word : List ℕ) (words all : List (List ℕ))
    (whole : Result A (ℕ × Reason)) (is : all ≡ word ∷ words) (told : lines_from after n x all ≡ whole) where
  said : (r : Result A Reason) → after x word ≡ r → at_line n r (λ next. lines_from after (n + 1) next words) ≡ whole
  said r e =
      ap (λ (z : Result A Reason). at_line n z (λ next. lines_from after (n + 1) next words)) (sym e)
      ∙ ap (lines_from after n x) (sym is) ∙ told

  pub word_added : (y : A) → after x word ≡ Ok y → lines_from after (n + 1) y words ≡ whole
  word_added y e = said (Ok y) e

  pub word_at_fault : (reason : Reason) → after x word ≡ Err reason → whole ≡ Err (n, reason)
  word_at_fault reason e = sym (said (Err reason) e)

pub line_ok : {A : Type 0} (n : ℕ) (r : Result A Reason) (go : A → Result A (ℕ × Reason)) (y : A)
    → at_line n r go ≡ Ok y → (x : A) × (r ≡ Ok x) × (go x ≡ Ok y)
line_ok n (Ok x) go y e = (x, refl, e)
line_ok n (Err reason) go y e = absurd cc
