-- The line of each entry has one of the shapes.
use Rattle.std.proofs.Common.{◌≡◌, ℕ, Bool, true, false, not, List, [], ◌∷◌, ◌++◌, length, None, Ok, refl, sym, ap, subst, ◌∙◌, inl, inr, append_assoc}
use Rattle.std.specs.Prelude.{◌==◌, ◌&&◌, ◌||◌, ◌+◌, codes, decimal, slice_index}
use Rattle.std.specs.Cmp.Lexicographic.{pointwise}
use Rattle.std.specs.List.{list_any}
use Rattle.std.specs.Str.{bytes_eq}
use Rattle.std.proofs.lemmas.Bool.{and_parts, and_from, or_cases, or_left, or_right, false_from_ne_true, both_ways}
use Rattle.std.proofs.lemmas.Slice.Eq.{bytes_eq-Decides, slice_eq-Decides}
use Rattle.ipc_ids.specs.declared.entry.Entry.{Entry}
use Rattle.ipc_ids.specs.declared.entry.Entry.TheVariants as entry
use Rattle.ipc_ids.specs.declared.message.ExchangeMode.TheVariants.{Atomic}
use Rattle.ipc_ids.specs.declared.message.Mode.TheVariants.{Plain, Route}
use Rattle.ipc_ids.specs.declared.message.Outcome.TheVariants as got
use Rattle.ipc_ids.specs.declared.message.PhoneState.TheVariants as phone
use Rattle.ipc_ids.specs.declared.message.Request.TheVariants as ask
use Rattle.ipc_ids.specs.declared.message.Why.TheVariants as why
use Rattle.script_reader.specs.Reading.{lines_from}
use Rattle.trace_print.specs.Text.{text_of_entry}
use Rattle.trace_reader.specs.Line.{Piece, Word, Number, Small, Task, Phone, Fibril, Answer, Refusal, Args, Bytes, words, words_of, pieces_of}
use Rattle.trace_reader.proofs.Joined.{is_joined}
use Rattle.search_goals.specs.Goals.{text_words, fits, begins, entry_fits}
use Rattle.search_goals.specs.GoalText.{with_word}
use Rattle.search_goals.specs.LineShapes.{is_of_kind, head_shapes, outcome_shapes, effect_shapes, fibril_shapes, may_be, begins_as, begins_one, may_begin}
use Rattle.search_goals.specs.SaidWords.{AreSaid}
use Rattle.search_goals.proofs.LineWords.{kept, has_no_gap, AreWhole, line_words}
use Rattle.search_goals.proofs.WordKinds.{IsOf, number_is, task_is, phone_is, fibril_is, code_is, bytes_are}

-- ---- the shape of pieces

-- the kind of a piece, before others
abbrev kind_before : Piece → List (List ℕ) → List (List ℕ)
kind_before (Word []) ks = ks
kind_before (Word (b ∷ w)) ks = (b ∷ w) ∷ ks
kind_before (Number n) ks = codes "N" ∷ ks
kind_before (Small n) ks = codes "N" ∷ ks
kind_before (Task t) ks = codes "T" ∷ ks
kind_before (Phone l) ks = codes "P" ∷ ks
kind_before (Fibril t f) ks = codes "F" ∷ ks
kind_before (Answer c) ks = codes "C" ∷ ks
kind_before (Refusal c) ks = codes "C" ∷ ks
kind_before (Args a) ks = codes "N" ∷ codes "N" ∷ codes "N" ∷ codes "N" ∷ codes "N" ∷ ks
kind_before (Bytes bytes) ks = codes "B" ∷ ks

abbrev kinds : List Piece → List (List ℕ)
kinds [] = []
kinds (p ∷ ps) = kind_before p (kinds ps)

-- a fixed word is something, has no gap, and stands for itself in a shape
abbrev is_plain : List ℕ → Bool
is_plain w = has_no_gap w && (not (length w == 0) && is_of_kind w w)

abbrev and_plain : Piece → Bool → Bool
and_plain (Word []) more = more
and_plain (Word (b ∷ w)) more = is_plain (b ∷ w) && more
and_plain _ more = more

abbrev are_plain : List Piece → Bool
are_plain [] = true
are_plain (p ∷ ps) = and_plain p (are_plain ps)

-- ---- words of a shape

-- words that have no gap, and with which no words but those that the shape allows begin
record Spells (ks ws : List (List ℕ)) : Type 0 where
  whole : AreWhole ws
  begin : (asked : List (List ℕ)) → begins asked (kept ws) ≡ true → begins_as asked ks ≡ true

kept_first : (w : List ℕ) (ws : List (List ℕ)) → not (length w == 0) ≡ true → kept (w ∷ ws) ≡ w ∷ kept ws
kept_first w ws some = rw some refl

asked_is : (k w a : List ℕ) → is_of_kind k w ≡ true → fits a w ≡ true → may_be a k ≡ true
asked_is k w a own fit =
    elim (or_cases (bytes_eq a (codes "*")) (bytes_eq a w) fit) [
      | inl any ↦ or_left _ _ any
      | inr same ↦ or_right (bytes_eq a (codes "*")) _
          (subst (λ (v : List ℕ). is_of_kind k v ≡ true) (sym ((bytes_eq-Decides a w).0 same)) own)
    ]

begin_more : (k w : List ℕ) (ks ws : List (List ℕ)) → IsOf k w →
    ((asked : List (List ℕ)) → begins asked (kept ws) ≡ true → begins_as asked ks ≡ true)
    → (asked : List (List ℕ)) → begins asked (w ∷ kept ws) ≡ true → begins_as asked (k ∷ ks) ≡ true
begin_more k w ks ws own more [] h = refl
begin_more k w ks ws own more (a ∷ asked) h =
    let parts = and_parts (fits a w) (begins asked (kept ws)) h in
    and_from _ _ (asked_is k w a own.2 parts.0) (more asked parts.1)

one_more : (k w : List ℕ) (ks ws : List (List ℕ)) → IsOf k w → Spells ks ws → Spells (k ∷ ks) (w ∷ ws)
one_more k w ks ws own s = record {
  whole = (own.0, s.whole);
  begin = λ asked h. begin_more k w ks ws own s.begin asked
      (subst (λ (vs : List (List ℕ)). begins asked vs ≡ true) (kept_first w ws own.1) h);
}

nothing_more : (ks ws : List (List ℕ)) → Spells ks ws → Spells ks ([] ∷ ws)
nothing_more ks ws s = record { whole = (refl, s.whole); begin = s.begin }

plain_is : (w : List ℕ) → is_plain w ≡ true → IsOf w w
plain_is w h =
    let outer = and_parts (has_no_gap w) (not (length w == 0) && is_of_kind w w) h in
    let inner = and_parts (not (length w == 0)) (is_of_kind w w) outer.1 in
    (outer.0, inner.0, inner.1)

five_more : (a : List ℕ) (ks ws : List (List ℕ)) → Spells ks ws →
    Spells (kind_before (Args a) ks) (decimal (slice_index a 0) ∷ decimal (slice_index a 1) ∷ decimal (slice_index a 2) ∷ decimal (slice_index a 3) ∷ decimal (slice_index a 4) ∷ ws)
five_more a ks ws s =
    one_more _ _ _ _ (number_is (slice_index a 0)) (one_more _ _ _ _ (number_is (slice_index a 1))
    (one_more _ _ _ _ (number_is (slice_index a 2)) (one_more _ _ _ _ (number_is (slice_index a 3))
    (one_more _ _ _ _ (number_is (slice_index a 4)) s))))

spelled : (ps : List Piece) → are_plain ps ≡ true → Spells (kinds ps) (words ps)
spelled [] h = record { whole = tt; begin = λ asked k. none asked k } where
  none : (asked : List (List ℕ)) → begins asked [] ≡ true → begins_as asked [] ≡ true
  none [] k = refl
  none (a ∷ asked) k = k
spelled (Word [] ∷ ps) h = nothing_more _ _ (spelled ps h)
spelled (Word (b ∷ w) ∷ ps) h =
    let parts = and_parts (is_plain (b ∷ w)) (are_plain ps) h in
    one_more _ _ _ _ (plain_is (b ∷ w) parts.0) (spelled ps parts.1)
spelled (Number n ∷ ps) h = one_more _ _ _ _ (number_is n) (spelled ps h)
spelled (Small n ∷ ps) h = one_more _ _ _ _ (number_is n) (spelled ps h)
spelled (Task t ∷ ps) h = one_more _ _ _ _ (task_is t) (spelled ps h)
spelled (Phone l ∷ ps) h = one_more _ _ _ _ (phone_is l) (spelled ps h)
spelled (Fibril t f ∷ ps) h = one_more _ _ _ _ (fibril_is t f) (spelled ps h)
spelled (Answer c ∷ ps) h = one_more _ _ _ _ (code_is c) (spelled ps h)
spelled (Refusal c ∷ ps) h = one_more _ _ _ _ (code_is c) (spelled ps h)
spelled (Args a ∷ ps) h = five_more a (kinds ps) (words ps) (spelled ps h)
spelled (Bytes bytes ∷ ps) h = one_more _ _ _ _ (bytes_are bytes) (spelled ps h)

-- ---- the table

-- one of the shapes has these words
abbrev is_in : (shapes : List (List ℕ)) → (shape : List (List ℕ)) → Bool
is_in shapes shape = list_any (λ other. pointwise bytes_eq (text_words other) shape) shapes

abbrev is_listed : List (List ℕ) → Bool
is_listed shape =
    is_in head_shapes shape
    || (is_in outcome_shapes shape || (is_in effect_shapes shape || is_in fibril_shapes shape))

same_words : (vs ws : List (List ℕ)) → pointwise bytes_eq vs ws ≡ true → vs ≡ ws
same_words vs ws h = (slice_eq-Decides bytes_eq-Decides vs ws (pointwise bytes_eq vs ws) refl).0 h

one_begins : (shapes shape asked : List (List ℕ)) → is_in shapes shape ≡ true → begins_as asked shape ≡ true →
    begins_one shapes asked ≡ true
one_begins [] shape asked h own = absurd cc
one_begins (other ∷ shapes) shape asked h own =
    elim (or_cases (pointwise bytes_eq (text_words other) shape) (is_in shapes shape) h) [
      | inl here ↦ or_left _ _
          (subst (λ (ws : List (List ℕ)). begins_as asked ws ≡ true) (sym (same_words (text_words other) shape here)) own)
      | inr later ↦ or_right (begins_as asked (text_words other)) _ (one_begins shapes shape asked later own)
    ]

or_either : (w x y z a b c d : Bool) → (w ≡ true → a ≡ true) → (x ≡ true → b ≡ true) → (y ≡ true → c ≡ true) →
    (z ≡ true → d ≡ true) → (w || (x || (y || z))) ≡ true → (a || (b || (c || d))) ≡ true
or_either w x y z a b c d f g h k e =
    elim (or_cases w (x || (y || z)) e) [
      | inl first ↦ or_left _ _ (f first)
      | inr others ↦ or_right a _ (elim (or_cases x (y || z) others) [
        | inl second ↦ or_left _ _ (g second)
        | inr last ↦ or_right b _ (elim (or_cases y z last) [
          | inl third ↦ or_left _ _ (h third)
          | inr fourth ↦ or_right c _ (k fourth)
        ])
      ])
    ]

listed_begins : (shape asked : List (List ℕ)) → is_listed shape ≡ true → begins_as asked shape ≡ true →
    may_begin asked ≡ true
unfolding may_begin
listed_begins shape asked h own =
    let begun : List (List ℕ) → Type 0 = λ shapes. is_in shapes shape ≡ true → begins_one shapes asked ≡ true in
    let one : (shapes : List (List ℕ)) → begun shapes = λ shapes s. one_begins shapes shape asked s own in
    or_either _ _ _ _ _ _ _ _ (one head_shapes) (one outcome_shapes) (one effect_shapes) (one fibril_shapes) h

-- ---- entries

-- its fixed words are plain, and its shape is listed
IsShaped : Entry → Type 0
IsShaped e = (are_plain (pieces_of e) ≡ true) × (is_listed (kinds (pieces_of e)) ≡ true)

-- all is computed, once an entry has its kind; a clause with `None` parts the kinds of what it names
is_shaped : (e : Entry) → IsShaped e
unfolding IsShaped is_of_kind head_shapes outcome_shapes effect_shapes fibril_shapes
is_shaped (entry.Head t (ask.Forward n p Plain None)) = (refl, refl)
is_shaped (entry.Head t (ask.Forward n p Route None)) = (refl, refl)
is_shaped (entry.Outcome got.Done) = (refl, refl)
is_shaped (entry.Accepted n l m None) = (refl, refl)
is_shaped (entry.Answered n r None) = (refl, refl)
is_shaped (entry.Sent t f n None) = (refl, refl)
is_shaped (entry.Gets t f n None r) = (refl, refl)
is_shaped (entry.Begins t f x Atomic s p) = (refl, refl)
is_shaped (entry.Blocks t f why.Phone) = (refl, refl)
is_shaped (entry.PhoneIs l phone.Free) = (refl, refl)
is_shaped _ = (refl, refl)

pub may_begin_so : (asked : List (List ℕ)) (e : Entry) → entry_fits asked e ≡ true → may_begin asked ≡ true
unfolding IsShaped
may_begin_so asked e fit =
    let shaped = is_shaped e in
    let own = spelled (pieces_of e) shaped.0 in
    let same : text_words (text_of_entry e) ≡ kept (words_of e) =
    ap text_words (is_joined e) ∙ line_words (words_of e) own.whole in
    listed_begins (kinds (pieces_of e)) asked shaped.1
    (own.begin asked (subst (λ (ws : List (List ℕ)). begins asked ws ≡ true) same fit))

pub no_entry_fits : (asked : List (List ℕ)) → may_begin asked ≡ false → (e : Entry) → entry_fits asked e ≡ false
no_entry_fits asked none e = false_from_ne_true (entry_fits asked e) (λ fit. both_ways (may_begin asked) none (may_begin_so asked e fit))

-- ---- words that are read one by one

begins_front : (front more ws : List (List ℕ)) → begins (front ++ more) ws ≡ true → begins front ws ≡ true
begins_front [] more ws h = refl
begins_front (a ∷ front) more [] h = h
begins_front (a ∷ front) more (w ∷ ws) h =
    let parts = and_parts (fits a w) (begins (front ++ more) ws) h in
    and_from _ _ parts.0 (begins_front front more ws parts.1)

pub words_read : (names words so_far asked : List (List ℕ)) (n : ℕ) (e : Entry) → AreSaid names words asked →
    entry_fits (so_far ++ asked) e ≡ true → lines_from (with_word names) n so_far words ≡ Ok (so_far ++ asked)
unfolding with_word
words_read names [] so_far [] n e said fit = ap Ok (sym (append_nil so_far)) where
  append_nil : (xs : List (List ℕ)) → xs ++ [] ≡ xs
  append_nil [] = refl
  append_nil (x ∷ xs) = ap (λ l. x ∷ l) (append_nil xs)
words_read names [] so_far (a ∷ asked) n e said fit = absurd said
words_read names (word ∷ words) so_far [] n e said fit = absurd said
words_read names (word ∷ words) so_far (a ∷ asked) n e said fit =
    let same : (so_far ++ a ∷ []) ++ asked ≡ so_far ++ a ∷ asked = append_assoc so_far (a ∷ []) asked in
    let fit_again : entry_fits ((so_far ++ a ∷ []) ++ asked) e ≡ true = ap (λ (l : List (List ℕ)). entry_fits l e) same ∙ fit in
    let front = may_begin_so (so_far ++ a ∷ []) e (begins_front (so_far ++ a ∷ []) asked (text_words (text_of_entry e)) fit_again) in
    rw (said.0, front) (words_read names words (so_far ++ a ∷ []) asked (n + 1) e said.1 fit_again ∙ ap Ok same)
