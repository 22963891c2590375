-- A line of words with one space between two, and a line feed behind the last.
use Rattle.std.proofs.Common.{◌≡◌, ℕ, ◌≤◌, Bool, true, false, not, List, [], ◌∷◌, ◌++◌, length, Some, refl, ap, ◌∙◌, append_assoc, arith, ne_eqb}
use Rattle.std.specs.Prelude.{◌==◌}
use Rattle.std.specs.List.{list_all, onto_first}
use Rattle.std.proofs.lemmas.Bool.{and_parts, not-true}
use Rattle.script_lines.specs.Text.{is_allowed, is_blank, ends_word, first_line, behind, words}
use Rattle.script_reader.specs.EventLine.{EventsAndNames, after_event_words, after_event_line}
use Rattle.script_lines.proofs.Words.{pieces, kept, in_word, pieces_blank, pieces_more, kept_cons}
use Rattle.script_lines.proofs.Lines.{first_end, first_more, behind_end, behind_more, feed_ends}

abbrev pub goes : ℕ → Bool
goes b = not (ends_word b)

goes_on : (b : ℕ) → goes b ≡ true → ends_word b ≡ false
goes_on b h = not-true (ends_word b) h

-- some bytes of a word
abbrev pub IsWord : List ℕ → Type 0
IsWord w = (1 ≤ length w) × (list_all goes w ≡ true)

abbrev pub AreWords : List (List ℕ) → Type 0
AreWords [] = Unit {0}
AreWords (w ∷ ws) = IsWord w × AreWords ws

-- a space and a word each, and a line feed
abbrev pub tail_of : List (List ℕ) → List ℕ
tail_of [] = 10 ∷ []
tail_of (w ∷ ws) = 32 ∷ (w ++ tail_of ws)

-- the same without the line feed
abbrev cut_of : List (List ℕ) → List ℕ
cut_of [] = []
cut_of (w ∷ ws) = 32 ∷ (w ++ cut_of ws)

-- ---- bytes of a word at the front

first_front : (w r : List ℕ) → list_all goes w ≡ true → first_line (w ++ r) ≡ w ++ first_line r
first_front [] r h = refl
first_front (x ∷ w) r h =
    let parts = and_parts (goes x) (list_all goes w) h in
    first_more x (w ++ r) (feed_ends x (goes_on x parts.0)) ∙ ap (λ l. x ∷ l) (first_front w r parts.1)

behind_front : (w r : List ℕ) → list_all goes w ≡ true → behind (w ++ r) ≡ behind r
behind_front [] r h = refl
behind_front (x ∷ w) r h =
    let parts = and_parts (goes x) (list_all goes w) h in
    behind_more x (w ++ r) (feed_ends x (goes_on x parts.0)) ∙ behind_front w r parts.1

allowed_front : (w q : List ℕ) → list_all goes w ≡ true → list_all is_allowed (w ++ q) ≡ list_all is_allowed q
allowed_front [] q h = refl
allowed_front (x ∷ w) q h =
    let parts = and_parts (goes x) (list_all goes w) h in
    rw ((in_word (is_blank x) (x == 35) (is_allowed x) (goes_on x parts.0)).2) (allowed_front w q parts.1)

pieces_front : (w q : List ℕ) (ps : List (List ℕ)) → list_all goes w ≡ true → pieces q ≡ [] ∷ ps →
    pieces (w ++ q) ≡ w ∷ ps
pieces_front [] q ps h e = e
pieces_front (x ∷ w) q ps h e =
    let parts = and_parts (goes x) (list_all goes w) h in
    pieces_more x (w ++ q) (goes_on x parts.0) ∙ ap (onto_first x) (pieces_front w q ps parts.1 e)

-- ---- the words behind the first

tail_first : (ws : List (List ℕ)) (rest : List ℕ) → AreWords ws → first_line (tail_of ws ++ rest) ≡ cut_of ws
tail_first [] rest h = first_end 10 rest refl
tail_first (w ∷ ws) rest h =
    first_more 32 ((w ++ tail_of ws) ++ rest) refl
    ∙ ap (λ l. 32 ∷ l) (ap first_line (append_assoc w (tail_of ws) rest) ∙ first_front w (tail_of ws ++ rest) h.0.1
    ∙ ap (λ l. w ++ l) (tail_first ws rest h.1))

tail_behind : (ws : List (List ℕ)) (rest : List ℕ) → AreWords ws → behind (tail_of ws ++ rest) ≡ Some rest
tail_behind [] rest h = behind_end 10 rest refl
tail_behind (w ∷ ws) rest h =
    behind_more 32 ((w ++ tail_of ws) ++ rest) refl
    ∙ ap behind (append_assoc w (tail_of ws) rest) ∙ behind_front w (tail_of ws ++ rest) h.0.1
    ∙ tail_behind ws rest h.1

cut_allowed : (ws : List (List ℕ)) → AreWords ws → list_all is_allowed (cut_of ws) ≡ true
cut_allowed [] h = refl
cut_allowed (w ∷ ws) h = allowed_front w (cut_of ws) h.0.1 ∙ cut_allowed ws h.1

cut_pieces : (ws : List (List ℕ)) → AreWords ws → pieces (cut_of ws) ≡ [] ∷ ws
cut_pieces [] h = refl
cut_pieces (w ∷ ws) h = pieces_blank 32 (w ++ cut_of ws) refl
    ∙ ap (λ ps. [] ∷ ps) (pieces_front w (cut_of ws) ws h.0.1 (cut_pieces ws h.1))

all_kept : (ws : List (List ℕ)) → AreWords ws → kept ws ≡ ws
all_kept [] h = refl
all_kept (w ∷ ws) h = kept_cons w ws (ne_eqb (length w) 0 (λ e. omega (arith, e, h.0.0)))
    ∙ ap (λ ps. w ∷ ps) (all_kept ws h.1)

-- ---- the whole line

module _ (w : List ℕ) (ws : List (List ℕ)) (rest : List ℕ) (first : IsWord w) (others : AreWords ws) where
  line_is : first_line ((w ++ tail_of ws) ++ rest) ≡ w ++ cut_of ws
  line_is = ap first_line (append_assoc w (tail_of ws) rest) ∙ first_front w (tail_of ws ++ rest) first.1
      ∙ ap (λ l. w ++ l) (tail_first ws rest others)

  pub line_behind : behind ((w ++ tail_of ws) ++ rest) ≡ Some rest
  line_behind = ap behind (append_assoc w (tail_of ws) rest) ∙ behind_front w (tail_of ws ++ rest) first.1
      ∙ tail_behind ws rest others

  line_allowed : list_all is_allowed (w ++ cut_of ws) ≡ true
  line_allowed = allowed_front w (cut_of ws) first.1 ∙ cut_allowed ws others

  line_words : words (w ++ cut_of ws) ≡ w ∷ ws
  line_words = ap kept (pieces_front w (cut_of ws) ws first.1 (cut_pieces ws others))
      ∙ all_kept (w ∷ ws) (first, others)

  said : (templates : List (List ℕ)) (before : EventsAndNames) →
      after_event_line templates before (w ++ cut_of ws) ≡ after_event_words templates before (w ∷ ws)
  unfolding after_event_line
  said templates before = rw line_allowed (ap (after_event_words templates before) line_words)

  -- what a line says is what its words say
  pub line_says : (templates : List (List ℕ)) (before : EventsAndNames) →
      after_event_line templates before (first_line ((w ++ tail_of ws) ++ rest)) ≡ after_event_words templates
      before (w ∷ ws)
  line_says templates before = ap (after_event_line templates before) line_is ∙ said templates before
