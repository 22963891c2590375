-- The words of a line that is put together of words.
use Rattle.std.proofs.Common.{◌≡◌, ℕ, Bool, true, cond, not, List, [], ◌∷◌, ◌++◌, length, refl, ap, ◌∙◌, append_assoc}
use Rattle.std.specs.Prelude.{filter, ◌==◌, ⊤}
use Rattle.std.specs.List.{list_all, slice_split, onto_first}
use Rattle.std.proofs.lemmas.Bool.{and_parts, not-true}
use Rattle.std.proofs.lemmas.List.Splits.{slice_split-cons_no}
use Rattle.trace_reader.specs.Line.{join}
use Rattle.search_goals.specs.Goals.{is_gap, text_words}

abbrev pieces : List ℕ → List (List ℕ)
pieces text = slice_split is_gap text

-- the words that are something
abbrev pub kept : List (List ℕ) → List (List ℕ)
kept words = filter (λ word. not (length word == 0)) words

-- no byte of it stands between words
abbrev pub has_no_gap : List ℕ → Bool
has_no_gap word = list_all (λ b. not (is_gap b)) word

abbrev pub AreWhole : List (List ℕ) → Type 0
AreWhole [] = ⊤
AreWhole (w ∷ ws) = (has_no_gap w ≡ true) × AreWhole ws

word_front : (w q : List ℕ) (ps : List (List ℕ)) → has_no_gap w ≡ true → pieces q ≡ [] ∷ ps → pieces (w ++ q) ≡ w ∷ ps
word_front [] q ps h e = e
word_front (x ∷ w) q ps h e =
    let parts = and_parts (not (is_gap x)) (has_no_gap w) h in
    slice_split-cons_no is_gap x (w ++ q) (not-true (is_gap x) parts.0)
    ∙ ap (onto_first x) (word_front w q ps parts.1 e)

line_pieces : (w : List ℕ) (ws : List (List ℕ)) → AreWhole (w ∷ ws) →
    pieces (join (w ∷ ws) ++ 10 ∷ []) ≡ (w ∷ ws) ++ [] ∷ []
line_pieces w [] h = word_front w (10 ∷ []) ([] ∷ []) h.0 refl
line_pieces w (v ∷ ws) h =
    ap pieces (append_assoc w (32 ∷ join (v ∷ ws)) (10 ∷ []))
    ∙ word_front w (32 ∷ (join (v ∷ ws) ++ 10 ∷ [])) (pieces (join (v ∷ ws) ++ 10 ∷ [])) h.0 refl
    ∙ ap (λ (ps : List (List ℕ)). w ∷ ps) (line_pieces v ws h.1)

kept_end : (ws : List (List ℕ)) → kept (ws ++ [] ∷ []) ≡ kept ws
kept_end [] = refl
kept_end (w ∷ ws) = ap (λ (vs : List (List ℕ)). cond (not (length w == 0)) (w ∷ vs) vs) (kept_end ws)

-- they are these, but for those that are nothing
pub line_words : (ws : List (List ℕ)) → AreWhole ws → text_words (join ws ++ 10 ∷ []) ≡ kept ws
line_words [] h = refl
line_words (w ∷ ws) h = ap kept (line_pieces w ws h) ∙ kept_end (w ∷ ws)
