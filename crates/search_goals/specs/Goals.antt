-- What a goal asks of the entries of an event.
use Rattle.std.specs.Prelude.{ℕ, Bool, true, false, not, ◌||◌, ◌&&◌, ◌==◌, List, [], ◌∷◌, length, filter, map, codes, drop}
use Rattle.std.specs.Global.{Vec}
use Rattle.std.specs.List.{slice_split, list_any, position_or_len}
use Rattle.std.specs.Str.{bytes_eq}
use Rattle.ipc_ids.specs.declared.entry.Entry.{Entry}
use Rattle.trace_print.specs.Text.{text_of_entry}

-- whether a byte stands between words: a space, a tab or a line feed
abbrev pub is_gap : ℕ → Bool
is_gap b = b == 32 || (b == 9 || b == 10)

-- what stands between spaces, tabs and line feeds, where that is something
abbrev pub text_words : List ℕ → List (List ℕ)
text_words text = filter (λ word. not (length word == 0)) (slice_split is_gap text)

-- a word that is asked for is itself, or * for any
abbrev pub fits : (asked word : List ℕ) → Bool
fits asked word = bytes_eq asked (codes "*") || bytes_eq asked word

-- the words begin with those that are asked for
abbrev pub begins : (asked words : List (List ℕ)) → Bool
begins [] words = true
begins (a ∷ asked) [] = false
begins (a ∷ asked) (w ∷ words) = fits a w && begins asked words

-- the line of an entry begins so
abbrev pub entry_fits : (asked : List (List ℕ)) → Entry → Bool
entry_fits asked entry = begins asked (text_words (text_of_entry entry))

-- the first line of an event begins so
abbrev pub first_fits : (asked : List (List ℕ)) → List Entry → Bool
first_fits asked [] = false
first_fits asked (entry ∷ _) = entry_fits asked entry

-- the first line of an event begins as `head`, and some line of it as `asked`
abbrev pub meets_line : (head asked : List (List ℕ)) → List Entry → Bool
meets_line head asked entries = first_fits head entries && list_any (entry_fits asked) entries

-- words as bytes
abbrev pub listed : List (Vec ℕ) → List (List ℕ)
listed words = map (λ word. word.items) words

-- what stands behind spaces, tabs and line feeds at the front
abbrev pub after_gaps : List ℕ → List ℕ
after_gaps text = drop (position_or_len (λ b. not (is_gap b)) text) text
