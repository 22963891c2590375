-- The texts of the states that a survey lists.
use Rattle.std.proofs.Common.{◌≡◌, ℕ, ◌+◌, ◌^◌, ◌≤◌, ◌<◌, true, List, [], ◌∷◌, ◌++◌, length, drop, get_or}
use Rattle.std.proofs.Common.{Option, None, Some, Ok, slice_get, refl, sym, ap, subst, ◌∙◌, append_assoc, append-nil, length-append, arith, decimal}
use Rattle.std.specs.Prelude.{codes}
use Rattle.std.specs.Global.{Vec}
use Rattle.std.specs.List.{list_all}
use Rattle.std.specs.Option.{option_map}
use Rattle.std.specs.Str.{bytes_eq}
use Rattle.std.proofs.lemmas.List.{drop_more, drop_all, length-map}
use Rattle.std.proofs.lemmas.List.Quantifiers.{position-Some}
use Rattle.std.proofs.lemmas.Option.{same_Some}
use Rattle.std.proofs.lemmas.Slice.Eq.{bytes_eq-Decides}
use Rattle.ipc_ids.specs.declared.numbers.TaskNo.{TaskNo}
use Rattle.ipc_ids.specs.declared.message.Event.{Event}
use Rattle.ipc_ids.specs.declared.message.Outcome.{Outcome}
use Rattle.ipc_ids.specs.declared.entry.Entry.{Entry}
use Rattle.script_lines.specs.Names.{task_names, place_of, task_named}
use Rattle.script_lines.specs.Text.{is_allowed}
use Rattle.search_goals.specs.Writing.{Writes}
use Rattle.search_goals.proofs.Decimals.{are_digits}
use Rattle.task_system.specs.Run.{run}
use Rattle.schedule_search.specs.Search.{Search, Made}
use Rattle.schedule_search.specs.Survey.{IsFirstAtRest, Lists, schedules_of}
use Rattle.hipc_search.specs.Schedule.{found_comment, events_and_names, Precedes}
use Rattle.hipc_search.specs.Told.{last_outcome, entry_with, told_text}
use Rattle.hipc_search.specs.Survey.{state_name, heading, counts_end, outcome_line, outcome_lines, IsState, AddsState, AreStates, IsListing}
use Rattle.hipc_search.proofs.Following.{comment_read}
use Rattle.hipc_search.proofs.Written.{digits_allowed, both_allowed, comment_allowed, comment_short}

-- ---- the lines of the tasks

line_is : (name : List ℕ) (outcome : Option Outcome)
    → codes "#   " ++ (name ++ told_text (entry_with outcome)) ≡ outcome_line name outcome
line_is name None = refl
line_is name (Some outcome) = refl

-- the task at a place
abbrev task_at : ℕ → TaskNo
task_at place = record { 0 = place + 1 }

-- a word that is the name of a task is the name at its place
pub name_at : (names : List (List ℕ)) (i : ℕ) (word : List ℕ) → task_named names word ≡ Some (task_at i)
    → word ≡ get_or names i word
unfolding task_named
name_at names i word named = by_place (place_of names word) refl named where
  by_place : (o : Option ℕ) → place_of names word ≡ o → option_map (λ place. task_at place) o ≡ Some (task_at i) → word ≡ get_or names i word
  by_place None at e = absurd (cc e)
  by_place (Some k) at e =
      let same : k + 1 ≡ i + 1 = ap (λ (t : TaskNo). t.0) (same_Some (task_at k) (task_at i) e) in
      let here : k ≡ i = omega (arith, same) in
      let there = position-Some (λ known. bytes_eq word known) names k word at in
      (bytes_eq-Decides word (get_or names k word)).0 there.1
      ∙ ap (λ (j : ℕ). get_or names j word) here

module _ (names : List (List ℕ)) (told : List Entry) (i : ℕ) where
  -- the line of one task more
  pub line_more : (text next whole name : List ℕ) (last : Option Entry) → i < length names → name ≡ get_or names i name
      → last ≡ entry_with (last_outcome (i + 1) told) → next ≡ text ++ (codes "#   " ++ (name ++ told_text last))
      → text ++ outcome_lines (i + 1) (drop i names) told ≡ whole
      → next ++ outcome_lines (i + 1 + 1) (drop (i + 1) names) told ≡ whole
  line_more text next whole name last within is of added so_far =
      let rest : List ℕ = outcome_lines (i + 1 + 1) (drop (i + 1) names) told in
      let line : codes "#   " ++ (name ++ told_text last) ≡ outcome_line name (last_outcome (i + 1) told) =
      ap (λ (l : Option Entry). codes "#   " ++ (name ++ told_text l)) of
      ∙ line_is name (last_outcome (i + 1) told) in
      ap (λ (t : List ℕ). t ++ rest) (added ∙ ap (λ (l : List ℕ). text ++ l) line)
      ∙ append_assoc text (outcome_line name (last_outcome (i + 1) told)) rest
      ∙ ap (λ (ns : List (List ℕ)). text ++ outcome_lines (i + 1) ns told)
      (ap (λ (n : List ℕ). n ∷ drop (i + 1) names) is ∙ sym (drop_more names i name within))
      ∙ so_far

  pub lines_there : (text whole : List ℕ) → length names ≤ i → text ++ outcome_lines (i + 1) (drop i names) told ≡ whole
      → text ≡ whole
  lines_there text whole over so_far =
      sym (append-nil text)
      ∙ ap (λ (ns : List (List ℕ)). text ++ outcome_lines (i + 1) ns told) (sym (drop_all i names over))
      ∙ so_far

-- ---- a state

state_allowed : (place count : ℕ) → place < 2 ^ 64 → count < 2 ^ 64 → list_all is_allowed (state_name place count) ≡ true
state_allowed place count fits counted =
    both_allowed (codes "state " ++ decimal place ++ codes " of ") (decimal count)
    (both_allowed (codes "state " ++ decimal place) (codes " of ")
    (both_allowed (codes "state ") (decimal place) refl (digits_allowed (decimal place) (are_digits place fits))) refl)
    (digits_allowed (decimal count) (are_digits count counted))

module _ (s : Search) (before : List ℕ) (place count : ℕ) (es : List Event) (names known : List (List ℕ))
    (old begun first found text : List ℕ) (fits : place < 2 ^ 64) (counted : count < 2 ^ 64)
    (few_first : length s.from ≤ 32768) (short : length before ≤ 524289)
    (precedes : Precedes s.plan before (record { events = s.from; names = names })) (few : length es ≤ 10000)
    (is_begun : begun ≡ old ++ heading place count (length es)) (is_first : first ≡ begun ++ before)
    (wrote : Writes (task_names s.plan.templates) names first found es known)
    (is_text : text ≡ found ++ outcome_lines 1 known (run s.plan (s.from ++ es))) where
  abbrev outcomes : List ℕ
  outcomes = outcome_lines 1 known (run s.plan (s.from ++ es))

  abbrev comment : List ℕ
  comment = found_comment (state_name place count) (length es)

  abbrev head : List ℕ
  head = heading place count (length es)

  reads : events_and_names s.plan (head ++ (before ++ wrote.line)) ≡ Ok (record { events = s.from ++ es; names = known })
  reads =
      let long = wrote.short in
      let some : length es < 2 ^ 64 = omega (arith, few) in
      let line = comment_short (state_name place count) (length es) some in
      let all = length-append before wrote.line in
      comment_read s.plan comment (before ++ wrote.line) (record { events = s.from ++ es; names = known })
      (comment_allowed (state_name place count) (length es) some (state_allowed place count fits counted))
      (omega (arith, line, all, long, few, short))
      (precedes.goes_on wrote.line es known wrote.adds (omega (arith, long, few, short)) (omega (arith, few, few_first)))

  parts : text ≡ old ++ (head ++ (before ++ (wrote.line ++ outcomes)))
  parts =
      is_text
      ∙ ap (λ (t : List ℕ). t ++ outcomes)
      (wrote.parts
      ∙ ap (λ (t : List ℕ). t ++ wrote.line) (is_first ∙ ap (λ (t : List ℕ). t ++ before) is_begun))
      ∙ append_assoc ((old ++ head) ++ before) wrote.line outcomes
      ∙ append_assoc (old ++ head) before (wrote.line ++ outcomes)
      ∙ append_assoc old head (before ++ (wrote.line ++ outcomes))

  -- its text was put behind another
  pub adds_state : AddsState s before place count es old text
  adds_state = (
    head ++ (before ++ (wrote.line ++ outcomes)),
    parts,
    record {
      lines = wrote.line;
      names = known;
      parts = refl;
      reads = reads;
    },
  )

-- ---- the states one behind the other

module _ (s : Search) (before : List ℕ) (count : ℕ) (whole : List (List Event)) where
  -- so many texts were put one behind the other; with those of the states that are left they are those of all
  abbrev pub GoesOn : ℕ → List (List Event) → List ℕ → Type 0
  GoesOn done left text =
      (rest : List ℕ) → AreStates s before (done + 1) count left rest → AreStates s before 1 count whole (text ++ rest)

  pub begins : (text : List ℕ) → text ≡ [] → GoesOn 0 whole text
  begins text none rest are =
      subst (λ (t : List ℕ). AreStates s before 1 count whole t) (sym (ap (λ (t : List ℕ). t ++ rest) none)) are

  one_state : (done : ℕ) (es : List Event) (left : List (List Event)) (text state next : List ℕ)
      → IsState s before (done + 1) count es state → next ≡ text ++ state → GoesOn done (es ∷ left) text
      → GoesOn (done + 1) left next
  one_state done es left text state next is added so_far rest are =
      subst (λ (t : List ℕ). AreStates s before 1 count whole t)
      (sym (ap (λ (t : List ℕ). t ++ rest) added ∙ append_assoc text state rest))
      (so_far (state ++ rest) (state, rest, refl, is, are))

  pub state_more : (schedules : List (Vec Event)) (i : ℕ) (v : Vec Event) (text state next : List ℕ)
      → i < length schedules → v ≡ get_or schedules i v → IsState s before (i + 1) count v.items state
      → next ≡ text ++ state → GoesOn i (schedules_of (drop i schedules)) text
      → GoesOn (i + 1) (schedules_of (drop (i + 1) schedules)) next
  state_more schedules i v text state next within item is added so_far =
      one_state i v.items (schedules_of (drop (i + 1) schedules)) text state next is added
      (subst (λ (left : List (List Event)). GoesOn i left text)
      (ap schedules_of (drop_more schedules i v within)
      ∙ ap (λ (w : Vec Event). w.items ∷ schedules_of (drop (i + 1) schedules)) (sym item))
      so_far)

  pub states_there : (schedules : List (Vec Event)) (i : ℕ) (text : List ℕ) → length schedules ≤ i
      → GoesOn i (schedules_of (drop i schedules)) text → AreStates s before 1 count whole text
  states_there schedules i text over so_far =
      let none : schedules_of (drop i schedules) ≡ [] = ap schedules_of (drop_all i schedules over) in
      let last : GoesOn i [] text = subst (λ (left : List (List Event)). GoesOn i left text) none so_far in
      subst (λ (t : List ℕ). AreStates s before 1 count whole t) (append-nil text) (last [] refl)

-- ---- the whole listing

-- the schedules of a survey may be tried, and are not long
pub few_listed : (s : Search) (most : ℕ) (counts : List Event → Type 0) (schedules lent : List (Vec Event))
    → Lists s most counts (schedules_of schedules) → lent ≡ schedules → most ≤ 10000
    → (k : ℕ) (es : List Event) → slice_get (schedules_of lent) k ≡ Some es → Made s es × (length es ≤ 10000)
few_listed s most counts schedules lent lists same few k es e =
    let there : slice_get (schedules_of schedules) k ≡ Some es =
    ap (λ (vs : List (Vec Event)). slice_get (schedules_of vs) k) (sym same) ∙ e in
    let first : IsFirstAtRest s most es = lists.each k es there in
    let within : length es ≤ most = first.within in
    (first.made, omega (arith, within, few))

-- a last line with the count of schedules was added
pub last_added : (schedules : List (Vec Event)) (states start begun text : List ℕ) (all : ℕ) → begun ≡ states ++ start
    → text ≡ begun ++ counts_end (length schedules) all
    → text ≡ states ++ (start ++ counts_end (length (schedules_of schedules)) all)
last_added schedules states start begun text all first added =
    added
    ∙ ap (λ (t : List ℕ). t ++ counts_end (length schedules) all) first
    ∙ append_assoc states start (counts_end (length schedules) all)
    ∙ ap (λ (n : ℕ). states ++ (start ++ counts_end n all))
    (sym (length-map schedules (λ (v : Vec Event). v.items)))

-- what was lent is what is listed
pub listing_is : (s : Search) (before : List ℕ) (schedules lent : List (Vec Event)) (start line text : List ℕ) (all : ℕ)
    → lent ≡ schedules → start ≡ line
    → IsListing s before (schedules_of lent) (start ++ counts_end (length (schedules_of lent)) all) text
    → IsListing s before (schedules_of schedules) (line ++ counts_end (length (schedules_of schedules)) all) text
listing_is s before schedules lent start line text all same said is =
    subst
    (λ (vs : List (Vec Event)). IsListing s before (schedules_of vs) (line ++ counts_end (length (schedules_of vs)) all) text)
    same
    (subst (λ (l : List ℕ). IsListing s before (schedules_of lent) (l ++ counts_end (length (schedules_of lent)) all) text) said is)
