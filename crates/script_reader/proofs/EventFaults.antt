-- What a line of a schedule is at fault for is the first reason of its table.
use Rattle.std.proofs.Common.{◌≡◌, ℕ, suc, ◌+◌, Bool, true, false, cond, not, ◌&&◌, List, [], ◌∷◌, length, Option, Some, None, Result, Ok, Err, refl, ap, ◌∙◌, arith}
use Rattle.std.specs.Prelude.{is_some, nat_le, nat_lt, codes, option_map, ◌↔◌, ◌++◌}
use Rattle.std.specs.List.{list_all}
use Rattle.std.specs.Str.{bytes_eq}
use Rattle.std.specs.Option.{option_or, option_and_then, option_map_or, ok_or}
use Rattle.std.proofs.lemmas.Option.{same_Some}
use Rattle.ipc_ids.specs.Tables.{most_events, most_tasks}
use Rattle.ipc_ids.specs.declared.numbers.TaskNo.{TaskNo}
use Rattle.ipc_ids.specs.declared.message.Event.{Event}
use Rattle.ipc_ids.specs.declared.message.Event.TheVariants as events
use Rattle.script_lines.specs.declared.fault.Reason.{Reason}
use Rattle.script_lines.specs.declared.fault.Reason.TheVariants.{UnknownOperation, WrongCount, BadWord, UnknownName, NameTaken, TooMany, TooManyEvents}
use Rattle.script_reader.specs.declared.schedule.EventVerb.{EventVerb}
use Rattle.script_reader.specs.declared.schedule.EventVerb.TheVariants.{Step, Kill, Hangup, Spawn}
use Rattle.script_lines.specs.Text.{is_allowed, words}
use Rattle.script_lines.specs.Word.{number, is_name, name_of}
use Rattle.script_lines.specs.Operation.{◌>>=◌, needed}
use Rattle.script_lines.specs.Plan.{Plan}
use Rattle.script_lines.specs.Names.{task_names, place_of, task_named}
use Rattle.script_reader.specs.Schedule.{event_verb_of, count_of, step_with, step_of, kill_of, hangup_of, with_events}
use Rattle.script_reader.specs.EventLine.{EventsAndNames, unless, is_taken, spawn_place, with_spawn, spawn_of, with_repeated, after_event_verb, after_event_words, after_event_line, after_event}
use Rattle.script_reader.specs.Reasons.{THE, UP_TO, event_forms, has_wrong_count, has_bad_word, event_names_unknown, event_name_is_taken, are_too_many_tasks, passes_limit, are_too_many_events, is_unknown_operation, on_line, event_reasons}
use Rattle.script_reader.specs.Rows.{Row, IsFirstReason, first_reason, fault_in}
use Rattle.script_lines.proofs.NearPlaces.{flip}
use Rattle.script_reader.proofs.FormFaults.{differ, bind_ok}
use Rattle.script_reader.proofs.Faults.{bind_fault, rows_join, bytes_first, at_fault_both, ok_is}

abbrev given : (A : Type 0) → A → Result A Reason
given A x = Ok x

-- ---- one word after another

name_first : {X : Type 0} (name : List ℕ) (then : List ℕ → Result X Reason) (g : Bool) (rest : List Row) → fault_in (then name) ≡ first_reason ((BadWord, not g && true) ∷ rest)
    → fault_in (needed (name_of name) >>= then) ≡ first_reason ((BadWord, not (is_name name && g) && true) ∷ rest)
unfolding name_of
name_first name then g rest h = go (is_name name) where
  go : (b : Bool) → fault_in (needed (cond b (Some name) None) >>= then) ≡ first_reason ((BadWord, not (b && g) && true) ∷ rest)
  go true = h
  go false = refl

word_first : {A X : Type 0} (o : Option A) (then : A → Result X Reason) (g : Bool) (rest : List Row) → ((x : A) → fault_in (then x) ≡ first_reason ((BadWord, not g && true) ∷ rest))
    → fault_in (needed o >>= then) ≡ first_reason ((BadWord, not (is_some o && g) && true) ∷ rest)
word_first (Some x) then g rest h = h x
word_first None then g rest h = refl

task_last : {X : Type 0} (names : List (List ℕ)) (name : List ℕ) (f : TaskNo → X)
    → fault_in (ok_or (task_named names name) UnknownName >>= λ task. Ok (f task)) ≡ first_reason ((BadWord, not true && true) ∷ (UnknownName, not (is_some (place_of names name))) ∷ [])
unfolding task_named
task_last names name f = go (place_of names name) where
  go : (o : Option ℕ) → fault_in (ok_or (option_map (λ place. record { 0 = place + 1 }) o) UnknownName >>= λ task. Ok (f task)) ≡ first_reason ((UnknownName, not (is_some o)) ∷ [])
  go (Some place) = refl
  go None = refl

is_count : (times word : List ℕ) → is_some (count_of times word) ≡ (THE (codes "x") times && UP_TO most_events word)
unfolding count_of
is_count times word = rw (flip (codes "x") times) (go (bytes_eq times (codes "x")) (number word)) where
  pick : (b c d : Bool) (n : ℕ) → is_some (cond (b && c && d) (Some n) None) ≡ (b && (c && d))
  pick true true true n = refl
  pick true true false n = refl
  pick true false d n = refl
  pick false c d n = refl

  go : (b : Bool) (o : Option ℕ) → is_some (option_and_then (λ n. cond (b && nat_le 1 n && nat_le n most_events) (Some n) None) o) ≡ (b && option_map_or (λ n. nat_le 1 n && nat_le n most_events) o false)
  go true None = refl
  go false None = refl
  go b (Some n) = pick b (nat_le 1 n) (nat_le n most_events) n

-- ---- what each line names

-- the rows from the count of words up to the name
abbrev name_rows : EventVerb → List (List ℕ) → List (List ℕ) → List Row
name_rows verb names words =
    (WrongCount, has_wrong_count (event_forms verb) words) ∷ (BadWord, has_bad_word (event_forms verb) words) ∷ (UnknownName, event_names_unknown [] names verb words) ∷ []

step_with_says : (names : List (List ℕ)) (name : List ℕ) (count : Option ℕ)
    → fault_in (step_with names name count) ≡ first_reason ((BadWord, not (is_name name && (is_some count && true)) && true) ∷ (UnknownName, not (is_some (place_of names name))) ∷ [])
unfolding step_with
step_with_says names name count =
    name_first name (λ n. needed count >>= λ k. ok_or (task_named names n) UnknownName >>= λ t. Ok (events.Step t, k)) (is_some count && true) ((UnknownName, not (is_some (place_of names name))) ∷ [])
    (word_first count (λ k. ok_or (task_named names name) UnknownName >>= λ t. Ok (events.Step t, k)) true ((UnknownName, not (is_some (place_of names name))) ∷ [])
    (λ k. task_last names name (λ t. (events.Step t, k))))

and_same : (a b c : Bool) → (a && ((b && c) && true)) ≡ (a && (b && (c && true)))
and_same true true c = refl
and_same true false c = refl
and_same false b c = refl

step_says : (names words : List (List ℕ)) → fault_in (step_of names words) ≡ first_reason (name_rows Step names words)
unfolding step_of
step_says names [] = refl
step_says names (a ∷ []) = step_with_says names a (Some 1)
step_says names (a ∷ b ∷ []) = refl
step_says names (a ∷ b ∷ c ∷ []) =
    step_with_says names a (count_of b c)
    ∙ ap (λ (g : Bool). first_reason ((BadWord, not g && true) ∷ (UnknownName, not (is_some (place_of names a))) ∷ []))
    (ap (λ (g : Bool). is_name a && (g && true)) (is_count b c) ∙ and_same (is_name a) (THE (codes "x") b) (UP_TO most_events c))
step_says names (a ∷ b ∷ c ∷ d ∷ others) = rw (differ 1 (suc (suc (suc (suc (length others))))) (omega arith), differ 3 (suc (suc (suc (suc (length others))))) (omega arith)) refl

kill_says : (names words : List (List ℕ)) → fault_in (kill_of names words) ≡ first_reason (name_rows Kill names words)
unfolding kill_of
kill_says names [] = refl
kill_says names (a ∷ []) =
    name_first a (λ n. ok_or (task_named names n) UnknownName >>= λ t. Ok (events.Kill t, 1)) true ((UnknownName, not (is_some (place_of names a))) ∷ [])
    (task_last names a (λ t. (events.Kill t, 1)))
kill_says names (a ∷ b ∷ others) = rw (differ 1 (suc (suc (length others))) (omega arith)) refl

hangup_says : (names words : List (List ℕ)) → fault_in (hangup_of names words) ≡ first_reason (name_rows Hangup names words)
unfolding hangup_of
hangup_says names [] = refl
hangup_says names (a ∷ []) = refl
hangup_says names (a ∷ b ∷ []) =
    name_first a (λ n. needed (number b) >>= λ p. ok_or (task_named names n) UnknownName >>= λ t. Ok (events.Hangup t p, 1)) (is_some (number b) && true) ((UnknownName, not (is_some (place_of names a))) ∷ [])
    (word_first (number b) (λ p. ok_or (task_named names a) UnknownName >>= λ t. Ok (events.Hangup t p, 1)) true ((UnknownName, not (is_some (place_of names a))) ∷ [])
    (λ p. task_last names a (λ t. (events.Hangup t p, 1))))
hangup_says names (a ∷ b ∷ c ∷ others) = rw (differ 2 (suc (suc (suc (length others)))) (omega arith)) refl

-- ---- how many events it gives

step_count : (names : List (List ℕ)) (name : List ℕ) (count : Option ℕ) (x : Event × ℕ) → step_with names name count ≡ Ok x → count ≡ Some x.1
unfolding step_with
step_count names name count x e = go (name_of name) count e where
  last : (p : Option TaskNo) (k : ℕ) → (ok_or p UnknownName >>= λ t. Ok (events.Step t, k)) ≡ Ok x → Some k ≡ Some x.1
  last (Some t) k e = ap (λ (y : Event × ℕ). Some y.1) (ok_is (events.Step t, k) x e)
  last None k e = absurd cc

  go : (o : Option (List ℕ)) (c : Option ℕ) → (needed o >>= λ n. needed c >>= λ k. ok_or (task_named names n) UnknownName >>= λ t. Ok (events.Step t, k)) ≡ Ok x → c ≡ Some x.1
  go (Some n) (Some k) e = last (task_named names n) k e
  go (Some n) None e = absurd cc
  go None c e = absurd cc

count_is : (times word : List ℕ) (k : ℕ) → count_of times word ≡ Some k → number word ≡ Some k
unfolding count_of
count_is times word k e = go (number word) e where
  pick : (b : Bool) (n : ℕ) → cond b (Some n) None ≡ Some k → Some n ≡ Some k
  pick true n e = e
  pick false n e = absurd cc

  go : (o : Option ℕ) → option_and_then (λ n. cond (bytes_eq times (codes "x") && nat_le 1 n && nat_le n most_events) (Some n) None) o ≡ Some k → o ≡ Some k
  go (Some n) e = pick (bytes_eq times (codes "x") && nat_le 1 n && nat_le n most_events) n e
  go None e = absurd cc

with_events_fault : (before : List Event) (event : Event) (count : ℕ) → fault_in (with_events before event count) ≡ first_reason ((TooManyEvents, passes_limit before count) ∷ [])
unfolding with_events
with_events_fault before event count = go (nat_lt most_events (length before + count)) _ where
  go : {A : Type 0} (b : Bool) (made : A) → fault_in (cond b (Err TooManyEvents) (Ok made)) ≡ first_reason ((TooManyEvents, b) ∷ [])
  go true made = refl
  go false made = refl

step_rest : (names : List (List ℕ)) (before : List Event) (words : List (List ℕ)) (x : Event × ℕ) → step_of names words ≡ Ok x
    → fault_in (with_events before x.0 x.1) ≡ first_reason ((TooManyEvents, are_too_many_events before Step words) ∷ [])
unfolding step_of
step_rest names before [] x e = absurd cc
step_rest names before (a ∷ []) x e = rw (same_Some 1 x.1 (step_count names a (Some 1) x e)) (with_events_fault before x.0 x.1)
step_rest names before (a ∷ b ∷ []) x e = absurd cc
step_rest names before (a ∷ b ∷ c ∷ []) x e = rw (count_is b c x.1 (step_count names a (count_of b c) x e)) (with_events_fault before x.0 x.1)
step_rest names before (a ∷ b ∷ c ∷ d ∷ others) x e = absurd cc

-- an event that comes once
once : (names : List (List ℕ)) (name : List ℕ) (event : TaskNo → Event) (x : Event × ℕ) → (ok_or (task_named names name) UnknownName >>= λ t. Ok (event t, 1)) ≡ Ok x → 1 ≡ x.1
once names name event x e = go (task_named names name) e where
  go : (p : Option TaskNo) → (ok_or p UnknownName >>= λ t. Ok (event t, 1)) ≡ Ok x → 1 ≡ x.1
  go (Some t) e = ap (λ (y : Event × ℕ). y.1) (ok_is (event t, 1) x e)
  go None e = absurd cc

behind_needed : {A X : Type 0} {P : Type 0} (o : Option A) (then : A → Result X Reason) (x : X) → ((y : A) → then y ≡ Ok x → P) → (needed o >>= then) ≡ Ok x → P
behind_needed (Some y) then x h e = h y e
behind_needed None then x h e = absurd cc

kill_rest : (names : List (List ℕ)) (before : List Event) (words : List (List ℕ)) (x : Event × ℕ) → kill_of names words ≡ Ok x
    → fault_in (with_events before x.0 x.1) ≡ first_reason ((TooManyEvents, are_too_many_events before Kill words) ∷ [])
unfolding kill_of
kill_rest names before [] x e = absurd cc
kill_rest names before (a ∷ []) x e =
    let one : 1 ≡ x.1 = behind_needed (name_of a) (λ n. ok_or (task_named names n) UnknownName >>= λ t. Ok (events.Kill t, 1)) x (λ n f. once names n (λ t. events.Kill t) x f) e in
    rw one (with_events_fault before x.0 x.1)
kill_rest names before (a ∷ b ∷ others) x e = absurd cc

hangup_rest : (names : List (List ℕ)) (before : List Event) (words : List (List ℕ)) (x : Event × ℕ) → hangup_of names words ≡ Ok x
    → fault_in (with_events before x.0 x.1) ≡ first_reason ((TooManyEvents, are_too_many_events before Hangup words) ∷ [])
unfolding hangup_of
hangup_rest names before [] x e = absurd cc
hangup_rest names before (a ∷ []) x e = absurd cc
hangup_rest names before (a ∷ b ∷ []) x e =
    let one : 1 ≡ x.1 = behind_needed (name_of a) (λ n. needed (number b) >>= λ p. ok_or (task_named names n) UnknownName >>= λ t. Ok (events.Hangup t p, 1)) x
    (λ n. behind_needed (number b) (λ p. ok_or (task_named names n) UnknownName >>= λ t. Ok (events.Hangup t p, 1)) x (λ p f. once names n (λ t. events.Hangup t p) x f)) e in
    rw one (with_events_fault before x.0 x.1)
hangup_rest names before (a ∷ b ∷ c ∷ others) x e = absurd cc

-- ---- a task that is made

join_row : (reason : Reason) (b : Bool) (rows rest : List Row) → option_or (first_reason rows) (first_reason rest) ≡ first_reason (rows ++ rest)
    → option_or (cond b (Some reason) (first_reason rows)) (first_reason rest) ≡ cond b (Some reason) (first_reason (rows ++ rest))
join_row reason true rows rest e = refl
join_row reason false rows rest e = e

join : (rows rest : List Row) → option_or (first_reason rows) (first_reason rest) ≡ first_reason (rows ++ rest)
join [] rest = refl
join (row ∷ rows) rest = join_row row.0 row.1 rows rest (join rows rest)

module _ (templates : List (List ℕ)) (before : EventsAndNames) (a b : List ℕ) where
  abbrev behind_names : List Row
  behind_names = (UnknownName, not (is_some (place_of templates a))) ∷ (NameTaken, is_taken templates before.names b) ∷ (TooMany, nat_le most_tasks (length before.names)) ∷ []

  abbrev found : Option ℕ → Bool → Bool → Result ℕ Reason
  found p taken full = ok_or p UnknownName >>= λ place. unless taken NameTaken >>= λ free. unless full TooMany >>= λ room. Ok place

  found_says : (p : Option ℕ) (taken full : Bool) → fault_in (found p taken full) ≡ first_reason ((UnknownName, not (is_some p)) ∷ (NameTaken, taken) ∷ (TooMany, full) ∷ [])
  found_says None taken full = refl
  found_says (Some place) true full = refl
  found_says (Some place) false true = refl
  found_says (Some place) false false = refl

  place_says : fault_in (spawn_place templates before.names a b) ≡ first_reason ((BadWord, not (is_name a && (is_name b && true)) && true) ∷ behind_names)
  unfolding spawn_place
  place_says =
      name_first a (λ t. needed (name_of b) >>= λ n. found (place_of templates t) (is_taken templates before.names n) (nat_le most_tasks (length before.names))) (is_name b && true) behind_names
      (name_first b (λ n. found (place_of templates a) (is_taken templates before.names n) (nat_le most_tasks (length before.names))) true behind_names
      (found_says (place_of templates a) (is_taken templates before.names b) (nat_le most_tasks (length before.names))))

  spawn_says : fault_in (spawn_place templates before.names a b >>= λ place. with_spawn before place b)
      ≡ first_reason ((BadWord, not (is_name a && (is_name b && true)) && true) ∷ behind_names ++ (TooManyEvents, passes_limit before.events 1) ∷ [])
  spawn_says =
      let rest : List Row = (TooManyEvents, passes_limit before.events 1) ∷ [] in
      bind_fault (spawn_place templates before.names a b) (λ place. with_spawn before place b) rest
      (λ place is. bind_ok (with_events before.events (events.Spawn place) 1) _ ∙ with_events_fault before.events (events.Spawn place) 1)
      ∙ ap (λ (o : Option Reason). option_or o (first_reason rest)) place_says
      ∙ join ((BadWord, not (is_name a && (is_name b && true)) && true) ∷ behind_names) rest

-- ---- any line

-- the rows from the count of words on
abbrev rows_of : List (List ℕ) → EventsAndNames → EventVerb → List (List ℕ) → List Row
rows_of templates before verb words =
    (WrongCount, has_wrong_count (event_forms verb) words)
    ∷ (BadWord, has_bad_word (event_forms verb) words)
    ∷ (UnknownName, event_names_unknown templates before.names verb words)
    ∷ (NameTaken, event_name_is_taken templates before.names verb words)
    ∷ (TooMany, are_too_many_tasks before.names verb words)
    ∷ (TooManyEvents, are_too_many_events before.events verb words) ∷ []

spawn_line : (templates : List (List ℕ)) (before : EventsAndNames) (words : List (List ℕ)) → fault_in (spawn_of templates before words) ≡ first_reason (rows_of templates before Spawn words)
spawn_line templates before [] = refl
spawn_line templates before (a ∷ []) = refl
spawn_line templates before (a ∷ b ∷ []) = spawn_says templates before a b
spawn_line templates before (a ∷ b ∷ c ∷ others) = rw (differ 2 (suc (suc (suc (length others)))) (omega arith)) refl

event_line : (before : EventsAndNames) (verb : EventVerb) (words : List (List ℕ)) (r : Result (Event × ℕ) Reason)
    → fault_in r ≡ first_reason (name_rows verb before.names words)
    → ((x : Event × ℕ) → r ≡ Ok x → fault_in (with_events before.events x.0 x.1) ≡ first_reason ((TooManyEvents, are_too_many_events before.events verb words) ∷ []))
    → fault_in (r >>= with_repeated before)
    ≡ first_reason (
    (WrongCount, has_wrong_count (event_forms verb) words) ∷ (BadWord, has_bad_word (event_forms verb) words)
    ∷ (UnknownName, event_names_unknown [] before.names verb words) ∷ (TooManyEvents, are_too_many_events before.events verb words) ∷ [])
event_line before verb words r says h =
    let rest : List Row = (TooManyEvents, are_too_many_events before.events verb words) ∷ [] in
    bind_fault r (with_repeated before) rest (λ x is. bind_ok (with_events before.events x.0 x.1) _ ∙ h x is) ∙ ap (λ (o : Option Reason). option_or o (first_reason rest)) says
    ∙ rows_join (has_wrong_count (event_forms verb) words) (has_bad_word (event_forms verb) words) (event_names_unknown [] before.names verb words) WrongCount BadWord UnknownName rest

-- an event on a task names no template
same_names : (templates names : List (List ℕ)) (words : List (List ℕ))
    → (event_names_unknown templates names Step words ≡ event_names_unknown [] names Step words)
    × (event_names_unknown templates names Kill words ≡ event_names_unknown [] names Kill words)
    × (event_names_unknown templates names Hangup words ≡ event_names_unknown [] names Hangup words)
same_names templates names [] = (refl, refl, refl)
same_names templates names (name ∷ others) = (refl, refl, refl)

known_event : (templates : List (List ℕ)) (before : EventsAndNames) (verb : Option EventVerb) (others : List (List ℕ))
    → fault_in (after_event_verb templates before verb others)
    ≡ first_reason (
    (UnknownOperation, not (is_some verb))
    ∷ (WrongCount, option_map_or (λ v. has_wrong_count (event_forms v) others) verb false)
    ∷ (BadWord, option_map_or (λ v. has_bad_word (event_forms v) others) verb false)
    ∷ (UnknownName, option_map_or (λ v. event_names_unknown templates before.names v others) verb false)
    ∷ (NameTaken, option_map_or (λ v. event_name_is_taken templates before.names v others) verb false)
    ∷ (TooMany, option_map_or (λ v. are_too_many_tasks before.names v others) verb false)
    ∷ (TooManyEvents, option_map_or (λ v. are_too_many_events before.events v others) verb false) ∷ [])
known_event templates before None others = refl
known_event templates before (Some Step) others = rw ((same_names templates before.names others).0) (event_line before Step others (step_of before.names others) (step_says before.names others) (step_rest before.names before.events others))
known_event templates before (Some Kill) others = rw ((same_names templates before.names others).1) (event_line before Kill others (kill_of before.names others) (kill_says before.names others) (kill_rest before.names before.events others))
known_event templates before (Some Hangup) others = rw ((same_names templates before.names others).2) (event_line before Hangup others (hangup_of before.names others) (hangup_says before.names others) (hangup_rest before.names before.events others))
known_event templates before (Some Spawn) others = spawn_line templates before others

event_words : (templates : List (List ℕ)) (before : EventsAndNames) (ws : List (List ℕ)) → fault_in (after_event_words templates before ws)
    ≡ first_reason (
    (UnknownOperation, is_unknown_operation event_verb_of ws)
    ∷ (WrongCount, on_line event_verb_of (λ verb others. has_wrong_count (event_forms verb) others) ws)
    ∷ (BadWord, on_line event_verb_of (λ verb others. has_bad_word (event_forms verb) others) ws)
    ∷ (UnknownName, on_line event_verb_of (event_names_unknown templates before.names) ws)
    ∷ (NameTaken, on_line event_verb_of (event_name_is_taken templates before.names) ws)
    ∷ (TooMany, on_line event_verb_of (are_too_many_tasks before.names) ws)
    ∷ (TooManyEvents, on_line event_verb_of (are_too_many_events before.events) ws) ∷ [])
event_words templates before [] = refl
event_words templates before (first ∷ others) = known_event templates before (event_verb_of first) others

abbrev tail_of : List Row → List Row
tail_of [] = []
tail_of (row ∷ rows) = rows

pub event_fault : (script : Plan) (before : EventsAndNames) (line : List ℕ) → fault_in (after_event script before line) ≡ first_reason (event_reasons script before line)
unfolding after_event_line
event_fault script before line =
    bytes_first (list_all is_allowed line) (after_event_words (task_names script.templates) before (words line)) (tail_of (event_reasons script before line)) (event_words (task_names script.templates) before (words line))

pub event_told : (script : Plan) (before : EventsAndNames) (line : List ℕ) (reason : Reason) → (after_event script before line ≡ Err reason) ↔ IsFirstReason (event_reasons script before line) reason
event_told script before line = at_fault_both (after_event script before line) (event_reasons script before line) (event_fault script before line)
