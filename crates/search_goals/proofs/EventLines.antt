-- The line of an event adds it.
use Rattle.std.proofs.Common.{◌≡◌, ℕ, ◌+◌, ◌^◌, ◌≤◌, ◌<◌, Bool, true, false, List, [], ◌∷◌, ◌++◌, length, Some, Result, Ok, refl, sym, ap, subst, ◌∙◌, arith, le-ltb, decimal}
use Rattle.std.specs.Prelude.{codes, replicate, nat_lt}
use Rattle.std.proofs.lemmas.Bool.{ltb-false, lt-leb}
use Rattle.std.proofs.lemmas.List.{length-replicate}
use Rattle.ipc_ids.specs.declared.numbers.TaskNo.{TaskNo}
use Rattle.ipc_ids.specs.declared.message.Event.{Event}
use Rattle.ipc_ids.specs.declared.message.Event.TheVariants as events
use Rattle.script_lines.specs.declared.fault.Reason.{Reason}
use Rattle.script_lines.specs.Names.{task_named, place_of}
use Rattle.script_lines.specs.Operation.{◌>>=◌}
use Rattle.script_lines.specs.Word.{is_name, name_of, number}
use Rattle.script_reader.specs.Schedule.{count_of, step_with, step_of, kill_of, hangup_of, event_verb_of, with_events}
use Rattle.script_reader.specs.EventLine.{EventsAndNames, spawn_place, with_spawn, with_repeated, after_event_words}
use Rattle.script_reader.proofs.StepLines.{step_says}
use Rattle.search_goals.specs.Lines.{step_text, kill_text, hangup_text, spawn_text}
use Rattle.search_goals.specs.Writing.{IsNameOf, IsNew, with_more, Adds}
use Rattle.search_goals.proofs.Spaced.{IsWord}
use Rattle.search_goals.proofs.Adding.{WordsAdd, line_adds}
use Rattle.search_goals.proofs.Decimals.{number_decimal, count_decimal, decimal_word}
use Rattle.search_goals.proofs.NameWords.{name_word}

-- ---- what an event that is read adds

room_for : (before : EventsAndNames) (event : Event) (count : ℕ) → length before.events + count ≤ 65536 →
    with_events before.events event count ≡ Ok (before.events ++ replicate count event)
unfolding with_events
room_for before event count room = rw (le-ltb 65536 (length before.events + count) room) refl

repeated : (before : EventsAndNames) (event : Event) (count : ℕ) (names : List (List ℕ)) → before.names ≡ names
    → length before.events + count ≤ 65536
    → with_repeated before (event, count) ≡ Ok (with_more before (replicate count event) names)
repeated before event count names same room =
    ap (λ (r : Result (List Event) Reason). r >>= λ events. Ok (record { events = events; names = before.names }))
    (room_for before event count room)
    ∙ ap (λ (ns : List (List ℕ)). Ok (record { events = before.events ++ replicate count event; names = ns })) same

reads : (before : EventsAndNames) (r : Result (Event × ℕ) Reason) (event : Event) (count : ℕ) (names : List (List ℕ))
    → before.names ≡ names → r ≡ Ok (event, count) → length before.events + length (replicate count event) ≤ 65536
    → (r >>= with_repeated before) ≡ Ok (with_more before (replicate count event) names)
reads before r event count names same e room =
    let long = length-replicate count event in
    ap (λ (s : Result (Event × ℕ) Reason). s >>= with_repeated before) e
    ∙ repeated before event count names same (omega (arith, long, room))

-- ---- words

step_is : (names : List (List ℕ)) (name : List ℕ) (task : TaskNo) (count : ℕ) → is_name name ≡ true →
    task_named names name ≡ Some task → step_with names name (Some count) ≡ Ok (events.Step task, count)
unfolding step_with name_of
step_is names name task count good found = rw good (rw found cc)

one_is : (names : List (List ℕ)) (name : List ℕ) → step_of names (name ∷ []) ≡ step_with names name (Some 1)
unfolding step_of
one_is names name = refl

times_is : (names : List (List ℕ)) (name digits : List ℕ) →
    step_of names (name ∷ codes "x" ∷ digits ∷ []) ≡ step_with names name (count_of (codes "x") digits)
unfolding step_of
times_is names name digits = refl

kill_is : (names : List (List ℕ)) (name : List ℕ) (task : TaskNo) → is_name name ≡ true →
    task_named names name ≡ Some task → kill_of names (name ∷ []) ≡ Ok (events.Kill task, 1)
unfolding kill_of name_of
kill_is names name task good found = rw good (rw found cc)

hangup_is : (names : List (List ℕ)) (name digits : List ℕ) (task : TaskNo) (phone : ℕ) → is_name name ≡ true →
    task_named names name ≡ Some task → number digits ≡ Some phone
    → hangup_of names (name ∷ digits ∷ []) ≡ Ok (events.Hangup task phone, 1)
unfolding hangup_of name_of
hangup_is names name digits task phone good found spelled = rw good (rw spelled (rw found cc))

kill_says : (templates : List (List ℕ)) (before : EventsAndNames) (others : List (List ℕ)) →
    after_event_words templates before (codes "kill" ∷ others) ≡ (kill_of before.names others >>= with_repeated
    before)
unfolding event_verb_of
kill_says templates before others = refl

hangup_says : (templates : List (List ℕ)) (before : EventsAndNames) (others : List (List ℕ)) →
    after_event_words templates before (codes "hangup" ∷ others) ≡ (hangup_of before.names others >>= with_repeated
    before)
unfolding event_verb_of
hangup_says templates before others = refl

spawn_says : (templates : List (List ℕ)) (before : EventsAndNames) (template name : List ℕ) →
    after_event_words templates before (codes "spawn" ∷ template ∷ name ∷ []) ≡ (spawn_place templates before.names
    template name >>= λ place. with_spawn before place name)
unfolding event_verb_of
spawn_says templates before template name = refl

-- ---- an event on a task

module _ (templates names : List (List ℕ)) (task : TaskNo) (name : List ℕ) (has : IsNameOf names task name) where
  found : (known : List (List ℕ)) → known ≡ names → task_named known name ≡ Some task
  found known e = ap (λ (ns : List (List ℕ)). task_named ns name) e ∙ has.1

  good : IsWord name
  good = (name_word name has.0).0

  one_step : WordsAdd templates names (codes "step" ∷ name ∷ []) (replicate 1 (events.Step task)) names
  one_step before same room =
      step_says templates before (name ∷ [])
      ∙ reads before _ (events.Step task) 1 names same (one_is before.names name
      ∙ step_is before.names name task 1 has.0 (found before.names same)) room

  steps : (count : ℕ) → 1 ≤ count → count ≤ 65536 →
      WordsAdd templates names (codes "step" ∷ name ∷ codes "x" ∷ decimal count ∷ []) (replicate count (events.Step task)) names
  steps count lo hi before same room =
      step_says templates before (name ∷ codes "x" ∷ decimal count ∷ [])
      ∙ reads before _ (events.Step task) count names same
      (times_is before.names name (decimal count) ∙ ap (step_with before.names name) (count_decimal count lo hi)
      ∙ step_is before.names name task count has.0 (found before.names same)) room

  one_kill : WordsAdd templates names (codes "kill" ∷ name ∷ []) (replicate 1 (events.Kill task)) names
  one_kill before same room =
      kill_says templates before (name ∷ [])
      ∙ reads before _ (events.Kill task) 1 names same (kill_is before.names name task has.0 (found before.names same))
      room

  one_hangup : (phone : ℕ) → phone < 2 ^ 64 → WordsAdd templates names (codes "hangup" ∷ name ∷ decimal phone ∷ [])
      (replicate 1 (events.Hangup task phone)) names
  one_hangup phone fits before same room =
      hangup_says templates before (name ∷ decimal phone ∷ [])
      ∙ reads before _ (events.Hangup task phone) 1 names same (hangup_is before.names name (decimal phone) task phone has.0
      (found before.names same) (number_decimal phone fits)) room

  -- ---- lines

  times_are : (count : ℕ) (b : Bool) → nat_lt 1 count ≡ b → 1 ≤ count → count ≤ 65536 →
      Adds templates names (step_text name count) (replicate count (events.Step task)) names
  times_are count true e lo hi =
      rw e (line_adds templates names (codes "step") (name ∷ codes "x" ∷ decimal count ∷ [])
      (replicate count (events.Step task)) names (omega arith, refl)
      (good, ((omega arith, refl), (decimal_word count (omega (arith, hi)), tt))) (steps count lo hi))
  times_are count false e lo hi =
      let once : count ≡ 1 = (let few = ltb-false 1 count e in omega (arith, few, lo)) in
      subst (λ (n : ℕ). Adds templates names (step_text name n) (replicate n (events.Step task)) names) (sym once)
      (line_adds templates names (codes "step") (name ∷ []) (replicate 1 (events.Step task)) names (omega arith, refl)
      (good, tt) one_step)

  pub step_adds : (count : ℕ) → 1 ≤ count → count ≤ 65536 →
      Adds templates names (step_text name count) (replicate count (events.Step task)) names
  step_adds count lo hi = times_are count (nat_lt 1 count) refl lo hi

  pub kill_adds : Adds templates names (kill_text name) (replicate 1 (events.Kill task)) names
  kill_adds = line_adds templates names (codes "kill") (name ∷ []) (replicate 1 (events.Kill task)) names (omega arith, refl)
      (good, tt) one_kill

  pub hangup_adds : (phone : ℕ) → phone < 2 ^ 64 →
      Adds templates names (hangup_text name phone) (replicate 1 (events.Hangup task phone)) names
  hangup_adds phone fits =
      line_adds templates names (codes "hangup") (name ∷ decimal phone ∷ []) (replicate 1 (events.Hangup task phone)) names
      (omega arith, refl) (good, (decimal_word phone fits, tt)) (one_hangup phone fits)

-- ---- a task that is made

-- a template has this name, and a task that is made may have that name
module _ (templates names : List (List ℕ)) (place : ℕ) (template name : List ℕ) (named : is_name template ≡ true)
    (at : place_of templates template ≡ Some place) (new : IsNew templates names name) (room : length names < 64) where
  may_be_made : spawn_place templates names template name ≡ Ok place
  unfolding spawn_place name_of
  may_be_made = rw (named, new.good, at, new.free, lt-leb 64 (length names) room) refl

  one_spawn : WordsAdd templates names (codes "spawn" ∷ template ∷ name ∷ []) (events.Spawn place ∷ []) (names ++ name ∷ [])
  one_spawn before same few =
      spawn_says templates before template name
      ∙ ap (λ (ns : List (List ℕ)). spawn_place templates ns template name >>= λ place. with_spawn before place name) same
      ∙ ap (λ (r : Result ℕ Reason). r >>= λ place. with_spawn before place name) may_be_made
      ∙ ap (λ (r : Result (List Event) Reason). r >>= λ events. Ok (record { events = events; names = before.names ++ name ∷ [] }))
      (room_for before (events.Spawn place) 1 few)
      ∙ ap (λ (ns : List (List ℕ)). Ok (record { events = before.events ++ events.Spawn place ∷ []; names = ns ++ name ∷ [] })) same

  pub spawn_adds : Adds templates names (spawn_text template name) (events.Spawn place ∷ []) (names ++ name ∷ [])
  spawn_adds =
      line_adds templates names (codes "spawn") (template ∷ name ∷ []) (events.Spawn place ∷ []) (names ++ name ∷ [])
      (omega arith, refl) ((name_word template named).0, ((name_word name new.good).0, tt)) one_spawn
