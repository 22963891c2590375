-- The events that lines make are each on a task that was made before, also where tasks are made on the way.
use Rattle.std.proofs.Common.{◌≡◌, ℕ, zero, suc, ◌+◌, ◌≤◌, ◌<◌, Bool, true, false, ltb, List, [], ◌∷◌, ◌++◌, length, Option, Some, None, Result, Ok, Err, refl, sym, ap, subst, ◌∙◌, arith, length-append}
use Rattle.std.specs.Prelude.{⊤, IfOk, replicate, nat_le}
use Rattle.std.specs.List.{list_all}
use Rattle.std.specs.Option.{ok_or}
use Rattle.std.specs.Str.{bytes_eq}
use Rattle.std.proofs.lemmas.Bool.Decides.{nat_tests}
use Rattle.std.proofs.lemmas.Bool.{ltb-false}
use Rattle.std.proofs.lemmas.List.{length-map, length-replicate}
use Rattle.std.proofs.lemmas.List.Quantifiers.{position-Some}
use Rattle.ipc_ids.specs.Tables.{most_tasks}
use Rattle.ipc_ids.specs.declared.message.Event.{Event}
use Rattle.ipc_ids.specs.declared.message.Event.TheVariants.{Spawn}
use Rattle.script_lines.specs.declared.fault.Reason.{Reason}
use Rattle.script_lines.specs.declared.fault.Reason.TheVariants.{UnknownName, NameTaken, TooMany}
use Rattle.script_lines.specs.declared.plan.TaskPlan.{TaskPlan}
use Rattle.script_reader.specs.Grammar.{Makes}
use Rattle.script_reader.specs.EventLine.{EventsAndNames, no_events, unless, is_taken, spawn_place, with_spawn, spawn_of, with_repeated, after_event_verb, after_event_words, after_event_line, after_event, SpellsEvents}
use Rattle.script_reader.specs.Reading.{schedule_of, fault_in_schedule, Agrees}
use Rattle.script_lines.specs.declared.fault.ScheduleFault.{ScheduleFault}
use Rattle.script_reader.specs.declared.schedule.EventVerb.{EventVerb}
use Rattle.script_reader.specs.declared.schedule.EventVerb.TheVariants as verbs
use Rattle.script_reader.proofs.ReaderAnswers.{events_spelled}
use Rattle.std.specs.Global.{Vec}
use Rattle.script_lines.specs.Names.{task_names, place_of}
use Rattle.script_lines.specs.Operation.{◌>>=◌, needed}
use Rattle.script_lines.specs.Plan.{Plan}
use Rattle.script_reader.specs.Schedule.{task_of_event, MayAllCome, tasks_after, step_of, kill_of, hangup_of, event_verb_of, with_events}
use Rattle.script_lines.specs.Sound.{IsTask}
use Rattle.script_lines.specs.Text.{is_allowed, words}
use Rattle.script_lines.specs.Word.{name_of}
use Rattle.script_lines.proofs.Faultless.{then_ok, found_is, chosen_ok, allowed_ok}
use Rattle.script_lines.proofs.Soundness.{made_is}
use Rattle.script_reader.proofs.EventTasks.{IsOn, may_on, steps_on, kill_on, hangup_on}

-- how many tasks there are after events
abbrev tasks_after_all : ℕ → List Event → ℕ
tasks_after_all n [] = n
tasks_after_all n (e ∷ es) = tasks_after_all (tasks_after n e) es

after_append : (n : ℕ) (xs ys : List Event) → tasks_after_all n (xs ++ ys) ≡ tasks_after_all (tasks_after_all n xs) ys
after_append n [] ys = refl
after_append n (x ∷ xs) ys = after_append (tasks_after n x) xs ys

may_append : (n t : ℕ) (xs ys : List Event) → MayAllCome n t xs → MayAllCome (tasks_after_all n xs) t ys → MayAllCome n t (xs ++ ys)
may_append n t [] ys may later = later
may_append n t (x ∷ xs) ys may later = (may.0, may_append (tasks_after n x) t xs ys may.1 later)

may_times : (n t count : ℕ) (e : Event) → IsTask n (task_of_event e).0 → MayAllCome n t (replicate count e) × (tasks_after_all n (replicate count e) ≡ n)
may_times n t zero e on = (tt, refl)
may_times n t (suc count) e on =
    let one = may_on n t e on in
    let rest = may_times n t count e on in
    ((one.0, subst (λ (m : ℕ). MayAllCome m t (replicate count e)) (sym one.1) rest.0), ap (λ (m : ℕ). tasks_after_all m (replicate count e)) one.1 ∙ rest.1)

-- what the lines of a schedule make fits its script
record Fits (script : Plan) (made : EventsAndNames) : Type 0 where
  few : length made.events ≤ 65536
  may : MayAllCome (length script.tasks) (length script.templates) made.events
  known : length made.names ≡ tasks_after_all (length script.tasks) made.events

-- events that were added
added : (before : List Event) (event : Event) (times : ℕ) (after : List Event) → with_events before event times ≡ Ok after → (after ≡ before ++ replicate times event) × (length before + times ≤ 65536)
unfolding with_events
added before event times after e =
    let got = allowed_ok (ltb 65536 (length before + times)) (before ++ replicate times event) after e in
    (sym got.1, ltb-false _ _ got.0)

pub free_ok : (b : Bool) (reason : Reason) (x : ⊤) → unless b reason ≡ Ok x → b ≡ false
free_ok true reason x e = absurd (cc e)
free_ok false reason x e = refl

module _ (script : Plan) (before : EventsAndNames) (fits : Fits script before) where
  -- an event on a task, so many times
  more_fit : (event : Event) (times : ℕ) (after : EventsAndNames) → IsTask (length before.names) (task_of_event event).0 → with_repeated before (event, times) ≡ Ok after → Fits script after
  more_fit event times after on e =
      let made = then_ok (with_events before.events event times) _ after e in
      let got = added before.events event times made.0 made.1 in
      let there : IsTask (tasks_after_all (length script.tasks) before.events) (task_of_event event).0 = subst (λ (n : ℕ). IsTask n (task_of_event event).0) fits.known on in
      let more = may_times (tasks_after_all (length script.tasks) before.events) (length script.templates) times event there in
      let len = length-append before.events (replicate times event) ∙ ap (λ (n : ℕ). length before.events + n) (length-replicate times event) in
      let room = got.1 in
      subst (Fits script) (made_is _ after made.2) (record {
        few = rw (got.0) (omega (arith, len, room));
        may = rw (got.0) (may_append (length script.tasks) (length script.templates) before.events (replicate times event) fits.may more.0);
        known = rw (got.0) (fits.known ∙ sym (after_append (length script.tasks) before.events (replicate times event) ∙ more.1));
      })

  -- a task that is made
  one_more : (place : ℕ) (name : List ℕ) (after : EventsAndNames) → place < length script.templates → length before.names < 64 → with_spawn before place name ≡ Ok after → Fits script after
  one_more place name after within few e =
      let made = then_ok (with_events before.events (Spawn place) 1) _ after e in
      let got = added before.events (Spawn place) 1 made.0 made.1 in
      let n : ℕ = tasks_after_all (length script.tasks) before.events in
      let known = fits.known in
      let room : n < most_tasks = omega (arith, few, known) in
      let len = length-append before.events (Spawn place ∷ []) in
      let limit = got.1 in
      subst (Fits script) (made_is _ after made.2) (record {
        few = rw (got.0) (omega (arith, len, limit));
        may = rw (got.0) (may_append (length script.tasks) (length script.templates) before.events (Spawn place ∷ []) fits.may ((within, room), tt));
        known = rw (got.0) (let names = length-append before.names (name ∷ []) in names ∙ ap (λ (m : ℕ). m + 1) known ∙ sym (after_append (length script.tasks) before.events (Spawn place ∷ [])));
      })

  below : (n : ℕ) → nat_le most_tasks n ≡ false → n < 64
  below n h = grind (arith, nat_tests)

  spawn_fits : (words : List (List ℕ)) (after : EventsAndNames) → spawn_of (task_names script.templates) before words ≡ Ok after → Fits script after
  unfolding spawn_place
  spawn_fits (template ∷ name ∷ []) after e =
      let chosen = then_ok (spawn_place (task_names script.templates) before.names template name) (λ place. with_spawn before place name) after e in
      let first = then_ok (needed (name_of template)) _ chosen.0 chosen.1 in
      let second = then_ok (needed (name_of name)) _ chosen.0 first.2 in
      let found = then_ok (ok_or (place_of (task_names script.templates) first.0) UnknownName) _ chosen.0 second.2 in
      let free = then_ok (unless (is_taken (task_names script.templates) before.names second.0) NameTaken) _ chosen.0 found.2 in
      let room = then_ok (unless (nat_le most_tasks (length before.names)) TooMany) _ chosen.0 free.2 in
      let within = (position-Some (λ known. bytes_eq first.0 known) (task_names script.templates) found.0 [] (found_is _ found.0 found.1)).0 in
      let long = length-map script.templates (λ (t : TaskPlan). t.name) in
      let same : found.0 ≡ chosen.0 = made_is found.0 chosen.0 room.2 in
      one_more chosen.0 name after (omega (arith, within, long, same)) (below (length before.names) (free_ok _ TooMany room.0 room.1)) chosen.2
  spawn_fits _ after e = absurd cc

  task_fits : (r : Result (Event × ℕ) Reason) (after : EventsAndNames) → ((x : Event × ℕ) → r ≡ Ok x → IsOn (length before.names) x.0) → (r >>= with_repeated before) ≡ Ok after → Fits script after
  task_fits r after on e =
      let got = then_ok r (with_repeated before) after e in
      more_fit got.0.0 got.0.1 after (on got.0 got.1) got.2

  verb_fits : (verb : Option EventVerb) (others : List (List ℕ)) (after : EventsAndNames) → after_event_verb (task_names script.templates) before verb others ≡ Ok after → Fits script after
  verb_fits None others after e = absurd cc
  verb_fits (Some verbs.Step) others after e = task_fits (step_of before.names others) after (steps_on before.names others) e
  verb_fits (Some verbs.Kill) others after e = task_fits (kill_of before.names others) after (kill_on before.names others) e
  verb_fits (Some verbs.Hangup) others after e = task_fits (hangup_of before.names others) after (hangup_on before.names others) e
  verb_fits (Some verbs.Spawn) others after e = spawn_fits others after e

  words_fit : (words : List (List ℕ)) (after : EventsAndNames) → after_event_words (task_names script.templates) before words ≡ Ok after → Fits script after
  words_fit [] after e = subst (Fits script) (made_is before after e) fits
  words_fit (first ∷ others) after e = verb_fits (event_verb_of first) others after e

  line_fits : (line : List ℕ) (after : EventsAndNames) → after_event script before line ≡ Ok after → Fits script after
  unfolding after_event_line
  line_fits line after e =
      words_fit (words line) after (chosen_ok (list_all is_allowed line) (after_event_words (task_names script.templates) before (words line)) after e)

lines_fit : (script : Plan) (lines : List (List ℕ)) (before after : EventsAndNames) → Fits script before → Makes (after_event script) before lines after → Fits script after
lines_fit script [] before after fits made = subst (Fits script) (sym made) fits
lines_fit script (line ∷ lines) before after fits made =
    lines_fit script lines made.0 after (line_fits script before fits line made.0 made.1) made.2

begun : (script : Plan) → Fits script (no_events script)
begun script = record { few = omega arith; may = tt; known = length-map script.tasks (λ (t : TaskPlan). t.name) }

spelled_fit : (script : Plan) (text : List ℕ) (events : List Event) → SpellsEvents script text events → (length events ≤ 65536) × MayAllCome (length script.tasks) (length script.templates) events
spelled_fit script text events s =
    let fits = lines_fit script _ (no_events script) s.0 (begun script) s.1.lines_make in
    subst (λ (es : List Event). (length es ≤ 65536) × MayAllCome (length script.tasks) (length script.templates) es) s.2 (fits.few, fits.may)

-- each event of a schedule is on a task that was made by then, and a task is made from a template while there are few
pub read_may : (script : Plan) (text : List ℕ) (events : List Event) → schedule_of script text ≡ Ok events → MayAllCome (length script.tasks) (length script.templates) events
read_may script text events e = (spelled_fit script text events (events_spelled script text events e)).1

pub few_events : (script : Plan) (text : List ℕ) (r : Result (Vec Event) ScheduleFault) → IfOk r (λ got. SpellsEvents script text got.items) → IfOk r (λ got. length got.items ≤ 65536)
few_events script text (Ok got) spells = (spelled_fit script text got.items spells).0
few_events script text (Err fault) spells = tt

pub events_may : (script : Plan) (text : List ℕ) (r : Result (Vec Event) ScheduleFault) → IfOk r (λ got. SpellsEvents script text got.items) → IfOk r (λ got. MayAllCome (length script.tasks) (length script.templates) got.items)
events_may script text (Ok got) spells = (spelled_fit script text got.items spells).1
events_may script text (Err fault) spells = tt

-- the same of what a reader answers
pub read_few : (script : Plan) (text : List ℕ) (r : Result (List Event) ScheduleFault) → Agrees fault_in_schedule r (schedule_of script text) → IfOk r (λ events. length events ≤ 65536)
read_few script text (Ok events) agrees = (spelled_fit script text events (events_spelled script text events agrees)).0
read_few script text (Err fault) agrees = tt

pub read_all_may : (script : Plan) (text : List ℕ) (r : Result (List Event) ScheduleFault) → Agrees fault_in_schedule r (schedule_of script text) → IfOk r (λ events. MayAllCome (length script.tasks) (length script.templates) events)
read_all_may script text (Ok events) agrees = read_may script text events agrees
read_all_may script text (Err fault) agrees = tt
