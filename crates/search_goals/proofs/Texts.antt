-- The text of a schedule, line by line and as a whole.
use Rattle.std.proofs.Common.{◌≡◌, ℕ, zero, suc, ◌+◌, ◌^◌, ◌≤◌, ◌<◌, ◌⊎◌, Bool, true, false, List, [], ◌∷◌, ◌++◌, length, Ok, refl, sym, ap, subst, ◌∙◌, inl, inr, append_assoc, arith, length-append, decimal, Some}
use Rattle.std.specs.Prelude.{codes, replicate, nat_lt, ◌==◌}
use Rattle.std.specs.List.{list_all}
use Rattle.std.proofs.lemmas.Bool.{cases_Bool, and_parts, eqb-true, true≢false}
use Rattle.std.proofs.lemmas.List.{length-replicate}
use Rattle.trace_print.proofs.Digits.{length_20}
use Rattle.ipc_ids.specs.declared.numbers.TaskNo.{TaskNo}
use Rattle.ipc_ids.specs.declared.message.Event.{Event}
use Rattle.ipc_ids.specs.declared.message.Event.TheVariants as events
use Rattle.script_lines.specs.Names.{place_of}
use Rattle.script_lines.specs.Text.{lines, is_allowed, first_line, behind}
use Rattle.script_lines.specs.Word.{is_name}
use Rattle.script_reader.specs.EventLine.{EventsAndNames, after_event_line}
use Rattle.script_reader.specs.Reading.{lines_from}
use Rattle.script_reader.specs.Schedule.{MayCome, MayAllCome, tasks_after}
use Rattle.script_lines.proofs.Lines.{first_end, first_more, behind_end, behind_more}
use Rattle.search_goals.specs.Lines.{comment_text, times_text, step_text, kill_text, hangup_text, spawn_text}
use Rattle.search_goals.specs.Writing.{IsNameOf, IsNew, tasks_behind, Adds, Writes, IsFront, IsUnderWay, IsStep}
use Rattle.search_goals.proofs.Adding.{one_read, with_none, writes_line, writes_both}
use Rattle.search_goals.proofs.EventLines.{step_adds, kill_adds, hangup_adds, spawn_adds}
use Rattle.search_goals.proofs.NameWords.{name_word}

-- ---- how long the lines are

times_short : (count : ℕ) (b : Bool) → nat_lt 1 count ≡ b → count < 2 ^ 64 → length (times_text count) ≤ 23
times_short count true e fits = rw e (let parts = length-append (codes " x ")
    (decimal count) in let few = length_20 count fits in omega (arith, parts, few))
times_short count false e fits = rw e (omega arith)

step_short : (name : List ℕ) (count : ℕ) → length name ≤ 15 → count < 2 ^ 64 → length (step_text name count) ≤ 44
step_short name count few fits =
    let times = times_text count in
    let a = length-append (codes "step ") (name ++ (times ++ codes "\n")) in
    let b = length-append name (times ++ codes "\n") in
    let c = length-append times (codes "\n") in
    let d = times_short count (nat_lt 1 count) refl fits in
    omega (arith, a, b, c, d, few)

kill_short : (name : List ℕ) → length name ≤ 15 → length (kill_text name) ≤ 44
kill_short name few =
    let a = length-append (codes "kill ") (name ++ codes "\n") in
    let b = length-append name (codes "\n") in
    omega (arith, a, b, few)

hangup_short : (name : List ℕ) (phone : ℕ) → length name ≤ 15 → phone < 2 ^ 64 →
    length (hangup_text name phone) ≤ 44
hangup_short name phone few fits =
    let digits = decimal phone in
    let a = length-append (codes "hangup ") (name ++ (codes " " ++ (digits ++ codes "\n"))) in
    let b = length-append name (codes " " ++ (digits ++ codes "\n")) in
    let c = length-append (codes " ") (digits ++ codes "\n") in
    let d = length-append digits (codes "\n") in
    let e = length_20 phone fits in
    omega (arith, a, b, c, d, e, few)

spawn_short : (template name : List ℕ) → length template ≤ 15 → length name ≤ 15 → length (spawn_text template name) ≤ 44
spawn_short template name few also =
    let a = length-append (codes "spawn ") (template ++ (codes " " ++ (name ++ codes "\n"))) in
    let b = length-append template (codes " " ++ (name ++ codes "\n")) in
    let c = length-append (codes " ") (name ++ codes "\n") in
    let d = length-append name (codes "\n") in
    omega (arith, a, b, c, d, few, also)

-- ---- the line of an event

steps_make_none : (n count : ℕ) (task : TaskNo) → tasks_behind n (replicate count (events.Step task)) ≡ n
steps_make_none n zero task = refl
steps_make_none n (suc count) task = steps_make_none n count task

module _ (templates names : List (List ℕ)) (task : TaskNo) (name old new : List ℕ) (event : Event) (count : ℕ)
    (has : IsNameOf names task name) where
  few : length name ≤ 15
  few = (name_word name has.0).1

  pub step_written : event ≡ events.Step task → 1 ≤ count → count ≤ 16384 → new ≡ old ++ step_text name count →
      Writes templates names old new (replicate count event) names
  step_written e lo hi parts =
      subst (λ (z : Event). Writes templates names old new (replicate count z) names) (sym e)
      (writes_line templates names old new (step_text name count)
      (replicate count (events.Step task)) names parts (step_adds templates names task name has count lo (omega (arith, hi)))
      (let short = step_short name count few (omega (arith, hi)) in let long = length-replicate count (events.Step
      task) in omega (arith, short, long, lo))
      (sym (steps_make_none (length names) count task)))

  pub kill_written : event ≡ events.Kill task → count ≡ 1 → new ≡ old ++ kill_text name →
      Writes templates names old new (replicate count event) names
  kill_written e once parts =
      subst (λ (z : Event). Writes templates names old new (replicate count z) names) (sym e)
      (subst (λ (n : ℕ). Writes templates names old new (replicate n (events.Kill task)) names) (sym once)
      (writes_line templates names old new (kill_text name)
      (replicate 1 (events.Kill task)) names parts (kill_adds templates names task name has) (kill_short name few) refl))

  pub hangup_written : (phone : ℕ) → event ≡ events.Hangup task phone → count ≡ 1 → phone < 2 ^ 64 →
      new ≡ old ++ hangup_text name phone → Writes templates names old new (replicate count event) names
  hangup_written phone e once fits parts =
      subst (λ (z : Event). Writes templates names old new (replicate count z) names) (sym e)
      (subst (λ (n : ℕ). Writes templates names old new (replicate n (events.Hangup task phone)) names) (sym once)
      (writes_line templates names old new (hangup_text name phone)
      (replicate 1 (events.Hangup task phone)) names parts (hangup_adds templates names task name has phone fits)
      (hangup_short name phone few fits) refl))

pub spawn_written : (templates names : List (List ℕ)) (place : ℕ) (template name old new : List ℕ) → is_name template ≡ true
    → place_of templates template ≡ Some place → IsNew templates names name → length names < 64
    → new ≡ old ++ spawn_text template name
    → Writes templates names old new (events.Spawn place ∷ []) (names ++ name ∷ [])
spawn_written templates names place template name old new named at fresh room parts =
    writes_line templates names old new (spawn_text template name) (events.Spawn place ∷ []) (names ++ name ∷ []) parts
    (spawn_adds templates names place template name named at fresh room)
    (spawn_short template name (name_word template named).1 (name_word name fresh.good).1)
    (length-append names (name ∷ []))

-- what is no step comes once
pub once : (event : Event) (count : ℕ) → IsStep event ⊎ (count ≡ 1) → (IsStep event → ⊥) → count ≡ 1
once event count (inl step) never = absurd (never step)
once event count (inr one) never = one

-- so it is where a task is made
pub made_written : (templates names known : List (List ℕ)) (place : ℕ) (old new : List ℕ) (event : Event) (count : ℕ)
    → event ≡ events.Spawn place → count ≡ 1 → Writes templates names old new (events.Spawn place ∷ []) known
    → Writes templates names old new (replicate count event) known
made_written templates names known place old new event count e one wrote =
    subst (λ (z : Event). Writes templates names old new (replicate count z) known) (sym e)
    (subst (λ (n : ℕ). Writes templates names old new (replicate n (events.Spawn place)) known) (sym one) wrote)

-- ---- what may come

pub may_after : (n t : ℕ) (xs ys : List Event) → MayAllCome n t (xs ++ ys) → MayAllCome (tasks_behind n xs) t ys
may_after n t [] ys may = may
may_after n t (x ∷ xs) ys may = may_after (tasks_after n x) t xs ys may.1

-- the first of several may come, and the others behind it
pub may_first : (n t count : ℕ) (left : List Event) (first : Event) (others : List Event) → IsFront left first count others
    → MayAllCome n t left → MayCome n t first
may_first n t zero left first others front may = absurd (let some : 1 ≤ 0 = front.some in omega arith)
may_first n t (suc count) left first others front may = (subst (MayAllCome n t) front.parts may).0

pub may_others : (n t count : ℕ) (left : List Event) (first : Event) (others : List Event) → IsFront left first count others
    → MayAllCome n t left → MayAllCome (tasks_behind n (replicate count first)) t others
may_others n t count left first others front may =
    may_after n t (replicate count first) others (subst (MayAllCome n t) front.parts may)

-- there are no more of it than there are
pub count_within : (left : List Event) (first : Event) (count : ℕ) (others : List Event) → IsFront left first count others
    → count ≤ length left
count_within left first count others front =
    let a = length-append (replicate count first) others in
    let b = length-replicate count first in
    let e = ap length front.parts in
    omega (arith, a, b, e)

-- ---- line by line

module _ (templates start names known : List (List ℕ)) (old mid new : List ℕ) (left whole : List Event) (first : Event)
    (count : ℕ) (others : List Event) (front : IsFront left first count others) where
  pub step_on : IsUnderWay templates start old mid left whole names → Writes templates names mid new (replicate count first) known →
      IsUnderWay templates start old new others whole known
  step_on way wrote = record {
    done = way.done ++ replicate count first;
    parts = way.parts ∙ ap (λ (es : List Event). way.done ++ es) front.parts
        ∙ sym (append_assoc way.done (replicate count first) others);
    wrote = writes_both templates start names known old mid new way.done (replicate count first) way.wrote wrote;
  }

  long : length left ≡ count + length others
  long =
      let a = length-append (replicate count first) others in let b = length-replicate count first in
      ap length front.parts ∙ (omega (arith, a, b))

  pub shorter : length others < length left
  shorter = let a = long in let b = front.some in omega (arith, a, b)

-- ---- the comment

not_feed : (b : ℕ) → is_allowed b ≡ true → (b == 10) ≡ false
not_feed b h = elim (cases_Bool (b == 10)) [
  | inl e ↦ absurd (true≢false (sym h ∙ ap is_allowed (eqb-true b 10 e)))
  | inr e ↦ e
]

comment_line : (w rest : List ℕ) → list_all is_allowed w ≡ true → first_line ((w ++ 10 ∷ []) ++ rest) ≡ w
comment_line [] rest h = first_end 10 rest refl
comment_line (b ∷ w) rest h =
    let parts = and_parts (is_allowed b) (list_all is_allowed w) h in
    first_more b ((w ++ 10 ∷ []) ++ rest) (not_feed b parts.0) ∙ ap (λ l. b ∷ l) (comment_line w rest parts.1)

comment_behind : (w rest : List ℕ) → list_all is_allowed w ≡ true → behind ((w ++ 10 ∷ []) ++ rest) ≡ Some rest
comment_behind [] rest h = behind_end 10 rest refl
comment_behind (b ∷ w) rest h =
    let parts = and_parts (is_allowed b) (list_all is_allowed w) h in
    behind_more b ((w ++ 10 ∷ []) ++ rest) (not_feed b parts.0) ∙ comment_behind w rest parts.1

comment_says : (templates : List (List ℕ)) (before : EventsAndNames) (w : List ℕ) →
    list_all is_allowed (35 ∷ w) ≡ true → after_event_line templates before (35 ∷ w) ≡ Ok before
unfolding after_event_line
comment_says templates before w h = rw h refl

pub comment_adds : (templates names : List (List ℕ)) (w : List ℕ) → list_all is_allowed w ≡ true
    → Adds templates names (comment_text w) [] names
comment_adds templates names w h = record {
  count = 1;
  read = λ n before rest same room.
      one_read (after_event_line templates) n before before (comment_text w ++ rest) rest (comment_behind (35 ∷ 32
      ∷ w) rest h)
      (ap (after_event_line templates before) (comment_line (35 ∷ 32 ∷ w) rest h)
      ∙ comment_says templates before (32 ∷ w) h)
      ∙ ap (λ (b : EventsAndNames). lines_from (after_event_line templates) (n + 1) b (lines rest))
      (with_none before names same);
}

-- ---- the whole text

pub ends : (templates : List (List ℕ)) (n : ℕ) (made : EventsAndNames) →
    lines_from (after_event_line templates) n made (lines []) ≡ Ok made
unfolding after_event_line
ends templates n made = refl
