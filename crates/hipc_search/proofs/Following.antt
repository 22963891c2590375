-- Lines behind those of a schedule go on from what these made.
use Rattle.std.proofs.Common.{◌≡◌, ℕ, ◌+◌, ◌≤◌, Bool, true, false, cond, List, [], ◌∷◌, ◌++◌, length, Result, Ok, Err, refl, sym, ap, ◌∙◌, inl, inr, append-nil, length-append, arith, le-ltb}
use Rattle.std.specs.Prelude.{codes, nat_lt, ◌==◌}
use Rattle.std.specs.List.{onto_first, list_all}
use Rattle.std.proofs.lemmas.Bool.{cases_Bool}
use Rattle.std.proofs.lemmas.List.{length-map}
use Rattle.std.proofs.lemmas.List.Splits.{slice_split-cons_yes, slice_split-cons_no}
use Rattle.ipc_ids.specs.Tables.{most_bytes, most_events}
use Rattle.ipc_ids.specs.declared.message.Event.{Event}
use Rattle.script_lines.specs.declared.fault.Reason.{Reason}
use Rattle.script_lines.specs.declared.fault.Reason.TheVariants.{TooLong}
use Rattle.script_lines.specs.declared.plan.TaskPlan.{TaskPlan}
use Rattle.script_lines.specs.Names.{task_names}
use Rattle.script_lines.specs.Plan.{Plan}
use Rattle.script_lines.specs.Text.{is_allowed, lines, first_line, behind}
use Rattle.script_lines.proofs.Lines.{lines_of, lines_cut}
use Rattle.script_reader.specs.EventLine.{EventsAndNames, no_events, after_event, after_event_line}
use Rattle.script_reader.specs.Reading.{at_line, lines_from, reading, events_alone, schedule_of}
use Rattle.search_goals.specs.Lines.{comment_text}
use Rattle.search_goals.specs.Writing.{with_more, Adds}
use Rattle.search_goals.proofs.Adding.{none_added}
use Rattle.search_goals.proofs.Texts.{comment_adds, ends}
use Rattle.hipc_search.specs.Asking.{few_first, first_events}
use Rattle.hipc_search.specs.Schedule.{events_and_names, Precedes}
use Rattle.hipc_search.proofs.ListWords.{line_ok}
use Rattle.hipc_search.proofs.Knowing.{lines_named}

-- ---- the lines of two texts

abbrev is_feed : ℕ → Bool
is_feed b = b == 10

onto_both : (x : ℕ) (w : List ℕ) (ws us vs : List (List ℕ)) → us ≡ w ∷ ws → onto_first x (us ++ vs) ≡ onto_first x us ++ vs
onto_both x w ws us vs e =
    ap (λ (zs : List (List ℕ)). onto_first x (zs ++ vs)) e ∙ ap (λ (zs : List (List ℕ)). onto_first x zs ++ vs) (sym e)

pub lines_both : (first second : List ℕ) → lines ((first ++ 10 ∷ []) ++ second) ≡ lines first ++ lines second
lines_both [] second = slice_split-cons_yes is_feed 10 second refl
lines_both (x ∷ first) second = elim (cases_Bool (x == 10)) [
  | inl e ↦
      slice_split-cons_yes is_feed x ((first ++ 10 ∷ []) ++ second) e
      ∙ ap (λ (ls : List (List ℕ)). [] ∷ ls) (lines_both first second)
      ∙ ap (λ (ls : List (List ℕ)). ls ++ lines second) (sym (slice_split-cons_yes is_feed x first e))
  | inr e ↦
      slice_split-cons_no is_feed x ((first ++ 10 ∷ []) ++ second) e
      ∙ ap (onto_first x) (lines_both first second)
      ∙ onto_both x (first_line first) (lines_of (behind first)) (lines first) (lines second) (lines_cut first)
      ∙ ap (λ (ls : List (List ℕ)). ls ++ lines second) (sym (slice_split-cons_no is_feed x first e))
]

-- ---- reading goes on

-- reading all lines goes on behind the first of them, from this number on
record GoesOn {A : Type 0} (after : A → List ℕ → Result A Reason) (n : ℕ) (x y : A) (ls : List (List ℕ)) : Type 0 where
  from_here : ℕ
  same : (ms : List (List ℕ)) → lines_from after n x (ls ++ ms) ≡ lines_from after from_here y ms

read_on : {A : Type 0} (after : A → List ℕ → Result A Reason) (n : ℕ) (x y : A) (ls : List (List ℕ))
    → lines_from after n x ls ≡ Ok y → GoesOn after n x y ls
read_on {A} after n x y [] e =
    let same : x ≡ y = cc in
    record { from_here = n; same = λ (ms : List (List ℕ)). ap (λ (z : A). lines_from after n z ms) same }
read_on {A} after n x y (l ∷ ls) e =
    let one = line_ok n (after x l) (λ next. lines_from after (n + 1) next ls) y e in
    let later = read_on after (n + 1) one.0 y ls one.2 in
    record {
      from_here = later.from_here;
      same = λ (ms : List (List ℕ)).
          ap (λ (r : Result A Reason). at_line n r (λ next. lines_from after (n + 1) next (ls ++ ms))) one.1
          ∙ later.same ms;
    }

-- lines that are no fault are none from any number on
any_number : {A : Type 0} (after : A → List ℕ → Result A Reason) (n m : ℕ) (x y : A) (ls : List (List ℕ))
    → lines_from after n x ls ≡ Ok y → lines_from after m x ls ≡ Ok y
any_number {A} after n m x y [] e = e
any_number {A} after n m x y (l ∷ ls) e =
    let one = line_ok n (after x l) (λ next. lines_from after (n + 1) next ls) y e in
    ap (λ (r : Result A Reason). at_line m r (λ next. lines_from after (m + 1) next ls)) one.1
    ∙ any_number after (n + 1) (m + 1) one.0 y ls one.2

-- ---- a schedule that comes first

short_ok : (long : Bool) (r : Result EventsAndNames (ℕ × Reason)) (first : EventsAndNames)
    → cond long (Err (0, TooLong)) r ≡ Ok first → r ≡ Ok first
short_ok true r first e = absurd cc
short_ok false r first e = e

module _ (plan : Plan) (bytes : List ℕ) (first : EventsAndNames) where
  abbrev after : EventsAndNames → List ℕ → Result EventsAndNames Reason
  after = after_event_line (task_names plan.templates)

  pub lines_made : reading after (no_events plan) bytes ≡ Ok first → lines_from after 1 (no_events plan) (lines bytes) ≡ Ok first
  unfolding reading
  lines_made e = short_ok (nat_lt most_bytes (length bytes)) (lines_from after 1 (no_events plan) (lines bytes)) first e

  all_read : (text : List ℕ) (r : Result EventsAndNames (ℕ × Reason)) → length (bytes ++ codes "\n") + length text ≤ most_bytes
      → lines_from after 1 (no_events plan) (lines bytes ++ lines text) ≡ r
      → events_and_names plan ((bytes ++ codes "\n") ++ text) ≡ r
  unfolding reading
  all_read text r short e =
      let long = length-append (bytes ++ codes "\n") text in
      rw (le-ltb 1048576 (length ((bytes ++ codes "\n") ++ text)) (omega (arith, long, short)))
      (ap (lines_from after 1 (no_events plan)) (lines_both bytes text) ∙ e)

  -- a text behind lines that were read, which adds events
  text_read : (m : ℕ) (text : List ℕ) (more : List Event) (known : List (List ℕ))
      → length first.events + length more ≤ most_events → Adds (task_names plan.templates) first.names text more known
      → lines_from after m first (lines text) ≡ Ok (with_more first more known)
  text_read m text more known room adds =
      ap (λ (t : List ℕ). lines_from after m first (lines t)) (sym (append-nil text))
      ∙ adds.read m first [] refl room
      ∙ ends (task_names plan.templates) (m + adds.count) (with_more first more known)

  -- a schedule comes first, and the end of its last line
  pub schedule_first : reading after (no_events plan) bytes ≡ Ok first → Precedes plan (bytes ++ codes "\n") first
  schedule_first e =
      let made = lines_made e in
      let on = read_on after 1 (no_events plan) first (lines bytes) made in
      record {
        goes_on = λ text more known adds short few.
            all_read text (Ok (with_more first more known)) short
            (on.same (lines text) ∙ text_read on.from_here text more known few adds);
        all_named = lines_named (task_names plan.templates) (length plan.tasks) 1 (no_events plan) first (lines bytes)
            (length-map plan.tasks (λ (t : TaskPlan). t.name)) made;
      }

-- nothing comes first
alone_read : (plan : Plan) (text : List ℕ) (more : List Event) (known : List (List ℕ)) → length text ≤ most_bytes
    → length more ≤ most_events → Adds (task_names plan.templates) (task_names plan.tasks) text more known
    → events_and_names plan text ≡ Ok (with_more (no_events plan) more known)
unfolding reading
alone_read plan text more known short few adds =
    rw (le-ltb 1048576 (length text) short)
    (text_read plan [] (no_events plan) 1 text more known (omega (arith, few)) adds)

pub nothing_first : (plan : Plan) → Precedes plan [] (no_events plan)
nothing_first plan =
    record {
      goes_on = λ text more known adds short few.
          alone_read plan text more known (omega (arith, short)) (omega (arith, few)) adds;
      all_named = length-map plan.tasks (λ (t : TaskPlan). t.name);
    }

-- the names that are known behind the bytes that come first
pub names_first : (plan : Plan) (before : List ℕ) (first : EventsAndNames) (names : List (List ℕ)) → Precedes plan before first
    → length before ≤ most_bytes → length first.events ≤ most_events
    → ((made : EventsAndNames) → lines_from (after_event plan) 1 (no_events plan) (lines before) ≡ Ok made → names ≡ made.names)
    → names ≡ first.names
names_first plan before first names precedes short few known =
    let here : EventsAndNames = with_more first [] first.names in
    let read : events_and_names plan (before ++ []) ≡ Ok here =
    precedes.goes_on [] [] first.names (none_added (task_names plan.templates) first.names) (omega (arith, short))
    (omega (arith, few)) in
    known here
    (ap (λ (text : List ℕ). lines_from (after_event plan) 1 (no_events plan) (lines text)) (sym (append-nil before))
    ∙ lines_made plan (before ++ []) here read)

-- a comment changes nothing in front of a schedule
pub comment_read : (plan : Plan) (comment text : List ℕ) (made : EventsAndNames) → list_all is_allowed comment ≡ true
    → length (comment_text comment) + length text ≤ most_bytes → events_and_names plan text ≡ Ok made
    → events_and_names plan (comment_text comment ++ text) ≡ Ok made
unfolding reading
comment_read plan comment text made allowed short e =
    let after : EventsAndNames → List ℕ → Result EventsAndNames Reason = after_event_line (task_names plan.templates) in
    let long = length-append (comment_text comment) text in
    let line = comment_adds (task_names plan.templates) (task_names plan.tasks) comment allowed in
    rw (le-ltb 1048576 (length (comment_text comment ++ text)) (omega (arith, long, short)))
    (line.read 1 (no_events plan) text refl (omega arith)
    ∙ any_number after 1 (1 + line.count) (no_events plan) made (lines text) (lines_made plan text made e))

-- ---- what is read of it

pub read_made : (plan : Plan) (bytes : List ℕ) (events : List Event) (names : List (List ℕ)) → schedule_of plan bytes ≡ Ok events
    → ((made : EventsAndNames) → lines_from (after_event plan) 1 (no_events plan) (lines bytes) ≡ Ok made → names ≡ made.names)
    → reading (after_event plan) (no_events plan) bytes ≡ Ok (record { events = events; names = names })
read_made plan bytes events names e known = by_read (reading (after_event plan) (no_events plan) bytes) refl e where
  by_read : (r : Result EventsAndNames (ℕ × Reason)) → reading (after_event plan) (no_events plan) bytes ≡ r
      → events_alone r ≡ Ok events
      → reading (after_event plan) (no_events plan) bytes ≡ Ok (record { events = events; names = names })
  by_read (Ok made) is alone =
      let same : made.events ≡ events = cc alone in
      is
      ∙ ap (λ (es : List Event). Ok (record { events = es; names = made.names })) same
      ∙ ap (λ (ns : List (List ℕ)). Ok (record { events = events; names = ns })) (sym (known made (lines_made plan bytes made is)))
  by_read (Err fault) is alone = absurd (cc alone)

pub few_read : (plan : Plan) (bytes : List ℕ) (first : EventsAndNames) → length bytes ≤ 524288 → length first.events ≤ 32768
    → reading (after_event plan) (no_events plan) bytes ≡ Ok first → first_events plan bytes ≡ Ok first
unfolding first_events
few_read plan bytes first short few e =
    rw (le-ltb 524288 (length bytes) short) (ap few_first e ∙ rw (le-ltb 32768 (length first.events) few) refl)
