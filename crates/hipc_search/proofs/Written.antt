-- The text of a schedule that was found is read as its events.
use Rattle.std.proofs.Common.{◌≡◌, ℕ, zero, suc, ◌^◌, ◌≤◌, ◌<◌, Bool, true, false, List, [], ◌∷◌, ◌++◌}
use Rattle.std.proofs.Common.{length, take, Ok, refl, sym, ap, subst, ◌∙◌, append_assoc, length-append, arith, decimal, le-leb, ne_eqb}
use Rattle.std.specs.Prelude.{codes, if◌then◌else◌, nat_le}
use Rattle.std.specs.Char.{is_ascii_digit}
use Rattle.std.specs.List.{list_all}
use Rattle.std.proofs.lemmas.Bool.{and_parts, and_from, leb-true}
use Rattle.std.proofs.lemmas.List.Folds.{list_all-append}
use Rattle.trace_print.proofs.Digits.{length_20}
use Rattle.ipc_ids.specs.declared.message.Event.{Event}
use Rattle.script_lines.specs.Names.{task_names}
use Rattle.script_lines.specs.Text.{is_allowed}
use Rattle.script_reader.specs.Reading.{events_alone, schedule_of}
use Rattle.search_goals.specs.Lines.{comment_text}
use Rattle.script_reader.specs.Schedule.{MayAllCome}
use Rattle.search_goals.specs.Writing.{tasks_behind, Writes}
use Rattle.search_goals.proofs.Adding.{both_added, writes_both}
use Rattle.search_goals.proofs.Decimals.{are_digits}
use Rattle.search_goals.proofs.Texts.{comment_adds}
use Rattle.schedule_search.specs.Search.{Search, first_tasks}
use Rattle.hipc_search.specs.Moves.{living_steps}
use Rattle.hipc_search.specs.Schedule.{found_comment, asks_for_end, closing, IsSchedule, Precedes}
use Rattle.hipc_search.proofs.Steps.{living_come, living_few}

-- ---- the comment

digit_allowed : (b : ℕ) → is_ascii_digit b ≡ true → is_allowed b ≡ true
digit_allowed b h =
    let parts = and_parts (nat_le 48 b) (nat_le b 57) h in
    let low = leb-true 48 b parts.0 in
    let high = leb-true b 57 parts.1 in
    rw (
      ne_eqb b 9 (λ (e : b ≡ 9). omega (arith, e, low)),
      le-leb 32 b (omega (arith, low)),
      le-leb b 126 (omega (arith, high)),
    ) refl

pub digits_allowed : (w : List ℕ) → list_all is_ascii_digit w ≡ true → list_all is_allowed w ≡ true
digits_allowed [] h = refl
digits_allowed (b ∷ w) h =
    let parts = and_parts (is_ascii_digit b) (list_all is_ascii_digit w) h in
    and_from _ _ (digit_allowed b parts.0) (digits_allowed w parts.1)

cut_allowed : (n : ℕ) (w : List ℕ) → list_all is_allowed w ≡ true → list_all is_allowed (take n w) ≡ true
cut_allowed zero w h = refl
cut_allowed (suc n) [] h = refl
cut_allowed (suc n) (b ∷ w) h =
    let parts = and_parts (is_allowed b) (list_all is_allowed w) h in
    and_from _ _ parts.0 (cut_allowed n w parts.1)

pub both_allowed : (v w : List ℕ) → list_all is_allowed v ≡ true → list_all is_allowed w ≡ true → list_all is_allowed (v ++ w) ≡ true
both_allowed v w h k = list_all-append is_allowed v w ∙ and_from _ _ h k

pub comment_allowed : (goal : List ℕ) (events : ℕ) → events < 2 ^ 64 → list_all is_allowed goal ≡ true
    → list_all is_allowed (found_comment goal events) ≡ true
comment_allowed goal events fits h =
    both_allowed (take 1024 goal) (codes ": " ++ (decimal events ++ codes " events")) (cut_allowed 1024 goal h)
    (both_allowed (codes ": ") (decimal events ++ codes " events") refl
    (both_allowed (decimal events) (codes " events") (digits_allowed (decimal events) (are_digits events fits)) refl))

cut_short : (n : ℕ) (w : List ℕ) → length (take n w) ≤ n
cut_short zero w = omega arith
cut_short (suc n) [] = omega arith
cut_short (suc n) (b ∷ w) = let less = cut_short n w in omega (arith, less)

pub comment_short : (goal : List ℕ) (events : ℕ) → events < 2 ^ 64 → length (comment_text (found_comment goal events)) ≤ 1100
comment_short goal events fits =
    let a = length-append (codes "# ") (found_comment goal events ++ codes "\n") in
    let b = length-append (found_comment goal events) (codes "\n") in
    let c = length-append (take 1024 goal) (codes ": " ++ (decimal events ++ codes " events")) in
    let d = length-append (codes ": ") (decimal events ++ codes " events") in
    let e = length-append (decimal events) (codes " events") in
    let f = length_20 events fits in
    let g = cut_short 1024 goal in
    omega (arith, a, b, c, d, e, f, g)

-- ---- the steps behind what was found

by_rest : (P : List Event → Type 0) (b : Bool) (steps : List Event) → P steps → P [] → P (if b then steps else [])
by_rest P true steps h k = h
by_rest P false steps h k = k

-- how many tasks there are behind what was found
abbrev pub tasks_then : Search → List Event → ℕ
tasks_then s es = tasks_behind (first_tasks s) es

pub closing_come : (s : Search) (es : List Event) (n templates : ℕ) → n ≡ tasks_then s es
    → MayAllCome n templates (closing s es)
closing_come s es n templates all =
    by_rest (MayAllCome n templates) (asks_for_end s.asked) (living_steps s.from es (tasks_then s es))
    (subst (λ (m : ℕ). MayAllCome m templates (living_steps s.from es (tasks_then s es))) (sym all)
    (living_come s.from es (tasks_then s es) templates)) tt

pub closing_few : (s : Search) (es : List Event) → length (closing s es) ≤ tasks_then s es
closing_few s es =
    by_rest (λ (steps : List Event). length steps ≤ tasks_then s es) (asks_for_end s.asked)
    (living_steps s.from es (tasks_then s es)) (living_few s.from es (tasks_then s es)) (omega arith)

-- ---- the whole text

module _ (s : Search) (before goal : List ℕ) (es : List Event) (names mid known : List (List ℕ))
    (comment found text : List ℕ) (few_names : length mid ≤ 64) (few_first : length s.from ≤ 32768)
    (short : length before ≤ 524289) (precedes : Precedes s.plan before (record { events = s.from; names = names }))
    (allowed : list_all is_allowed goal ≡ true) (few : length es ≤ 10000)
    (is_comment : comment ≡ before ++ comment_text (found_comment goal (length es)))
    (wrote : Writes (task_names s.plan.templates) names comment found es mid)
    (closed : Writes (task_names s.plan.templates) mid found text (closing s es) known) where
  abbrev line : List ℕ
  line = comment_text (found_comment goal (length es))

  abbrev more : List Event
  more = es ++ closing s es

  abbrev templates : List (List ℕ)
  templates = task_names s.plan.templates

  -- behind what was found there are as many names as tasks
  pub all_then : length mid ≡ tasks_then s es
  all_then = wrote.all ∙ ap (λ (n : ℕ). tasks_behind n es) precedes.all_named

  both : Writes templates names comment text more known
  both = writes_both templates names mid known comment found text es (closing s es) wrote closed

  begins : text ≡ before ++ (line ++ both.line)
  begins =
      both.parts
      ∙ ap (λ (t : List ℕ). t ++ both.line) is_comment
      ∙ append_assoc before line both.line

  few_more : length more ≤ 10064
  few_more =
      let all = length-append es (closing s es) in
      let steps = closing_few s es in
      let tasks = all_then in
      omega (arith, all, steps, few, tasks, few_names)

  reads : schedule_of s.plan (before ++ (line ++ both.line)) ≡ Ok (s.from ++ more)
  reads =
      let fits : length es < 2 ^ 64 = omega (arith, few) in
      let long = comment_short goal (length es) fits in
      let bytes = length-append line both.line in
      let rest = both.short in
      let count = few_more in
      ap events_alone
      (precedes.goes_on (line ++ both.line) more known
      (both_added templates names names known line both.line [] more
      (comment_adds templates names (found_comment goal (length es)) (comment_allowed goal (length es) fits allowed))
      both.adds)
      (omega (arith, long, bytes, rest, count, short)) (omega (arith, count, few_first)))

  pub is_schedule : IsSchedule s before goal es text
  is_schedule = record {
    lines = both.line;
    begins = begins;
    reads = ap (schedule_of s.plan) begins ∙ reads;
  }
