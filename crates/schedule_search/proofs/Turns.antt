-- Goals that are met in turn are so where each is taken as met as soon as it is: waiting wins nothing.
use Rattle.std.proofs.Common.{◌≡◌, Bool, true, false, List, [], ◌∷◌, ◌++◌, length, refl, sym, ◌∙◌, ap, subst, inl, inr, append_assoc}
use Rattle.std.specs.Prelude.{if◌then◌else◌}
use Rattle.std.proofs.lemmas.Bool.{cases_Bool, and_parts}
use Rattle.schedule_replay.proofs.UnderWay.{after_append}
use Rattle.ipc_ids.specs.declared.entry.Entry.{Entry}
use Rattle.ipc_ids.specs.declared.message.Event.{Event}
use Rattle.task_system.specs.Run.{RunState, turn, state_after}
use Rattle.search_goals.specs.GoalText.{Asked, LosesCall, IsRest, IsStuck, HoldAll, HasLine}
use Rattle.search_goals.specs.GoalList.{may_precede, all_precede}
use Rattle.schedule_search.specs.Search.{Search, state_behind, first_state, last_told}
use Rattle.schedule_search.specs.Meeting.{IsMet, MeetInTurn, Meets}
use Rattle.schedule_search.specs.Left.{is_met, Left, left_here, left_after, left_behind, IsOver}
use Rattle.schedule_search.proofs.Fronts.{same_end}

-- ---- one goal

-- a goal that no entries meet is met by the state, and so it is whatever was told
met_by_state : (goal : Asked) (now : RunState) (told : List Entry) → IsMet goal now [] → IsMet goal now told
met_by_state LosesCall now told met = met
met_by_state IsRest now told met = met
met_by_state (IsStuck task) now told met = met
met_by_state (HoldAll conditions) now told met = met
met_by_state (HasLine head asked) now told met = absurd (cc met)

-- one behind which others may come is met where the test says so
pub met_told : (goal : Asked) (now : RunState) (told : List Entry) → may_precede goal ≡ true → IsMet goal now told → is_met goal now told ≡ true
met_told LosesCall now told may met = absurd (cc may)
met_told IsRest now told may met = met
met_told (IsStuck task) now told may met = met
met_told (HoldAll conditions) now told may met = met
met_told (HasLine head asked) now told may met = met

pub told_is_met : (goal : Asked) (now : RunState) (told : List Entry) → may_precede goal ≡ true → is_met goal now told ≡ true → IsMet goal now told
told_is_met LosesCall now told may met = absurd (cc may)
told_is_met IsRest now told may met = met
told_is_met (IsStuck task) now told may met = met
told_is_met (HoldAll conditions) now told may met = met
told_is_met (HasLine head asked) now told may met = met

pub loses_call : (goal : Asked) → may_precede goal ≡ false → goal ≡ LosesCall
loses_call LosesCall e = refl
loses_call IsRest e = absurd (cc e)
loses_call (IsStuck task) e = absurd (cc e)
loses_call (HoldAll conditions) e = absurd (cc e)
loses_call (HasLine head asked) e = absurd (cc e)

-- ---- what is left

pub here_met : (goal : Asked) (goals : List Asked) (now : RunState) (told : List Entry) → is_met goal now told ≡ true
    → left_here (goal ∷ goals) now told ≡ left_here goals now []
here_met goal goals now told e =
    ap (λ (b : Bool). if b then left_here goals now [] else record { goals = goal ∷ goals; told = told }) e

pub here_unmet : (goal : Asked) (goals : List Asked) (now : RunState) (told : List Entry) → is_met goal now told ≡ false
    → left_here (goal ∷ goals) now told ≡ record { goals = goal ∷ goals; told = told }
here_unmet goal goals now told e =
    ap (λ (b : Bool). if b then left_here goals now [] else record { goals = goal ∷ goals; told = told }) e

-- ---- a goal that is met later is met behind what was done before, too

told_behind : (goal : Asked) (before : List Entry) (now : RunState) (es fs : List Event)
    → IsMet goal (state_after (state_after now es) fs) (last_told [] (state_after now es) fs)
    → IsMet goal (state_after now (es ++ fs)) (last_told before now (es ++ fs))
told_behind goal before now [] [] met = met_by_state goal now before met
told_behind goal before now [] (f ∷ fs) met = met
told_behind goal before now (e ∷ es) fs met = told_behind goal (turn now e).entries (turn now e).state es fs met

sooner : (goals : List Asked) (asked : Asked) (now : RunState) (es fs : List Event)
    → MeetInTurn goals asked (state_after now es) [] fs → MeetInTurn goals asked now [] (es ++ fs)
sooner [] asked now es fs meet = told_behind asked [] now es fs meet
sooner (goal ∷ goals) asked now es fs meet = (
  es ++ meet.0,
  meet.1,
  append_assoc es meet.0 meet.1 ∙ ap (λ (z : List Event). es ++ z) meet.2,
  told_behind goal [] now es meet.0 meet.3,
  subst (λ (z : RunState). MeetInTurn goals asked z [] meet.1) (sym (after_append now es meet.0)) meet.4,
)

-- ---- as soon as may be

-- events that meet these goals in turn leave nothing
abbrev Suffices : List Asked → Asked → Type 0
Suffices goals asked =
    (now : RunState) (told : List Entry) (es : List Event) → MeetInTurn goals asked now told es
    → IsOver asked (left_after (left_here goals now told) now es) (state_after now es)

no_goals : (asked : Asked) → Suffices [] asked
no_goals asked now told [] meet = (refl, meet)
no_goals asked now told (e ∷ es) meet = no_goals asked (turn now e).state (turn now e).entries es meet

one_goal : (goals : List Asked) (asked goal : Asked) → may_precede goal ≡ true → Suffices goals asked → (es fs : List Event) (now : RunState) (told : List Entry)
    → IsMet goal (state_after now es) (last_told told now es) → MeetInTurn goals asked (state_after now es) [] fs
    → IsOver asked (left_after (left_here (goal ∷ goals) now told) now (es ++ fs)) (state_after now (es ++ fs))
one_goal goals asked goal may later [] fs now told met meet =
    subst (λ (z : Left). IsOver asked (left_after z now fs) (state_after now fs))
    (sym (here_met goal goals now told (met_told goal now told may met))) (later now [] fs meet)
one_goal goals asked goal may later (e ∷ es) fs now told met meet =
    elim (cases_Bool (is_met goal now told)) [
      | inl is ↦
          subst (λ (z : Left). IsOver asked (left_after z now (e ∷ es ++ fs)) (state_after now (e ∷ es ++ fs)))
          (sym (here_met goal goals now told is)) (later now [] (e ∷ es ++ fs) (sooner goals asked now (e ∷ es) fs meet))
      | inr not ↦
          subst (λ (z : Left). IsOver asked (left_after z now (e ∷ es ++ fs)) (state_after now (e ∷ es ++ fs)))
          (sym (here_unmet goal goals now told not))
          (one_goal goals asked goal may later es fs (turn now e).state (turn now e).entries met meet)
    ]

all_parts : (goal : Asked) (goals : List Asked) → all_precede (goal ∷ goals) ≡ true
    → (may_precede goal ≡ true) × (all_precede goals ≡ true)
all_parts goal goals h = and_parts (may_precede goal) (all_precede goals) h

suffices : (goals : List Asked) (asked : Asked) → all_precede goals ≡ true → Suffices goals asked
suffices [] asked may = no_goals asked
suffices (goal ∷ goals) asked may =
    let parts = all_parts goal goals may in
    λ (now : RunState) (told : List Entry) (es : List Event) (meet : MeetInTurn (goal ∷ goals) asked now told es).
    subst (λ (z : List Event). IsOver asked (left_after (left_here (goal ∷ goals) now told) now z) (state_after now z)) meet.2
    (one_goal goals asked goal parts.0 (suffices goals asked parts.1) meet.0 meet.1 now told meet.3 meet.4)

-- ---- and the other way round

-- events that leave nothing meet these goals in turn
abbrev Comes : List Asked → Asked → Type 0
Comes goals asked =
    (now : RunState) (told : List Entry) (es : List Event)
    → IsOver asked (left_after (left_here goals now told) now es) (state_after now es) → MeetInTurn goals asked now told es

comes_at_once : (asked : Asked) → Comes [] asked
comes_at_once asked now told [] over = over.1
comes_at_once asked now told (e ∷ es) over = comes_at_once asked (turn now e).state (turn now e).entries es over

one_comes : (goals : List Asked) (asked goal : Asked) → may_precede goal ≡ true → Comes goals asked → (es : List Event) (now : RunState) (told : List Entry)
    → IsOver asked (left_after (left_here (goal ∷ goals) now told) now es) (state_after now es)
    → MeetInTurn (goal ∷ goals) asked now told es
one_comes goals asked goal may later [] now told over =
    elim (cases_Bool (is_met goal now told)) [
      | inl is ↦ (
        [],
        [],
        refl,
        told_is_met goal now told may is,
        later now [] [] (subst (λ (z : Left). IsOver asked z now) (here_met goal goals now told is) over),
      )
      | inr not ↦ absurd (cc (subst (λ (z : Left). IsOver asked z now) (here_unmet goal goals now told not) over).0)
    ]
one_comes goals asked goal may later (e ∷ es) now told over =
    elim (cases_Bool (is_met goal now told)) [
      | inl is ↦ (
        [],
        e ∷ es,
        refl,
        told_is_met goal now told may is,
        later now [] (e ∷ es)
            (subst (λ (z : Left). IsOver asked (left_after z now (e ∷ es)) (state_after now (e ∷ es))) (here_met goal goals now told is) over),
      )
      | inr not ↦
          (let meet = one_comes goals asked goal may later es (turn now e).state (turn now e).entries
          (subst (λ (z : Left). IsOver asked (left_after z now (e ∷ es)) (state_after now (e ∷ es))) (here_unmet goal goals now told not) over) in
          (e ∷ meet.0, meet.1, ap (λ (z : List Event). e ∷ z) meet.2, meet.3, meet.4))
    ]

comes : (goals : List Asked) (asked : Asked) → all_precede goals ≡ true → Comes goals asked
comes [] asked may = comes_at_once asked
comes (goal ∷ goals) asked may =
    let parts = all_parts goal goals may in
    λ (now : RunState) (told : List Entry) (es : List Event).
    one_comes goals asked goal parts.0 (comes goals asked parts.1) es now told

-- ---- of a search

pub nothing_left : (s : Search) (es : List Event) → all_precede s.earlier ≡ true → Meets s es
    → IsOver s.asked (left_behind s es) (state_behind s es)
nothing_left s es may meets = suffices s.earlier s.asked may (first_state s) [] es meets

pub all_met : (s : Search) (es : List Event) → all_precede s.earlier ≡ true
    → IsOver s.asked (left_behind s es) (state_behind s es) → Meets s es
all_met s es may over = comes s.earlier s.asked may (first_state s) [] es over

-- ---- one event more

after_more : (left : Left) (now : RunState) (es : List Event) (e : Event) → left_after left now (es ++ e ∷ [])
    ≡ left_here (left_after left now es).goals (turn (state_after now es) e).state (turn (state_after now es) e).entries
after_more left now [] e = refl
after_more left now (x ∷ es) e =
    after_more (left_here left.goals (turn now x).state (turn now x).entries) (turn now x).state es e

pub left_more : (s : Search) (es : List Event) (e : Event) → left_behind s (es ++ e ∷ [])
    ≡ left_here (left_behind s es).goals (turn (state_behind s es) e).state (turn (state_behind s es) e).entries
left_more s es e = after_more (left_here s.earlier (first_state s) []) (first_state s) es e

-- ---- the goals that are left are the last of all

abbrev IsEnd : (whole left : List Asked) → Type 0
IsEnd whole left = (front : List Asked) × (front ++ left ≡ whole)

end_of_end : (a b c : List Asked) → IsEnd a b → IsEnd b c → IsEnd a c
end_of_end a b c h k =
    (h.0 ++ k.0, append_assoc h.0 k.0 c ∙ ap (λ (z : List Asked). h.0 ++ z) k.1 ∙ h.1)

here_end : (goals : List Asked) (now : RunState) (told : List Entry) → IsEnd goals (left_here goals now told).goals
here_end [] now told = ([], refl)
here_end (goal ∷ goals) now told =
    elim (cases_Bool (is_met goal now told)) [
      | inl is ↦
          (let k = here_end goals now [] in
          subst (λ (z : Left). IsEnd (goal ∷ goals) z.goals) (sym (here_met goal goals now told is))
          (goal ∷ k.0, ap (λ (z : List Asked). goal ∷ z) k.1))
      | inr not ↦
          subst (λ (z : Left). IsEnd (goal ∷ goals) z.goals) (sym (here_unmet goal goals now told not)) ([], refl)
    ]

after_end : (left : Left) (now : RunState) (es : List Event) → IsEnd left.goals (left_after left now es).goals
after_end left now [] = ([], refl)
after_end left now (e ∷ es) =
    let next : Left = left_here left.goals (turn now e).state (turn now e).entries in
    end_of_end left.goals next.goals (left_after next (turn now e).state es).goals
    (here_end left.goals (turn now e).state (turn now e).entries) (after_end next (turn now e).state es)

behind_end : (s : Search) (es : List Event) → IsEnd s.earlier (left_behind s es).goals
behind_end s es =
    let start : Left = left_here s.earlier (first_state s) [] in
    end_of_end s.earlier start.goals (left_after start (first_state s) es).goals
    (here_end s.earlier (first_state s) []) (after_end start (first_state s) es)

-- as many of two are the same
pub same_left : (s : Search) (es fs : List Event) → length (left_behind s es).goals ≡ length (left_behind s fs).goals
    → (left_behind s es).goals ≡ (left_behind s fs).goals
same_left s es fs count =
    let one = behind_end s es in
    let other = behind_end s fs in
    same_end one.0 other.0 (left_behind s es).goals (left_behind s fs).goals (one.1 ∙ sym other.1) count
