-- Goals that are taken from the front, as a loop takes them.
use Rattle.std.proofs.Common.{ℕ, ◌≡◌, ◌≤◌, ◌<◌, ◌+◌, ◌-◌, Bool, true, false, List, [], ◌∷◌, length, get_or, take, drop, sym, ◌∙◌, ap, arith}
use Rattle.std.specs.Prelude.{if◌then◌else◌}
use Rattle.std.proofs.lemmas.List.{drop_more, drop_all, take_all, length-drop}
use Rattle.ipc_ids.specs.declared.entry.Entry.{Entry}
use Rattle.task_system.specs.Run.{RunState}
use Rattle.search_goals.specs.declared.goal.Goal.{Goal}
use Rattle.search_goals.specs.GoalText.{said}
use Rattle.search_goals.specs.GoalList.{said_all}
use Rattle.schedule_search.specs.Left.{Left, is_met, left_here}

module _ (goals : List Goal) (i : ℕ) (now : RunState) (told : List Entry) (whole : Left)
    (is : left_here (said_all (drop i goals)) now told ≡ whole) where
  abbrev made : List Goal → Left
  made left = record { goals = said_all left; told = told }

  -- none is left
  pub none_left : length goals ≤ i → made [] ≡ whole
  none_left over = ap (λ (gs : List Goal). left_here (said_all gs) now told) (sym (drop_all i goals over)) ∙ is

  module _ (goal : Goal) (within : i < length goals) (at : goal ≡ get_or goals i goal) where
    left : drop i goals ≡ goal ∷ drop (i + 1) goals
    left = drop_more goals i goal within ∙ ap (λ (g : Goal). g ∷ drop (i + 1) goals) (sym at)

    abbrev by_test : Bool → Left
    by_test met = if met then left_here (said_all (drop (i + 1) goals)) now [] else made (goal ∷ drop (i + 1) goals)

    tested : by_test (is_met (said goal) now told) ≡ whole
    tested = ap (λ (gs : List Goal). left_here (said_all gs) now told) (sym left) ∙ is

    -- the first is not met
    pub rest_left : is_met (said goal) now told ≡ false
        → made (take (length goals - i) (drop i goals)) ≡ whole
    rest_left unmet =
        let long = length-drop i goals in
        ap made (take_all (length goals - i) (drop i goals) (omega (arith, long)) ∙ left)
        ∙ ap by_test (sym unmet) ∙ tested

    -- it is
    pub others_left : (none : List Entry) → none ≡ [] → is_met (said goal) now told ≡ true
        → left_here (said_all (drop (i + 1) goals)) now none ≡ whole
    others_left none empty met =
        ap (left_here (said_all (drop (i + 1) goals)) now) empty ∙ ap by_test (sym met) ∙ tested
