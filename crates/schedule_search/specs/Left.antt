-- Which goals are left behind events, where each is taken as met as soon as it is.
use Rattle.std.specs.Prelude.{◌≡◌, Bool, false, ◌&&◌, List, [], ◌∷◌, if◌then◌else◌}
use Rattle.ipc_ids.specs.declared.entry.Entry.{Entry}
use Rattle.ipc_ids.specs.declared.message.Event.{Event}
use Rattle.task_system.specs.Run.{RunState, turn}
use Rattle.search_goals.specs.Goals.{meets_line}
use Rattle.search_goals.specs.GoalText.{Asked, LosesCall, IsRest, IsStuck, HoldAll, HasLine}
use Rattle.schedule_search.specs.Holding.{all_hold}
use Rattle.schedule_search.specs.Search.{Search, first_state}
use Rattle.schedule_search.specs.OpenCalls.{has_open_call}
use Rattle.schedule_search.specs.Meeting.{is_at_rest, IsMet}

-- whether this state or these entries tell that a goal is met; that a call is lost they do not tell
abbrev pub is_met : Asked → RunState → List Entry → Bool
is_met LosesCall now told = false
is_met IsRest now told = is_at_rest now
is_met (IsStuck task) now told = has_open_call task now.kernel.calls && is_at_rest now
is_met (HoldAll conditions) now told = all_hold conditions now
is_met (HasLine head asked) now told = meets_line head asked told

-- the goals that are left, and the entries that count for the next
pub record Left : Type 0 where
  pub goals : List Asked
  pub told : List Entry

-- what is left of goals in a state to which an event with these entries led: not those at the front that are met there
abbrev pub left_here : List Asked → RunState → List Entry → Left
left_here [] now told = record { goals = []; told = told }
left_here (goal ∷ goals) now told =
    if is_met goal now told then left_here goals now [] else record { goals = goal ∷ goals; told = told }

-- what is left behind events more, from a state on
abbrev pub left_after : Left → RunState → List Event → Left
left_after left now [] = left
left_after left now (e ∷ es) =
    left_after (left_here left.goals (turn now e).state (turn now e).entries) (turn now e).state es

-- what is left behind these events of the goals that come before the last
abbrev pub left_behind : Search → List Event → Left
left_behind s es = left_after (left_here s.earlier (first_state s) []) (first_state s) es

-- nothing is left, and the last goal is met in this state
abbrev pub IsOver : Asked → Left → RunState → Type 0
IsOver asked left now = (left.goals ≡ []) × IsMet asked now left.told
