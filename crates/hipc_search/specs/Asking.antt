-- What the words of a command ask of a script, and of the events that come first.
use Rattle.std.specs.Prelude.{ℕ, ◌≡◌, ⊤, true, List, length, nat_lt, Option, Result, Ok, Err, codes, if◌then◌else◌}
use Rattle.std.specs.Global.{Vec}
use Rattle.std.specs.List.{list_all}
use Rattle.ipc_ids.specs.declared.message.Event.{Event}
use Rattle.script_lines.specs.declared.fault.Reason.{Reason}
use Rattle.script_lines.specs.declared.fault.Reason.TheVariants.{TooLong, TooManyEvents}
use Rattle.script_lines.specs.declared.fault.ScheduleFault.{ScheduleFault}
use Rattle.script_lines.specs.Names.{task_names}
use Rattle.script_lines.specs.Plan.{Plan}
use Rattle.script_lines.specs.Text.{is_allowed}
use Rattle.script_lines.specs.declared.plan.TaskPlan.{TaskPlan}
use Rattle.script_reader.specs.EventLine.{EventsAndNames, no_events, after_event}
use Rattle.script_reader.specs.Reading.{reading}
use Rattle.search_goals.specs.GoalText.{IsRest}
use Rattle.search_goals.specs.GoalList.{Sought, Fault, alone, goals_of}
use Rattle.schedule_search.specs.declared.problem.MostMade.{MostMade}
use Rattle.schedule_search.specs.Search.{Search}
use Rattle.hipc_search.specs.declared.moves.Listed.TheVariants.{Kills, Hangups}
use Rattle.hipc_search.specs.Command.{Command, Asks, Goals, Survey, goals_text}
use Rattle.hipc_search.specs.Line.{fault_line, goal_place}
use Rattle.hipc_search.specs.Moves.{listed_in, bounds_in, moves_of}

-- ---- the events that come first

-- a schedule that comes first has at most half of the bytes and of the events that one may have, so that what is found
-- has room behind it
abbrev pub most_first_bytes : ℕ
most_first_bytes = 524288

abbrev pub most_first_events : ℕ
most_first_events = 32768

abbrev pub few_first : Result EventsAndNames (ℕ × Reason) → Result EventsAndNames (ℕ × Reason)
few_first (Ok first) = if nat_lt most_first_events (length first.events) then Err (0, TooManyEvents) else Ok first
few_first (Err fault) = Err fault

-- the events that the bytes of such a schedule spell, and the names of all tasks behind them; or their first fault
unfoldable pub first_events : Plan → List ℕ → Result EventsAndNames (ℕ × Reason)
first_events plan bytes =
    if nat_lt most_first_bytes (length bytes) then Err (0, TooLong)
    else few_first (reading (after_event plan) (no_events plan) bytes)

-- what the code has, which keeps both beside each other
abbrev pub said_first : Vec Event × List (List ℕ) → EventsAndNames
said_first first = record { events = first.0.items; names = first.1 }

abbrev pub first_in : Result (Vec Event × List (List ℕ)) ScheduleFault → Result EventsAndNames ScheduleFault
first_in (Ok first) = Ok (said_first first)
first_in (Err fault) = Err fault

-- ---- the search

-- what is looked for: goals, or their first fault; a survey looks for states at rest
abbrev pub asked_by : (names : List (List ℕ)) → List TaskPlan → Asks → Result Sought Fault
asked_by names tasks (Goals first later) = goals_of names tasks first later
asked_by names tasks Survey = Ok (alone IsRest)

-- the bytes of goals may stand in a line
abbrev pub MayStand : Asks → Type 0
MayStand (Goals first later) = list_all is_allowed (goals_text first later) ≡ true
MayStand Survey = ⊤

-- behind events that come first, by what the lists say
abbrev pub search_by : Plan → EventsAndNames → Option ℕ → Sought → (killed hangups : Result (List Event) (ℕ × Reason))
    → Result (List MostMade) (ℕ × Reason) → Result Search (List ℕ)
search_by plan first kills sought (Err fault) hangups bounds = Err (fault_line (codes "kill word") fault)
search_by plan first kills sought (Ok killed) (Err fault) bounds = Err (fault_line (codes "hangup word") fault)
search_by plan first kills sought (Ok killed) (Ok hangups) (Err fault) = Err (fault_line (codes "spawn word") fault)
search_by plan first kills sought (Ok killed) (Ok hangups) (Ok bounds) =
    Ok (record {
      plan = plan;
      from = first.events;
      moves = moves_of (length first.names) killed hangups bounds;
      kills = kills;
      spawns = bounds;
      earlier = sought.earlier;
      asked = sought.last;
    })

-- by what is looked for
abbrev pub search_with : Command → Plan → EventsAndNames → Result Sought Fault → Result Search (List ℕ)
search_with command plan first (Err fault) = Err (fault_line (goal_place fault.0) fault.1)
search_with command plan first (Ok sought) =
    search_by plan first command.kills sought (listed_in Kills first.names command.kill)
    (listed_in Hangups first.names command.hangup) (bounds_in (task_names plan.templates) command.spawn)

-- the search that is asked for behind these events, or the line of the first fault: of the goal, or of a list
abbrev pub search_for : Command → Plan → EventsAndNames → Result Search (List ℕ)
search_for command plan first = search_with command plan first (asked_by first.names plan.tasks command.asks)
