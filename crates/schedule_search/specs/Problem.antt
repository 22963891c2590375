-- What the code of a search is asked, as the definitions have it, and what it may do.
use Rattle.std.specs.Prelude.{◌≡◌, ◌<◌, ◌^◌, true, List, length}
use Rattle.ipc_ids.specs.declared.message.Event.{Event}
use Rattle.script_lines.specs.Plan.{Plan}
use Rattle.task_system.specs.Run.{RunState, start}
use Rattle.search_goals.specs.GoalText.{said}
use Rattle.search_goals.specs.GoalList.{said_all}
use Rattle.schedule_search.specs.declared.problem.Problem.{Problem}
use Rattle.schedule_search.specs.Search.{Search, IsSound, AreOf, may_try}

-- what the problem points to
abbrev pub search_of : Problem → Search
search_of problem =
    record {
      plan = problem.script.now;
      from = problem.from.now;
      moves = problem.moves.now;
      kills = problem.kills;
      spawns = problem.spawns.now;
      earlier = said_all problem.earlier.now;
      asked = said problem.goal.now;
    }

-- these events can be tried behind those that come first: each is a move of a sound search, and they are few
pub record CanTry (s : Search) (es : List Event) : Type 0 where
  pub sound : IsSound s
  pub of_moves : AreOf s.moves es
  pub few : length es < 2 ^ 20

-- they can be done: each is on a task that there is by then
pub record CanDo (s : Search) (es : List Event) : Type 0 where
  pub sound : IsSound s
  pub of_moves : AreOf s.moves es
  pub few : length es < 2 ^ 20
  pub tried : may_try s es ≡ true

-- the tasks of a script before the first event, none of which was counted yet
pub record IsAtStart (plan : Plan) (now : RunState) : Type 0 where
  pub state : now ≡ start plan
  pub none : now.kernel.events ≡ 0
