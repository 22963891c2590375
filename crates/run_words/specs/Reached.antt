-- The states to which the events of a script lead.
use Rattle.std.specs.Prelude.{ℕ, ◌≡◌, List, [], ◌∷◌, length}
use Rattle.std.specs.List.{flat_map}
use Rattle.ipc_ids.specs.declared.message.Event.{Event}
use Rattle.ipc_ids.specs.declared.message.Event.TheVariants.{Step, Kill, Hangup, Spawn}
use Rattle.script_lines.specs.Plan.{Plan}
use Rattle.script_reader.specs.Schedule.{MayAllCome}
use Rattle.task_system.specs.Run.{RunState, start, state_after}

-- the template of a spawn
abbrev pub spawn_of : Event → List ℕ
spawn_of (Step task) = []
spawn_of (Kill task) = []
spawn_of (Hangup task phone) = []
spawn_of (Spawn place) = place ∷ []

-- the templates of all spawns among these events, in turn
abbrev pub spawns_of : List Event → List ℕ
spawns_of events = flat_map spawn_of events

-- events that may come lead from the start of the script to this state, and the spawns among them have these templates
pub record IsReached (plan : Plan) (spawned : List ℕ) (now : RunState) : Type 0 where
  pub events : List Event
  pub may : MayAllCome (length plan.tasks) (length plan.templates) events
  pub spawns : spawns_of events ≡ spawned
  pub state : now ≡ state_after (start plan) events
