-- When a call is lost: it is open, and stays open whatever steps of tasks come.
use Rattle.std.specs.Prelude.{ℕ, ◌≡◌, ◌<◌, ⊤, true, List, [], ◌∷◌, None, length}
use Rattle.ipc_ids.specs.declared.message.Event.{Event}
use Rattle.answerbox.specs.Calls.{call_at}
use Rattle.task_system.specs.Run.{RunState, state_after}
use Rattle.search_goals.specs.Writing.{IsOnTask, IsStep}
use Rattle.schedule_search.specs.OpenCalls.{is_open}

-- each of these events is a step of one of so many tasks
abbrev pub AreSteps : (tasks : ℕ) → List Event → Type 0
AreSteps tasks [] = ⊤
AreSteps tasks (e ∷ es) = (IsStep e × IsOnTask tasks e) × AreSteps tasks es

-- call n of this state is open, and still is behind all steps of tasks that may come
abbrev pub IsLost : RunState → ℕ → Type 0
IsLost now n = (steps : List Event) → AreSteps (length now.kernel.tasks.alive) steps
    → is_open None (call_at (state_after now steps).kernel.calls n) ≡ true

-- one of the calls so far is lost
abbrev pub HasLostCall : RunState → Type 0
HasLostCall now = (n : ℕ) × (n < now.kernel.calls.next_number) × IsLost now n
