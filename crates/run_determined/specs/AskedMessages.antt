-- What the tasks of a run ask with: messages and answers of five arguments.
use Rattle.std.specs.Prelude.{◌≡◌, ℕ, List, Some, slice_get}
use Rattle.ipc_ids.specs.declared.message.Event.{Event}
use Rattle.script_lines.specs.Plan.{Plan}
use Rattle.task_system.specs.declared.any.AnyProgram.{AnyProgram}
use Rattle.task_system.specs.Any.{wanted}
use Rattle.task_system.specs.Run.{start, state_after}
use Rattle.program_examples.specs.FiveArguments.{CarriesFive}

-- the message or the answer that the program of any task asks with next, after these events, has five arguments
abbrev pub AskWithFive : Plan → List Event → Type 0
AskWithFive plan events =
    (i : ℕ) (p : AnyProgram) → slice_get (state_after (start plan) events).programs i ≡ Some p → CarriesFive (wanted p)
