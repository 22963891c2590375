-- No wake-up is lost: a fibril that waits for an answer waits for a call that is still to be answered to its task, by
-- the entries of the run so far.
use Rattle.std.specs.Prelude.{ℕ, suc, ◌≡◌, true, List, ◌++◌, Some, slice_get}
use Rattle.ipc_ids.specs.declared.numbers.CallNo.{CallNo}
use Rattle.ipc_ids.specs.declared.numbers.FibrilNo.{FibrilNo}
use Rattle.ipc_ids.specs.declared.message.Why.TheVariants as why
use Rattle.ipc_ids.specs.declared.message.Event.{Event}
use Rattle.ipc_ids.specs.Tales.{Tale, past}
use Rattle.ipc_ids.specs.Life.{Life, Incoming, Dispatched, Answers, life}
use Rattle.script_lines.specs.Plan.{Plan}
use Rattle.switchboard.specs.State.{alive_in}
use Rattle.fibril_core.specs.Fibrils.{why_of}
use Rattle.async_task.specs.AsyncState.{AsyncState}
use Rattle.async_task.specs.Program.{AsyncTask}
use Rattle.task_system.specs.declared.any.AnyProgram.TheVariants as any
use Rattle.task_system.specs.Run.{start, run, state_after}

-- the call is one of task t, and waits at a task, or is held by one, or its answer waits for t
abbrev pub IsStillToBeAnswered : ℕ → Life → Type 0
IsStillToBeAnswered t (Incoming caller holder) = caller ≡ t
IsStillToBeAnswered t (Dispatched caller holder) = caller ≡ t
IsStillToBeAnswered t (Answers caller) = caller ≡ t
IsStillToBeAnswered t _ = ⊥

-- so it is, by these tales, of each call for whose answer a fibril of task t waits
abbrev pub WaitsForLiveCalls : ℕ → List Tale → AsyncState → Type 0
WaitsForLiveCalls t p a =
    (f : FibrilNo) (n : CallNo) → why_of a.order f ≡ Some (why.Answer n) → IsStillToBeAnswered t (life n.0 p)

-- after each event of a run so it is in each task with fibrils that has not ended
abbrev pub WaitsAreForLiveCalls : Plan → List Event → Type 0
WaitsAreForLiveCalls plan events =
    (done later : List Event) → events ≡ done ++ later → (i : ℕ) (p : AsyncTask) →
    slice_get (state_after (start plan) done).programs i ≡ Some (any.Async p) →
    alive_in (state_after (start plan) done).kernel.tasks.alive (suc i) ≡ true →
    WaitsForLiveCalls (suc i) (past (run plan done)) p.state
