-- An async task as its callers see it.
use Rattle.std.specs.Prelude.{ℕ, ◌+◌, ◌*◌, ◌^◌, ◌≤◌, List, length}
use Rattle.ipc_ids.specs.declared.numbers.TaskNo.{TaskNo}
use Rattle.ipc_ids.specs.declared.message.Request.{Request}
use Rattle.ipc_ids.specs.declared.message.Outcome.{Outcome}
use Rattle.ipc_ids.specs.declared.entry.Entry.{Entry}
use Rattle.ipc_ids.specs.declared.op.Body.{Body}
use Rattle.async_task.specs.AsyncState.{AsyncState, AreServed}
use Rattle.async_task.specs.Wanted as state
use Rattle.async_task.specs.Steps.{step, bare_task, start_bodies}

-- the state of the task, and how many outcomes it took
pub record AsyncTask : Type 0 where
  pub state : AsyncState
  pub taken : ℕ

-- what a task may have used after so many outcomes
pub record IsWithinCount (a : AsyncState) (taken : ℕ) : Type 0 where
  pub fibrils : length a.order.fibrils ≤ taken + 2 ^ 16
  pub stamps : a.order.next_stamp ≤ 2 ^ 26 * taken + 2 ^ 20
  pub exchanges : a.pool.next_number ≤ taken + 1
  pub exchange_stamps : a.pool.next_stamp ≤ taken + 1
  pub served : AreServed (length a.order.fibrils) a.conns

abbrev pub wanted : AsyncTask → Request
wanted p = state.wanted p.state

abbrev pub after : AsyncTask → Outcome → AsyncTask
after p o = record { state = (step p.state o).state; taken = p.taken + 1 }

abbrev pub entries : AsyncTask → Outcome → List Entry
entries p o = (step p.state o).entries

abbrev pub taken : AsyncTask → ℕ
taken p = p.taken

-- a fibril before the first operation of each body, but for that of connections
abbrev pub started : TaskNo → List Body → AsyncState
started me bodies = start_bodies (length bodies) (bare_task me bodies)
