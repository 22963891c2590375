-- What the end of a task asks of the phones, calls and areas that it is given, and what it leaves of them.
use Rattle.std.specs.Prelude.{◌≡◌, ℕ, ◌+◌, ◌^◌, ◌<◌, ◌≤◌, Bool, true, false, List, Some, length, replicate}
use Rattle.ipc_ids.specs.declared.numbers.TaskNo.{TaskNo}
use Rattle.answerbox.specs.Calls.{CallTable, BoxesState}
use Rattle.phone_table.specs.Phones.{Rows, count_at}
use Rattle.address_space.specs.Memory.{Memory}
use Rattle.switchboard.specs.State.{KernelState, alive_in, state_from}
use Rattle.switchboard.specs.Counts.{IsCounted}
use Rattle.cleanup.specs.KillRoom.{own_calls, moves_of}

-- the task is one of those with marks, and is marked as ended
pub record IsJustEnded (alive : List Bool) (who : TaskNo) : Type 0 where
  pub marked : alive_in alive who.0 ≡ false
  pub from_one : 1 ≤ who.0
  pub task : who.0 ≤ length alive

-- the state that marks, phones, calls and areas stand for
abbrev pub state_of : List Bool → Rows → BoxesState → Memory → KernelState
state_of alive phones boxes memory = state_from alive phones.states boxes.calls memory 0

-- the counts are those of the active calls, and none is near its limit
pub record HasFewActive (counts : List (List ℕ)) (calls : CallTable) : Type 0 where
  pub counted : IsCounted counts calls
  pub few : (t p n : ℕ) → count_at counts t p ≡ Some n → n < 2 ^ 31

-- there are numbers and stamps enough
pub record HasNumbers (calls : CallTable) : Type 0 where
  pub numbers : calls.next_number < 2 ^ 61
  pub stamps : calls.next_stamp < 2 ^ 61

-- the numbers and stamps that the end of the task uses at most, and that the tasks with places are the same
pub record UsesNumbers (who : TaskNo) (phones : Rows) (old new : BoxesState) : Type 0 where
  pub places : new.tasks ≡ old.tasks
  pub few : own_calls phones.states who ≤ 64
  pub numbers : new.calls.next_number ≤ old.calls.next_number + own_calls phones.states who
  pub stamps : new.calls.next_stamp ≤ old.calls.next_stamp + moves_of phones.states old.calls who

-- so many tasks that are alive
abbrev pub all_alive : ℕ → List Bool
all_alive n = replicate n true

-- the calls, the phones and the areas are those that there were
pub record AreUnchanged (old_boxes new_boxes : BoxesState) (old_rows new_rows : Rows) (old_memory new_memory : Memory) : Type 0 where
  pub calls : new_boxes.calls ≡ old_boxes.calls
  pub phones : new_rows ≡ old_rows
  pub areas : new_memory ≡ old_memory
