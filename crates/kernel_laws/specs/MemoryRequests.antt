-- What a task is told of what it does with its memory, and what it changes: the memory alone, as `MemoryLaws` says.
use Rattle.std.specs.Prelude.{◌≡◌, ℕ, List, [], ◌∷◌, Option, None, Some, Result, Ok, Err}
use Rattle.ipc_ids.specs.declared.numbers.Code.{Code}
use Rattle.ipc_ids.specs.declared.numbers.StoreNo.{StoreNo}
use Rattle.ipc_ids.specs.declared.numbers.TaskNo.{TaskNo}
use Rattle.ipc_ids.specs.declared.message.Outcome.{Outcome}
use Rattle.ipc_ids.specs.declared.message.Outcome.TheVariants as outcome
use Rattle.ipc_ids.specs.declared.entry.Entry.{Entry}
use Rattle.ipc_ids.specs.declared.entry.Entry.TheVariants as entry
use Rattle.address_space.specs.Memory.{Memory}
use Rattle.switchboard.specs.State.{KernelState}
use Rattle.switchboard.specs.Serving.{Served}

-- the task is told that it was done, or the code of the refusal
abbrev pub Tells : {A : Type 0} → Result A Code → Outcome → Type 0
Tells (Ok x) told = told ≡ outcome.Done
Tells (Err code) told = told ≡ outcome.Refused code

-- the task is told these bytes, or the code of the refusal
abbrev pub TellsBytes : Result (List ℕ) Code → Outcome → Type 0
TellsBytes (Ok bytes) told = told ≡ outcome.Bytes bytes
TellsBytes (Err code) told = told ≡ outcome.Refused code

-- the entries of an area that was made
abbrev pub made : TaskNo → ℕ → ℕ → ℕ → Result StoreNo Code → List Entry
made t base pages rights (Ok store) = entry.AreaMade t base pages rights store ∷ []
made t base pages rights (Err code) = []

-- the entries of an area that was dropped
abbrev pub gone : TaskNo → ℕ → Result Unit Code → List Entry
gone t base (Ok done) = entry.AreaGone t base ∷ []
gone t base (Err code) = []

-- the entries of bytes that were written, where there were some
abbrev pub written : TaskNo → ℕ → ℕ → Result (Option StoreNo) Code → List Entry
written t at count (Ok (Some store)) = entry.Wrote t at count store ∷ []
written t at count (Ok None) = []
written t at count (Err code) = []

-- the memory is this one, these entries tell of it, and no task, phone or call changes
pub record Leaves (k : KernelState) (memory : Memory) (told : List Entry) (done : Served) : Type 0 where
  pub memory_after : done.state.memory ≡ memory
  pub entries : done.entries ≡ told
  pub tasks : done.state.tasks ≡ k.tasks
  pub calls : done.state.calls ≡ k.calls
