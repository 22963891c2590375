-- All that the requests do that are about the memory of their task: a poke, a peek, and an area that is made or
-- dropped.
use Rattle.std.specs.Prelude.{◌≡◌, ℕ, ◌+◌, List, [], length, Option, None, Result, Ok}
use Rattle.ipc_ids.specs.declared.numbers.Code.{Code}
use Rattle.ipc_ids.specs.declared.numbers.StoreNo.{StoreNo}
use Rattle.ipc_ids.specs.declared.numbers.TaskNo.{TaskNo}
use Rattle.std.specs.FinMap.{get}
use Rattle.address_space.specs.Memory.{Memory, Step}
use Rattle.switchboard.specs.State.{KernelState}
use Rattle.switchboard.specs.Serving.{Served}
use Rattle.kernel_laws.specs.MemoryLaws.{IsLawfulWrite, IsLawfulPeek, IsLawfulMake, IsLawfulDrop}
use Rattle.kernel_laws.specs.MemoryRequests.{Tells, TellsBytes, made, gone, written, Leaves}

-- a write as the laws of memory have it, by which no store comes or goes
pub record IsWholeWrite (m : Memory) (t : TaskNo) (at : ℕ) (new : List ℕ) (done : Step (Option StoreNo)) : Type 0 where
  pub lawful : IsLawfulWrite m t at new done
  pub came : (n : ℕ) → get m.stores n ≡ None → get done.memory.stores n ≡ None
  pub went : (n : ℕ) → get done.memory.stores n ≡ None → get m.stores n ≡ None

-- bytes are written as the laws of memory have it, and nothing but the memory changes
pub record IsPoke (t : TaskNo) (at : ℕ) (new : List ℕ) (before : KernelState) (done : Served) : Type 0 where
  pub step : Step (Option StoreNo)
  pub write : IsWholeWrite before.memory t at new step
  pub told : Tells step.told done.outcome
  pub leaves : Leaves before step.memory (written t at (length new) step.told) done
  pub events : done.state.events ≡ before.events + 1

-- bytes are told as the laws of memory have it, and nothing changes
pub record IsPeek (t : TaskNo) (at count : ℕ) (before : KernelState) (done : Served) : Type 0 where
  pub told : Result (List ℕ) Code
  pub read : IsLawfulPeek before.memory t at count told
  pub tells : TellsBytes told done.outcome
  pub leaves : Leaves before before.memory [] done
  pub events : done.state.events ≡ before.events + 1

-- an area is made as the laws of memory have it: the next store gets the next number, no other store comes or goes, and
-- there are as many tasks with areas
pub record IsWholeMake (m : Memory) (t : TaskNo) (base pages rights : ℕ) (done : Step StoreNo) : Type 0 where
  pub lawful : IsLawfulMake m t base pages rights done
  pub next : (store : StoreNo) → done.told ≡ Ok store → done.memory.next_store ≡ m.next_store + 1
  pub spaces : length done.memory.areas ≡ length m.areas
  pub came : (n : ℕ) → (n ≡ m.next_store → ⊥) → get m.stores n ≡ None → get done.memory.stores n ≡ None
  pub went : (n : ℕ) → (n ≡ m.next_store → ⊥) → get done.memory.stores n ≡ None → get m.stores n ≡ None

-- so an area is made by a request, and nothing but the memory changes
pub record IsAreaMake (t : TaskNo) (base pages rights : ℕ) (before : KernelState) (done : Served) : Type 0 where
  pub step : Step StoreNo
  pub make : IsWholeMake before.memory t base pages rights step
  pub told : Tells step.told done.outcome
  pub leaves : Leaves before step.memory (made t base pages rights step.told) done
  pub events : done.state.events ≡ before.events + 1

-- an area is dropped as the laws of memory have it, and there are as many tasks with areas
pub record IsWholeDrop (m : Memory) (t : TaskNo) (base : ℕ) (done : Step Unit) : Type 0 where
  pub lawful : IsLawfulDrop m t base done
  pub spaces : length done.memory.areas ≡ length m.areas

-- so it is by a request, and nothing but the memory changes
pub record IsAreaDrop (t : TaskNo) (base : ℕ) (before : KernelState) (done : Served) : Type 0 where
  pub step : Step Unit
  pub drop : IsWholeDrop before.memory t base step
  pub told : Tells step.told done.outcome
  pub leaves : Leaves before step.memory (gone t base step.told) done
  pub events : done.state.events ≡ before.events + 1
