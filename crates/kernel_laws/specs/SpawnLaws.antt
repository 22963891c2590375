-- What a spawn comes to, in the words of tasks, phones, calls and areas.
use Rattle.std.specs.Prelude.{◌≡◌, ℕ, ◌+◌, ◌<◌, ◌≤◌, true, false, length, Option, None, Some}
use Rattle.ipc_ids.specs.declared.numbers.TaskNo.{TaskNo}
use Rattle.ipc_ids.specs.declared.message.PhoneState.TheVariants.{Free, Connected}
use Rattle.address_space.specs.Memory.{areas_of}
use Rattle.switchboard.specs.State.{KernelState, is_alive, phone_at}

-- the number after those of all tasks, ended ones too
abbrev pub new_number : KernelState → TaskNo
new_number k = record { 0 = length k.tasks.alive + 1 }

-- a task with so many phones was made, from one state to another; `names` is the task that its phone 0 is to lead to
pub record MakesTask (limit : ℕ) (names : Option TaskNo) (before after : KernelState) : Type 0 where
  -- it is alive, and each other task is alive just where it was
  pub made : is_alive after (new_number before) ≡ true
  pub others : (u : TaskNo) → (u.0 ≡ (new_number before).0 → ⊥) → is_alive after u ≡ is_alive before u
  -- its phone 0 leads to the task that is given, where that is alive, and is free where it is not
  pub leads : (u : TaskNo) → names ≡ Some u → is_alive before u ≡ true → phone_at after (new_number before) 0 ≡ Some (Connected u)
  pub alone : ((u : TaskNo) → names ≡ Some u → is_alive before u ≡ false) → phone_at after (new_number before) 0 ≡ Some Free
  -- all its other phones are free, and there are so many
  pub free : (p : ℕ) → 1 ≤ p → p < limit → phone_at after (new_number before) p ≡ Some Free
  pub limited : (p : ℕ) → limit ≤ p → phone_at after (new_number before) p ≡ None
  -- the phones of all other tasks stay as they are
  pub phones : (u : TaskNo) (p : ℕ) → (u.0 ≡ (new_number before).0 → ⊥) → phone_at after u p ≡ phone_at before u p
  -- and so do all calls, and all areas and their bytes
  pub calls : after.calls ≡ before.calls
  pub areas : (u : TaskNo) → areas_of after.memory u ≡ areas_of before.memory u
  pub stores : after.memory.stores ≡ before.memory.stores
