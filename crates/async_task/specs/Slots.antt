-- What the slots of a fibril hold, where only the first of them take memory.
use Rattle.std.specs.Prelude.{ℕ, ◌-◌, if◌then◌else◌, List, ◌++◌, length, nat_lt, replicate, slice_set}
use Rattle.async_task.specs.declared.context.Slot.{Slot}
use Rattle.async_task.specs.declared.context.Slot.TheVariants as slot

-- what all 8 slots hold, where the first of them hold this and the others are closed
abbrev pub filled : List Slot → List Slot
filled used = used ++ replicate (8 - length used) slot.Closed

-- the slot with this number holds that
abbrev pub with_held : List Slot → ℕ → Slot → List Slot
with_held slots k s = if nat_lt k 8 then slice_set slots k s else slots
