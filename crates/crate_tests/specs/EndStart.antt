-- What a test of `end_task` starts from: one task, whose first of two phones leads to itself, and its
-- area of a page.
use Rattle.std.specs.Prelude.{ℕ, List, [], ◌∷◌}
use Rattle.ipc_ids.specs.declared.numbers.TaskNo.{TaskNo}
use Rattle.ipc_ids.specs.declared.message.PhoneState.{PhoneState}
use Rattle.ipc_ids.specs.declared.message.PhoneState.TheVariants.{Free, Connected}
use Rattle.address_space.specs.Memory.{Memory, no_memory}
use Rattle.address_space.specs.Memory as spaces

abbrev pub one : TaskNo
one = record { 0 = 1 }

abbrev pub own_phones : List (List PhoneState)
own_phones = (Connected one ∷ Free ∷ []) ∷ []

abbrev pub no_counts : List (List ℕ)
no_counts = (0 ∷ 0 ∷ []) ∷ []

abbrev pub own_area : Memory
own_area = (spaces.make (spaces.with_task no_memory) one 4096 1 3).memory
