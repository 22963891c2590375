-- A kill of a task whose phone was slammed, and to which the phone of another leads.
use Rattle.std.proofs.Common.{◌≡◌, true, false, [], ◌∷◌, refl}
use Rattle.ipc_ids.specs.declared.numbers.TaskNo.{TaskNo}
use Rattle.ipc_ids.specs.declared.message.PhoneState.TheVariants.{Free, Connected, HungUp, Slammed}
use Rattle.ipc_ids.specs.declared.entry.Entry.TheVariants.{PhoneIs}
use Rattle.call_slab.specs.declared.call.Place.TheVariants.{Incoming, Dispatched, Answers}
use Rattle.answerbox.specs.Calls.{no_calls, same_place, is_caller}
use Rattle.address_space.specs.Memory.{Memory, no_memory, with_task}
use Rattle.switchboard.specs.State.{KernelState, state_from}
use Rattle.cleanup.specs.Kill.{kill}
use Rattle.cleanup.proofs.Limits.{none_counted}

abbrev first : TaskNo
first = record { 0 = 1 }

abbrev second : TaskNo
second = record { 0 = 2 }

-- two tasks without areas
abbrev two_spaces : Memory
two_spaces = with_task (with_task no_memory)

abbrev before : KernelState
before = state_from (true ∷ true ∷ []) ((Slammed ∷ Free ∷ []) ∷ (Connected first ∷ Connected second ∷ []) ∷ []) no_calls two_spaces 5

slammed_and_hung_up : kill before first ≡ record {
  state = state_from (false ∷ true ∷ []) ((HungUp ∷ Free ∷ []) ∷ (Slammed ∷ Connected second ∷ []) ∷ []) no_calls two_spaces 5;
  entries = PhoneIs (record { task = first; phone = record { 0 = 0 } }) HungUp ∷ PhoneIs (record { task = second; phone = record { 0 = 0 } }) Slammed ∷ [];
}
slammed_and_hung_up = rw (none_counted (λ c. same_place c.place (Incoming first)), none_counted (λ c. same_place c.place (Dispatched first)), none_counted (λ c. same_place c.place (Answers first)), none_counted (λ c. is_caller first c.caller)) refl
