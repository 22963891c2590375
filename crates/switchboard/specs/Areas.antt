-- What a task does with its areas, and what it is told.
use Rattle.std.specs.Prelude.{ℕ, List, [], ◌∷◌, length, Option, None, Some, Result, Ok, Err}
use Rattle.std.specs.Option.{option_to_list}
use Rattle.ipc_ids.specs.declared.numbers.TaskNo.{TaskNo}
use Rattle.ipc_ids.specs.declared.numbers.StoreNo.{StoreNo}
use Rattle.ipc_ids.specs.declared.numbers.Code.{Code}
use Rattle.ipc_ids.specs.declared.message.Outcome.{Outcome}
use Rattle.ipc_ids.specs.declared.message.Outcome.TheVariants.{Done, Refused, Bytes}
use Rattle.ipc_ids.specs.declared.entry.Entry.{Entry}
use Rattle.ipc_ids.specs.declared.entry.Entry.TheVariants.{AreaMade, AreaGone, Wrote}
use Rattle.address_space.specs.Memory as spaces
use Rattle.switchboard.specs.State.{KernelState, Transition, with_memory, nothing}
use Rattle.switchboard.specs.Serving.{Served}

-- what a task is told of a step that gives it nothing but success
abbrev pub done_or_refused : {A : Type 0} → Result A Code → Outcome
done_or_refused (Ok x) = Done
done_or_refused (Err code) = Refused code

-- the entry of an area that was made
abbrev pub made_note : TaskNo → ℕ → ℕ → ℕ → Result StoreNo Code → List Entry
made_note t base pages rights (Ok store) = AreaMade t base pages rights store ∷ []
made_note t base pages rights (Err code) = []

-- a task makes an area
abbrev pub make_area : KernelState → TaskNo → ℕ → ℕ → ℕ → Served
make_area k t base pages rights =
    record {
      state = with_memory k (spaces.make k.memory t base pages rights).memory;
      outcome = done_or_refused (spaces.make k.memory t base pages rights).told;
      entries = made_note t base pages rights (spaces.make k.memory t base pages rights).told;
    }

-- the entry of an area that was dropped
abbrev pub gone_note : TaskNo → ℕ → Result Unit Code → List Entry
gone_note t base (Ok done) = AreaGone t base ∷ []
gone_note t base (Err code) = []

-- a task drops the area with this base
abbrev pub drop_area : KernelState → TaskNo → ℕ → Served
drop_area k t base =
    record {
      state = with_memory k (spaces.drop_area k.memory t base).memory;
      outcome = done_or_refused (spaces.drop_area k.memory t base).told;
      entries = gone_note t base (spaces.drop_area k.memory t base).told;
    }

-- the entry of so many bytes that were written from an address on; no bytes have none
abbrev pub wrote_note : TaskNo → ℕ → ℕ → Result (Option StoreNo) Code → Option Entry
wrote_note t at count (Ok (Some store)) = Some (Wrote t at count store)
wrote_note t at count (Ok None) = None
wrote_note t at count (Err code) = None

-- a task writes these bytes from an address on
abbrev pub poke : KernelState → TaskNo → ℕ → List ℕ → Served
poke k t at bytes =
    record {
      state = with_memory k (spaces.write k.memory t at bytes).memory;
      outcome = done_or_refused (spaces.write k.memory t at bytes).told;
      entries = option_to_list (wrote_note t at (length bytes) (spaces.write k.memory t at bytes).told);
    }

-- what a task is told of bytes that it reads
abbrev pub bytes_or_refused : Result (List ℕ) Code → Outcome
bytes_or_refused (Ok bytes) = Bytes bytes
bytes_or_refused (Err code) = Refused code

-- a task reads so many bytes from an address on
abbrev pub peek : KernelState → TaskNo → ℕ → ℕ → Served
peek k t at count = record { state = k; outcome = bytes_or_refused (spaces.peek k.memory t at count); entries = [] }

-- task t has no longer the area with this base
abbrev pub lose_area : TaskNo → KernelState → ℕ → Transition
lose_area t k base = record { state = with_memory k (spaces.drop_area k.memory t base).memory; entries = AreaGone t base ∷ [] }

-- likewise its first area, where it has one
abbrev pub lose_first_area : TaskNo → KernelState → Option ℕ → Transition
lose_first_area t k None = nothing k
lose_first_area t k (Some base) = lose_area t k base
