-- What a fibril keeps, and what the outcomes of its operations make of it.
use Rattle.std.specs.Prelude.{ℕ, Bool, false, if◌then◌else◌, Option, None, Some, nat_lt, replicate}
use Rattle.std.specs.Prelude.{slice_get, slice_set}
use Rattle.ipc_ids.specs.declared.numbers.CallNo.{CallNo}
use Rattle.ipc_ids.specs.declared.numbers.Code.{Code}
use Rattle.ipc_ids.specs.declared.numbers.ExchangeNo.{ExchangeNo}
use Rattle.ipc_ids.specs.declared.numbers.Label.{Label}
use Rattle.ipc_ids.specs.declared.message.Msg.{Msg}
use Rattle.ipc_ids.specs.declared.message.Reply.{Reply}
use Rattle.ipc_ids.specs.declared.message.Outcome.{Outcome}
use Rattle.ipc_ids.specs.declared.message.Outcome.TheVariants as outcome
use Rattle.registers.specs.Registers.{told, next_place}
use Rattle.async_task.specs.declared.context.Slot.{Slot}
use Rattle.async_task.specs.declared.context.Slot.TheVariants as slot
use Rattle.async_task.specs.declared.context.Context.{Context}

-- a fibril before the first operation of the body with this number
abbrev pub new_context : ℕ → Context
new_context body =
    record {
      body = body;
      place = 0;
      registers = replicate 32 0;
      slots = replicate 8 slot.Closed;
      handles = replicate 8 None;
      short = false;
    }

-- at the next operation
abbrev pub at_next : Context → Context
at_next t = record t { place = next_place t.place }

-- what an outcome says is in the registers
abbrev pub with_told : Context → Outcome → Context
with_told t o = record t { registers = told t.registers o }

-- what a slot holds that may not be there
abbrev pub slot_in : Option Slot → Slot
slot_in None = slot.Closed
slot_in (Some s) = s

-- what the slot with this number holds
abbrev pub slot_at : Context → ℕ → Slot
slot_at t k = slot_in (slice_get t.slots k)

-- the slot holds that
abbrev pub with_slot : Context → ℕ → Slot → Context
with_slot t k s = record t { slots = if nat_lt k 8 then slice_set t.slots k s else t.slots }

-- what a handle names that may not be there
abbrev pub handle_in : Option (Option ExchangeNo) → Option ExchangeNo
handle_in None = None
handle_in (Some h) = h

-- the exchange that the handle with this number names
abbrev pub handle_at : Context → ℕ → Option ExchangeNo
handle_at t x = handle_in (slice_get t.handles x)

-- the handle names that
abbrev pub with_handle : Context → ℕ → Option ExchangeNo → Context
with_handle t x h = record t { handles = if nat_lt x 8 then slice_set t.handles x h else t.handles }

-- whether a connect call of the present begin met the limit
abbrev pub with_short : Context → Bool → Context
with_short t b = record t { short = b }

-- the request of an operation had this outcome
abbrev pub after_outcome : Context → Outcome → Context
after_outcome t o = at_next (with_told t o)

-- an operation was done
abbrev pub after_done : Context → Context
after_done t = after_outcome t outcome.Done

-- an operation was refused
abbrev pub after_refused : Context → Code → Context
after_refused t c = after_outcome t (outcome.Refused c)

-- a call was received
abbrev pub with_received : Context → CallNo → Msg → Label → Context
with_received t n msg label = with_told t (outcome.Received n msg label)

-- the call of the slot was accepted
abbrev pub after_accepted : Context → ℕ → CallNo → Context
after_accepted t k n =
    at_next (with_slot (with_told t (outcome.Accepted n)) k (slot.Sent n))

-- the answer was taken from the slot
abbrev pub after_answered : Context → ℕ → CallNo → Reply → Context
after_answered t k n reply =
    at_next (with_slot (with_told t (outcome.Answered n reply)) k slot.Closed)

-- a begin ended with that exchange, under the handle
abbrev pub after_begun : Context → ℕ → ExchangeNo → Context
after_begun t x e = after_done (with_handle (with_short t false) x (Some e))

-- the exchange of the handle ended
abbrev pub after_ended : Context → ℕ → Context
after_ended t x = after_done (with_handle t x None)
