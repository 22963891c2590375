-- Operations that call, wait and yield, and those of raw bodies.
use Rattle.std.specs.Prelude.{ℕ, [], ◌∷◌, ◌++◌, Option, None, Some}
use Rattle.ipc_ids.specs.declared.numbers.CallNo.{CallNo}
use Rattle.ipc_ids.specs.declared.numbers.FibrilNo.{FibrilNo}
use Rattle.ipc_ids.specs.declared.numbers.Code.{Code}
use Rattle.ipc_ids.specs.declared.message.Why.{Why}
use Rattle.ipc_ids.specs.declared.message.Why.TheVariants as why
use Rattle.ipc_ids.specs.declared.message.Outcome.{Outcome}
use Rattle.ipc_ids.specs.declared.message.Outcome.TheVariants as outcome
use Rattle.ipc_ids.specs.declared.entry.Entry.TheVariants as entry
use Rattle.ipc_ids.specs.declared.op.Op.{Op}
use Rattle.ipc_ids.specs.Codes.{enoent, ebusy}
use Rattle.registers.specs.Registers.{registers_after, place_after}
use Rattle.fibril_core.specs.declared.conn.Taken.{Taken}
use Rattle.fibril_core.specs.declared.conn.Taken.TheVariants as taken
use Rattle.fibril_core.specs.Fibrils.{block_on, yield_now}
use Rattle.fibril_core.specs.Conns.{take_next}
use Rattle.async_task.specs.declared.context.Slot.{Slot}
use Rattle.async_task.specs.declared.context.Slot.TheVariants as slot
use Rattle.async_task.specs.declared.context.Context.{Context}
use Rattle.async_task.specs.Contexts.{at_next, after_refused, after_accepted, after_answered}
use Rattle.async_task.specs.Contexts.{with_received}
use Rattle.async_task.specs.AsyncState.{AsyncState, Transition, without_entries, with_context}
use Rattle.async_task.specs.Wanted.{bare_msg}

-- the program refuses the operation of the fibril
abbrev pub refuse_op : AsyncState → FibrilNo → Context → Code → Transition
refuse_op a f t c =
    record {
      state = with_context a f (after_refused t c);
      entries = entry.RefusedOp a.me f c ∷ [];
    }

-- the present fibril, which is f, blocks
abbrev pub block : AsyncState → FibrilNo → Why → Transition
block a f w =
    record { state = record a { order = block_on a.order w }; entries = entry.Blocks a.me f w ∷ [] }

-- the call of a slot was accepted
abbrev pub send_call : AsyncState → FibrilNo → Context → ℕ → CallNo → Transition
send_call a f t k n =
    record {
      state =
          record (with_context a f (after_accepted t k n)) {
            awaited = a.awaited ++ record { call = n; fibril = f; slot = Some k } ∷ [];
          };
      entries = entry.Sent a.me f n (Some k) ∷ [];
    }

-- the call of a slot was accepted, or the kernel refused it
abbrev pub call_outcome : AsyncState → FibrilNo → Context → ℕ → Outcome → Transition
call_outcome a f t k (outcome.Accepted n) = send_call a f t k n
call_outcome a f t k (outcome.Refused c) = without_entries (with_context a f (after_refused t c))
call_outcome a f t k _ = without_entries a

-- a call from slot k, which holds that
abbrev pub call_slot : AsyncState → FibrilNo → Context → ℕ → Outcome → Slot → Transition
call_slot a f t k o slot.Closed = call_outcome a f t k o
call_slot a f t k o (slot.Sent n) = refuse_op a f t ebusy
call_slot a f t k o (slot.Answered n r) = refuse_op a f t ebusy

-- a call from slot k over the phone of an exchange that is begun or not
abbrev pub send_over :
    AsyncState → FibrilNo → Context → ℕ → Outcome → Slot → Option ℕ → Transition
send_over a f t k o s None = refuse_op a f t enoent
send_over a f t k o s (Some phone) = call_slot a f t k o s

-- a fibril waits for the answer of slot k
abbrev pub wait_slot : AsyncState → FibrilNo → Context → ℕ → Slot → Transition
wait_slot a f t k slot.Closed = refuse_op a f t enoent
wait_slot a f t k (slot.Sent n) = block a f (why.Answer n)
wait_slot a f t k (slot.Answered n reply) =
    without_entries (with_context a f (after_answered t k n reply))

-- a fibril asks its connection for the next call, and finds that; a closing looks like a call of
-- number, method and arguments 0
abbrev pub next_call : AsyncState → FibrilNo → Context → Taken → Transition
next_call a f t (taken.Call n msg label) =
    without_entries (with_context a f (at_next (with_received t n msg label)))
next_call a f t (taken.HungUp label) =
    without_entries (with_context a f
    (at_next (with_received t (record { 0 = 0 }) (bare_msg 0) label)))
next_call a f t taken.Wait = block a f why.Message
next_call a f t taken.NoConnection = refuse_op a f t enoent

-- the connections after the fibril asked
abbrev pub with_taken : AsyncState → FibrilNo → AsyncState
with_taken a f = record a { conns = take_next f a.conns }

-- a fibril lets the others go on first
abbrev pub yield_op : AsyncState → FibrilNo → Context → AsyncState
yield_op a f t = record (with_context a f (at_next t)) { order = yield_now a.order }

-- what a fibril keeps after an operation that has no need of fibrils
abbrev pub after_raw : Context → Op → Outcome → Context
after_raw t p o =
    record t {
      place = place_after t.registers t.place p o;
      registers = registers_after t.registers p o;
    }

-- the same of the operation that is there
abbrev pub after_present : Context → Outcome → Option Op → Context
after_present t o None = t
after_present t o (Some p) = after_raw t p o
