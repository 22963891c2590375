-- What outcomes make of a fibril's calls, waits and messages, a row for each, with all values apart.
use Rattle.std.specs.Prelude.{◌≡◌, ℕ, true, List, [], ◌∷◌, ◌++◌, Some}
use Rattle.ipc_ids.specs.declared.message.Outcome.{Outcome}
use Rattle.ipc_ids.specs.declared.message.Outcome.TheVariants as got
use Rattle.ipc_ids.specs.declared.message.Mode.TheVariants.{Route}
use Rattle.ipc_ids.specs.declared.message.Why.TheVariants as why
use Rattle.ipc_ids.specs.declared.entry.Entry.{Entry}
use Rattle.ipc_ids.specs.declared.entry.Entry.TheVariants as entry
use Rattle.ipc_ids.specs.declared.op.Value.TheVariants.{Number, Register}
use Rattle.ipc_ids.specs.declared.op.Op.{Op}
use Rattle.ipc_ids.specs.declared.op.Op.TheVariants as op
use Rattle.fibril_core.specs.declared.fibrils.Status.{Status}
use Rattle.fibril_core.specs.declared.fibrils.Status.TheVariants as status
use Rattle.async_task.specs.declared.context.Slot.TheVariants as slot
use Rattle.async_task.specs.declared.context.Context.{Context}
use Rattle.async_task.specs.AsyncState.{AsyncState}
use Rattle.async_task.specs.Steps.{step}
use Rattle.program_examples.specs.Apart.{from, five, five_values, call_number, code}
use Rattle.program_examples.specs.FibrilTask.{task, task_number, fibril, own, gone_on, kept, slots, sent, answered, order_with, connection, queued, awaited, awaits}

-- the second fibril does this operation, and its outcome makes this of the task, and tells that
abbrev pub Makes : Op → Outcome → AsyncState → List Entry → Type 0
Makes o outcome after told = step (task o) outcome ≡ record { state = after; entries = told }

-- all else stays, and the second fibril keeps this
abbrev pub keeping : Context → Op → AsyncState
keeping t o = record (task o) { contexts = kept t }

-- the task refuses the operation with this code
abbrev pub IsRefused : Op → ℕ → Type 0
IsRefused o n =
    Makes o got.Done (keeping (gone_on (n ∷ from 201 31)) o)
    (entry.RefusedOp task_number (fibril 2) (code n) ∷ [])

-- the kernel refuses its request, and nothing is told
abbrev pub IsTold : Op → Type 0
IsTold o = Makes o (got.Refused (code 98)) (keeping (gone_on (98 ∷ from 201 31)) o) []

-- all is well, and nothing is told
abbrev pub IsDone : Op → Type 0
IsDone o = Makes o got.Done (keeping (gone_on (0 ∷ from 201 31)) o) []

-- a call from this slot, and a send from it under this handle
abbrev pub call_op : ℕ → Op
call_op k = op.CallSlot k (Register 21) (Register 22) five_values

abbrev pub send_op : ℕ → ℕ → Op
send_op k x = op.Send k x (Register 22) five_values

-- call 99 was accepted from slot 5
abbrev pub calling : Context
calling = record (gone_on (0 ∷ 99 ∷ from 202 30)) { slots = slots sent answered (slot.Sent (call_number 99)) }

-- its answer is awaited
abbrev pub with_call : Op → AsyncState
with_call o = record (keeping calling o) { awaited = awaited ++ awaits 99 2 (Some 5) ∷ [] }

-- calls and sends: EBUSY for a slot in use, ENOENT for an exchange that is not begun, and that one first
pub record CallSteps : Type 0 where
  pub call : Makes (call_op 5) (got.Accepted (call_number 99)) (with_call (call_op 5))
      (entry.Sent task_number (fibril 2) (call_number 99) (Some 5) ∷ [])
  pub call_refused : IsTold (call_op 5)
  pub call_where_one_is_sent : IsRefused (call_op 3) 8
  pub call_where_one_is_answered : IsRefused (call_op 4) 8
  pub send : Makes (send_op 5 2) (got.Accepted (call_number 99)) (with_call (send_op 5 2))
      (entry.Sent task_number (fibril 2) (call_number 99) (Some 5) ∷ [])
  pub send_refused : IsTold (send_op 5 2)
  pub send_where_one_is_sent : IsRefused (send_op 3 2) 8
  pub send_where_one_is_answered : IsRefused (send_op 4 2) 8
  pub send_over_that_of_another_fibril : IsRefused (send_op 5 4) 1
  pub send_over_none : IsRefused (send_op 5 6) 1
  pub send_over_none_where_one_is_sent : IsRefused (send_op 3 6) 1

-- the second fibril blocks
abbrev pub blocked_on : Status → Op → AsyncState
blocked_on state o = record (task o) { order = order_with state }

-- waits and messages
pub record WaitSteps : Type 0 where
  pub wait_answered : Makes (op.Wait 4) got.Done
      (keeping (record (gone_on (0 ∷ from 201 8 ++ 73 ∷ 74 ∷ five 75 76 77 78 79 ++ from 216 16)) {
        slots = slots sent slot.Closed slot.Closed;
      }) (op.Wait 4))
      []
  pub wait_sent : Makes (op.Wait 3) got.Done (blocked_on (status.Blocked (why.Answer (call_number 72))) (op.Wait 3))
      (entry.Blocks task_number (fibril 2) (why.Answer (call_number 72)) ∷ [])
  pub wait_for_none : IsRefused (op.Wait 5) 1
  pub next : Makes op.Next got.Done
      (record (keeping (gone_on (0 ∷ 201 ∷ 81 ∷ 601 ∷ five 91 92 93 94 95 ++ from 209 7 ++ 7 ∷ 8 ∷ from 218 14))
      op.Next) {
        conns = connection (queued 82 602 ∷ []) ∷ [];
      })
      []
  pub next_where_it_is_closed :
      step (record (task op.Next) { conns = record (connection []) { closed = true } ∷ [] }) got.Done
      ≡ record {
        state =
            record (keeping (gone_on (0 ∷ 201 ∷ 0 ∷ 0 ∷ five 0 0 0 0 0 ++ from 209 7 ++ 7 ∷ 8 ∷ from 218 14)) op.Next) {
              conns = record (connection []) { closed = true } ∷ [];
            };
        entries = [];
      }
  pub next_where_none_has_come :
      step (record (task op.Next) { conns = connection [] ∷ [] }) got.Done
      ≡ record {
        state = record (blocked_on (status.Blocked why.Message) op.Next) { conns = connection [] ∷ [] };
        entries = entry.Blocks task_number (fibril 2) why.Message ∷ [];
      }
  pub next_without_a_connection :
      step (record (task op.Next) { conns = record (connection []) { fibril = fibril 3 } ∷ [] }) got.Done
      ≡ record {
        state =
            record (keeping (gone_on (1 ∷ from 201 31)) op.Next) {
              conns = record (connection []) { fibril = fibril 3 } ∷ [];
            };
        entries = entry.RefusedOp task_number (fibril 2) (code 1) ∷ [];
      }
  pub yield : Makes op.Yield got.Done
      (record (keeping (gone_on (from 200 32)) op.Yield) { order = order_with status.Ready })
      []

-- operations that raw tasks have too: what the kernel tells goes into r0
pub record RawSteps : Type 0 where
  pub answer : IsDone (op.Answer (Register 21) (Register 22) five_values)
  pub answer_refused : IsTold (op.Answer (Register 21) (Register 22) five_values)
  pub forward : IsDone (op.Forward (Register 21) (Register 22) Route)
  pub forward_refused : IsTold (op.Forward (Register 21) (Register 22) Route)
  pub forward_with : IsDone (op.ForwardWith (Register 21) (Register 22) Route (Register 23) five_values)
  pub forward_with_refused : IsTold (op.ForwardWith (Register 21) (Register 22) Route (Register 23) five_values)
  pub area : IsDone (op.Area (Register 21) (Register 22) (Register 23))
  pub area_refused : IsTold (op.Area (Register 21) (Register 22) (Register 23))
  pub unarea : IsDone (op.Unarea (Register 21))
  pub unarea_refused : IsTold (op.Unarea (Register 21))
  pub poke : IsDone (op.Poke (Register 21) (10 ∷ 255 ∷ []))
  pub poke_refused : IsTold (op.Poke (Register 21) (10 ∷ 255 ∷ []))
  pub peek : Makes (op.Peek (Register 21) (Number 2)) (got.Bytes (10 ∷ 255 ∷ []))
      (keeping (gone_on (0 ∷ from 201 31)) (op.Peek (Register 21) (Number 2)))
      []
  pub peek_refused : IsTold (op.Peek (Register 21) (Number 2))

-- the second fibril goes on at this place, with these registers
abbrev pub IsAt : Op → ℕ → List ℕ → Type 0
IsAt o place registers = Makes o got.Done (keeping (record own { place = place; registers = registers }) o) []

-- setting a register, and jumps
pub record JumpSteps : Type 0 where
  pub set : IsAt (op.Set 21 (Register 22)) 3 (from 200 21 ++ 222 ∷ from 222 10)
  pub set_no_register : IsAt (op.Set 32 (Register 22)) 3 (from 200 32)
  pub jump : IsAt (op.Jump 7) 7 (from 200 32)
  pub equal : IsAt (op.JumpEqual (Register 21) (Number 221) 7) 7 (from 200 32)
  pub not_equal : IsAt (op.JumpEqual (Register 21) (Register 22) 7) 3 (from 200 32)
  pub differ : IsAt (op.JumpDiffer (Register 21) (Register 22) 7) 7 (from 200 32)
  pub not_differ : IsAt (op.JumpDiffer (Register 21) (Number 221) 7) 3 (from 200 32)
