-- What the manager does with an answer that comes.
use Rattle.std.specs.Prelude.{ℕ, Bool, true, false, ◌==◌, not, if◌then◌else◌, ◌∷◌}
use Rattle.std.specs.Prelude.{Option, None, Some, slice_index}
use Rattle.std.specs.List.{filter}
use Rattle.ipc_ids.specs.declared.numbers.CallNo.{CallNo}
use Rattle.ipc_ids.specs.declared.numbers.FibrilNo.{FibrilNo}
use Rattle.ipc_ids.specs.declared.message.ExchangeMode.{ExchangeMode}
use Rattle.ipc_ids.specs.declared.message.ExchangeMode.TheVariants as mode
use Rattle.ipc_ids.specs.declared.message.Reply.{Reply}
use Rattle.ipc_ids.specs.declared.message.Why.{Why}
use Rattle.ipc_ids.specs.declared.message.Why.TheVariants as why
use Rattle.ipc_ids.specs.declared.entry.Entry.TheVariants as entry
use Rattle.ipc_ids.specs.declared.op.Op.{Op}
use Rattle.ipc_ids.specs.declared.op.Op.TheVariants as op
use Rattle.ipc_ids.specs.Codes.{eok}
use Rattle.fibril_core.specs.Fibrils.{make_ready, why_of}
use Rattle.async_sessions.specs.Sessions.{session_at, mode_answer, added}
use Rattle.async_task.specs.declared.awaited.Awaited.{Awaited}
use Rattle.async_task.specs.declared.context.Slot.TheVariants as slot
use Rattle.async_task.specs.declared.context.Context.{Context}
use Rattle.async_task.specs.Contexts.{with_slot, after_answered}
use Rattle.async_task.specs.AsyncState.{AsyncState, Transition, without_entries, context_at}
use Rattle.async_task.specs.AsyncState.{with_context, present_op}
use Rattle.async_task.specs.Exchanges.{with_pool, finish_begin, connect_refused}

-- whether this is about call n
abbrev pub is_of_call : CallNo → Awaited → Bool
is_of_call n w = w.call.0 == n.0

-- whether it is about another call
abbrev pub is_of_other_call : CallNo → Awaited → Bool
is_of_other_call n w = not (w.call.0 == n.0)

-- whether it is about a call of another fibril
abbrev pub is_of_other_fibril : FibrilNo → Awaited → Bool
is_of_other_fibril f w = not (w.fibril.0 == f.0)

-- the answer for slot k comes: a fibril that was blocked on it takes it at once, else it waits
-- there
abbrev pub answer_slot : AsyncState → FibrilNo → ℕ → CallNo → Reply → Bool → Context → AsyncState
answer_slot a f k n reply true t = with_context a f (after_answered t k n reply)
answer_slot a f k n reply false t = with_context a f (with_slot t k (slot.Answered n reply))

-- the connect call of a begin gave that phone; where the session is gone or another one, nothing
-- is begun
abbrev pub connect :
    AsyncState → FibrilNo → Context → ℕ → ℕ → ℕ → Option ExchangeMode → Transition
connect a f t x s phone (Some mode.Parallel) =
    finish_begin (with_pool a (added a.pool f s phone mode.Parallel)) f t x s
    (record { 0 = a.pool.next_number }) mode.Parallel phone
connect a f t x s phone _ = without_entries a

-- the connect call of a begin was answered with EOK, or not
abbrev pub answer_begin_by :
    AsyncState → FibrilNo → Context → ℕ → ℕ → Reply → Bool → Transition
answer_begin_by a f t x s reply true =
    connect a f t x s (slice_index reply.args 4) (mode_answer (session_at a.pool s))
answer_begin_by a f t x s reply false = connect_refused a f t reply.code

abbrev pub answer_begin : AsyncState → FibrilNo → Context → ℕ → ℕ → Reply → Transition
answer_begin a f t x s reply = answer_begin_by a f t x s reply (reply.code.0 == eok.0)

-- so where the present operation is a begin
abbrev pub answer_begin_at : AsyncState → FibrilNo → Context → Reply → Option Op → Transition
answer_begin_at a f t reply (Some (op.Begin x s)) = answer_begin a f t x s reply
answer_begin_at a f t reply _ = without_entries a

-- the answer goes to a slot of the fibril, or to its begin
abbrev pub give_answer :
    AsyncState → FibrilNo → CallNo → Reply → Bool → Option ℕ → Option Context → Transition
give_answer a f n reply woken (Some k) (Some t) =
    without_entries (answer_slot a f k n reply woken t)
give_answer a f n reply woken None (Some t) = answer_begin_at a f t reply (present_op a t)
give_answer a f n reply woken k None = without_entries a

-- whether a fibril that is blocked so waits for the answer of call n
abbrev pub is_for : CallNo → Option Why → Bool
is_for n (Some (why.Answer m)) = m.0 == n.0
is_for n _ = false

-- the fibril is ready where it was blocked on that
abbrev pub wake_if : AsyncState → FibrilNo → Bool → AsyncState
wake_if a f woken = record a { order = if woken then make_ready a.order f else a.order }

-- the call is awaited no more
abbrev pub forget_call : AsyncState → CallNo → AsyncState
forget_call a n = record a { awaited = filter (is_of_other_call n) a.awaited }

-- the answer goes where it is awaited
abbrev pub deliver : AsyncState → Awaited → CallNo → Reply → Transition
deliver a w n reply =
    let woken : Bool = is_for n (why_of a.order w.fibril) in
    let b : AsyncState = forget_call (wake_if a w.fibril woken) n in
    let given : Transition =
    give_answer b w.fibril n reply woken w.slot (context_at b w.fibril) in
    record {
      state = given.state;
      entries = entry.Gets a.me w.fibril n w.slot reply ∷ given.entries;
    }

-- an answer comes that is awaited there; one that nobody awaits any more is passed over
abbrev pub take_answer : AsyncState → CallNo → Reply → Option Awaited → Transition
take_answer a n reply None = without_entries a
take_answer a n reply (Some w) = deliver a w n reply
