-- What an async task asks next.
use Rattle.std.specs.Prelude.{ℕ, suc, zero, Bool, true, false, ◌==◌, ◌&&◌, ◌||◌, List, length}
use Rattle.std.specs.Prelude.{Option, None, Some, replicate}
use Rattle.ipc_ids.specs.declared.numbers.FibrilNo.{FibrilNo}
use Rattle.ipc_ids.specs.declared.numbers.ExchangeNo.{ExchangeNo}
use Rattle.ipc_ids.specs.declared.message.Msg.{Msg}
use Rattle.ipc_ids.specs.declared.message.Why.{Why}
use Rattle.ipc_ids.specs.declared.message.Request.{Request}
use Rattle.ipc_ids.specs.declared.message.Request.TheVariants as ask
use Rattle.ipc_ids.specs.declared.op.Value.{Value}
use Rattle.ipc_ids.specs.declared.op.Value.TheVariants.{Number}
use Rattle.ipc_ids.specs.declared.op.Op.{Op}
use Rattle.ipc_ids.specs.declared.op.Op.TheVariants as op
use Rattle.ipc_ids.specs.Methods.{connect_me_to}
use Rattle.registers.specs.Registers.{value_in, msg_in, request_in}
use Rattle.fibril_core.specs.Fibrils.{why_of}
use Rattle.async_sessions.specs.declared.sessions.Begin.{Begin}
use Rattle.async_sessions.specs.declared.sessions.Begin.TheVariants as begin
use Rattle.async_sessions.specs.declared.sessions.Close.{Close}
use Rattle.async_sessions.specs.declared.sessions.Close.TheVariants as close
use Rattle.async_sessions.specs.Sessions.{Open, session_at, begin_answer, held_by, phone_answer}
use Rattle.async_sessions.specs.Sessions.{close_answer}
use Rattle.async_task.specs.declared.context.Slot.{Slot}
use Rattle.async_task.specs.declared.context.Slot.TheVariants as slot
use Rattle.async_task.specs.declared.context.Context.{Context}
use Rattle.async_task.specs.Turns.{Turn}
use Rattle.async_task.specs.Turns as turn
use Rattle.async_task.specs.Contexts.{slot_at, handle_at}
use Rattle.async_task.specs.AsyncState.{AsyncState, context_at, present_op}
use Rattle.async_task.specs.Turns.{turn_now}

-- a call from a slot, which is in use or not
abbrev pub wanted_call : Context → Value → Value → List Value → Slot → Request
wanted_call t phone method args slot.Closed =
    ask.Call (value_in t.registers phone) (msg_in t.registers method args)
wanted_call t phone method args (slot.Sent n) = ask.Nothing
wanted_call t phone method args (slot.Answered n r) = ask.Nothing

-- the phone of the exchange that the fibril has begun under a handle
abbrev pub phone_by : Open → FibrilNo → Option ExchangeNo → Option ℕ
phone_by o f None = None
phone_by o f (Some e) = phone_answer (held_by f e o.exchanges)

-- a call from a slot over the phone of an exchange that is begun or not
abbrev pub wanted_send : Context → Value → List Value → Slot → Option ℕ → Request
wanted_send t method args s None = ask.Nothing
wanted_send t method args s (Some phone) = wanted_call t (Number phone) method args s

-- a begin over a handle that is in use is refused, but one of no session is refused as such
abbrev pub unless_held : Begin → Option ℕ → Begin
unless_held (begin.Refused c) held = begin.Refused c
unless_held plan None = plan
unless_held plan (Some phone) = begin.Refused (record { 0 = 8 })

-- what a begin comes to
abbrev pub plan_begin : AsyncState → FibrilNo → Context → ℕ → ℕ → Begin
plan_begin a f t x s =
    unless_held (begin_answer a.pool s t.short (session_at a.pool s))
    (phone_by a.pool f (handle_at t x))

-- a message without arguments
abbrev pub bare_msg : ℕ → Msg
bare_msg n = record { method = n; args = replicate 5 0 }

abbrev pub wanted_begin : Begin → Request
wanted_begin (begin.Connect phone) = ask.Call phone (bare_msg connect_me_to)
wanted_begin (begin.HangIdle e phone) = ask.Hangup phone
wanted_begin _ = ask.Nothing

-- whether an operation is a begin of session s
abbrev pub is_begin_of : ℕ → Option Op → Bool
is_begin_of s (Some (op.Begin x r)) = r == s
is_begin_of s _ = false

-- whether the present operation of a fibril is
abbrev pub begins_in : AsyncState → ℕ → Option Context → Bool
begins_in a s None = false
begins_in a s (Some t) = is_begin_of s (present_op a t)

abbrev pub is_blocked : Option Why → Bool
is_blocked None = false
is_blocked (Some w) = true

-- whether the fibril is blocked in a begin of session s
abbrev pub waits_for : AsyncState → ℕ → FibrilNo → Bool
waits_for a s f = is_blocked (why_of a.order f) && begins_in a s (context_at a f)

-- whether one of the first n fibrils is
abbrev pub any_waits : ℕ → AsyncState → ℕ → Bool
any_waits zero a s = false
any_waits (suc n) a s = any_waits n a s || waits_for a s (record { 0 = suc n })

-- what a close comes to
abbrev pub plan_close : AsyncState → ℕ → Close
plan_close a s =
    close_answer a.pool s (any_waits (length a.contexts) a s) (session_at a.pool s)

abbrev pub wanted_close : Close → Request
wanted_close (close.HangIdle e phone) = ask.Hangup phone
wanted_close (close.Last phone) = ask.Hangup phone
wanted_close (close.Refused c) = ask.Nothing

-- what an operation asks
abbrev pub wanted_op : AsyncState → FibrilNo → Context → Op → Request
wanted_op a f t (op.CallSlot k phone method args) =
    wanted_call t phone method args (slot_at t k)
wanted_op a f t (op.Send k x method args) =
    wanted_send t method args (slot_at t k) (phone_by a.pool f (handle_at t x))
wanted_op a f t (op.Begin x s) = wanted_begin (plan_begin a f t x s)
wanted_op a f t (op.Close s) = wanted_close (plan_close a s)
wanted_op a f t other = request_in t.registers other

abbrev pub wanted_in : AsyncState → Turn → Request
wanted_in a (turn.Work n c) = ask.Answer n.0 (record { code = c; args = replicate 5 0 })
wanted_in a (turn.Run f t None) = ask.Nothing
wanted_in a (turn.Run f t (Some p)) = wanted_op a f t p
wanted_in a turn.Receive = ask.Receive

-- what it asks next
abbrev pub wanted : AsyncState → Request
wanted a = wanted_in a (turn_now a)
