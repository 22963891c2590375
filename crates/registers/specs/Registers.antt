-- What the operations of a body read from its 32 registers and write into them, and where the body goes on.
use Rattle.std.specs.Prelude.{ℕ, Bool, true, false, ◌+◌, ◌^◌, ◌==◌, not, if◌then◌else◌, List, map, None, Some}
use Rattle.std.specs.Prelude.{nat_lt, slice_set, slice_index, slice_index_or}
use Rattle.ipc_ids.specs.declared.message.Msg.{Msg}
use Rattle.ipc_ids.specs.declared.message.Reply.{Reply}
use Rattle.ipc_ids.specs.declared.message.Request.{Request}
use Rattle.ipc_ids.specs.declared.message.Request.TheVariants as ask
use Rattle.ipc_ids.specs.declared.message.Outcome.{Outcome}
use Rattle.ipc_ids.specs.declared.message.Outcome.TheVariants as got
use Rattle.ipc_ids.specs.declared.op.Value.{Value}
use Rattle.ipc_ids.specs.declared.op.Value.TheVariants.{Number, Register}
use Rattle.ipc_ids.specs.declared.op.Op.{Op}
use Rattle.ipc_ids.specs.declared.op.Op.TheVariants as op

-- a number, or what a register holds: 0 from r32 on
abbrev pub value_in : List ℕ → Value → ℕ
value_in registers (Number n) = n
value_in registers (Register k) = slice_index_or registers k 0

-- what each of these stands for
abbrev pub values_in : List ℕ → List Value → List ℕ
values_in registers values = map (value_in registers) values

-- the message of a call, or of a forward that changes it
abbrev pub msg_in : List ℕ → Value → List Value → Msg
msg_in registers method args = record { method = value_in registers method; args = values_in registers args }

-- the reply of an answer
abbrev pub reply_in : List ℕ → Value → List Value → Reply
reply_in registers code args =
    record { code = record { 0 = value_in registers code }; args = values_in registers args }

-- what an operation on memory asks; the others ask nothing
abbrev pub memory_request_in : List ℕ → Op → Request
memory_request_in registers (op.Area base pages rights) =
    ask.AreaMake (value_in registers base) (value_in registers pages) (value_in registers rights)
memory_request_in registers (op.Unarea base) = ask.AreaDrop (value_in registers base)
memory_request_in registers (op.Poke at bytes) = ask.Poke (value_in registers at) bytes
memory_request_in registers (op.Peek at count) = ask.Peek (value_in registers at) (value_in registers count)
memory_request_in registers _ = ask.Nothing

-- what an operation asks that bodies of every kind have, on a held call or on memory; the others ask nothing
abbrev pub request_in : List ℕ → Op → Request
request_in registers (op.Answer call code args) = ask.Answer (value_in registers call) (reply_in registers code args)
request_in registers (op.Forward call phone mode) =
    ask.Forward (value_in registers call) (value_in registers phone) mode None
request_in registers (op.ForwardWith call phone mode method args) =
    ask.Forward (value_in registers call) (value_in registers phone) mode (Some (msg_in registers method args))
request_in registers other = memory_request_in registers other

-- register k holds n; there is none from 32 on
abbrev pub with_register : List ℕ → ℕ → ℕ → List ℕ
with_register registers k n = if nat_lt k 32 then slice_set registers k n else registers

-- five registers hold these, from k on
abbrev pub with_five : List ℕ → ℕ → List ℕ → List ℕ
with_five registers k ns =
    let two = with_register (with_register registers k (slice_index ns 0)) (k + 1) (slice_index ns 1) in
    let four = with_register (with_register two (k + 2) (slice_index ns 2)) (k + 3) (slice_index ns 3) in
    with_register four (k + 4) (slice_index ns 4)

-- what an outcome says is in the registers: in r0 that it was done or why it was refused, in r1 the number of a call
-- that was accepted, from r2 on a call that was received, from r9 on an answer
abbrev pub told : List ℕ → Outcome → List ℕ
told registers got.Done = with_register registers 0 0
told registers (got.Refused code) = with_register registers 0 code.0
told registers (got.Accepted call) = with_register (with_register registers 0 0) 1 call.0
told registers (got.Received call msg label) =
    let called = with_register (with_register (with_register registers 0 0) 2 call.0) 3 msg.method in
    let given = with_five called 4 msg.args in
    with_register (with_register given 16 label.task.0) 17 label.phone.0
told registers (got.Answered call reply) =
    let answered = with_register (with_register (with_register registers 0 0) 9 call.0) 10 reply.code.0 in
    with_five answered 11 reply.args
told registers (got.Bytes bytes) = with_register registers 0 0
told registers got.Empty = registers

-- the registers after an operation: what it sets, nothing of a jump, and of each other one what its outcome says
abbrev pub registers_after : List ℕ → Op → Outcome → List ℕ
registers_after registers (op.Set k value) outcome = with_register registers k (value_in registers value)
registers_after registers (op.Jump to) outcome = registers
registers_after registers (op.JumpEqual left right to) outcome = registers
registers_after registers (op.JumpDiffer left right to) outcome = registers
registers_after registers _ outcome = told registers outcome

-- the place of the next operation; no body has one from 2 ^ 62 on
abbrev pub next_place : ℕ → ℕ
next_place place = if nat_lt place (2 ^ 62) then place + 1 else place

-- this place where a jump is made, else the next one
abbrev pub place_if : Bool → ℕ → ℕ → ℕ
place_if true to place = to
place_if false to place = next_place place

-- where an operation stays to which nothing came, the next place for all others
abbrev pub place_behind : ℕ → Outcome → ℕ
place_behind place got.Empty = place
place_behind place _ = next_place place

-- the place after the operation at a place, whose request had this outcome
abbrev pub place_after : List ℕ → ℕ → Op → Outcome → ℕ
place_after registers place (op.Set k value) outcome = next_place place
place_after registers place (op.Jump to) outcome = to
place_after registers place (op.JumpEqual left right to) outcome =
    place_if (value_in registers left == value_in registers right) to place
place_after registers place (op.JumpDiffer left right to) outcome =
    place_if (not (value_in registers left == value_in registers right)) to place
place_after registers place _ outcome = place_behind place outcome
