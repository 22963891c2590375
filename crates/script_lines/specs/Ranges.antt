-- What the parts of an operation keep to.
use Rattle.std.specs.Prelude.{◌≡◌, ◌<◌, ⊤, Bool, true, false, All}
use Rattle.ipc_ids.specs.declared.op.Value.{Value}
use Rattle.ipc_ids.specs.declared.op.Value.TheVariants.{Number, Register}
use Rattle.ipc_ids.specs.declared.op.Op.{Op}
use Rattle.script_lines.specs.declared.plan.Kind.{Kind}
use Rattle.script_lines.specs.declared.plan.Kind.TheVariants.{Naming, Raw, Async, Block}
use Rattle.ipc_ids.specs.declared.op.Op.TheVariants.{Call, Receive, Answer, Forward, ForwardWith, Hangup, Area, Unarea, Poke, Peek, Set, Jump, JumpEqual, JumpDiffer, CallSlot, Send, Wait, Next, Yield, OpenSession, Begin, End, Close}

-- there are the registers r0 to r31
abbrev pub IsInRange : Value → Type 0
IsInRange (Number n) = ⊤
IsInRange (Register r) = r < 32

-- each register, slot, handle and session that an operation names is there, and each place is below
-- 65,536
abbrev pub KeepsRanges : Op → Type 0
KeepsRanges (Call phone method args) = IsInRange phone × IsInRange method × All IsInRange args
KeepsRanges Receive = ⊤
KeepsRanges (Answer call code args) = IsInRange call × IsInRange code × All IsInRange args
KeepsRanges (Forward call phone mode) = IsInRange call × IsInRange phone
KeepsRanges (ForwardWith call phone mode method args) =
    IsInRange call × IsInRange phone × IsInRange method × All IsInRange args
KeepsRanges (Hangup phone) = IsInRange phone
KeepsRanges (Area base pages rights) = IsInRange base × IsInRange pages × IsInRange rights
KeepsRanges (Unarea base) = IsInRange base
KeepsRanges (Poke at bytes) = IsInRange at
KeepsRanges (Peek at count) = IsInRange at × IsInRange count
KeepsRanges (Set register value) = (register < 32) × IsInRange value
KeepsRanges (Jump to) = to < 65536
KeepsRanges (JumpEqual left right to) = IsInRange left × IsInRange right × (to < 65536)
KeepsRanges (JumpDiffer left right to) = IsInRange left × IsInRange right × (to < 65536)
KeepsRanges (CallSlot slot phone method args) =
    (slot < 8) × IsInRange phone × IsInRange method × All IsInRange args
KeepsRanges (Send slot handle method args) =
    (slot < 8) × (handle < 8) × IsInRange method × All IsInRange args
KeepsRanges (Wait slot) = slot < 8
KeepsRanges Next = ⊤
KeepsRanges Yield = ⊤
KeepsRanges (OpenSession session phone mode) = (session < 16) × IsInRange phone
KeepsRanges (Begin handle session) = (handle < 8) × (session < 16)
KeepsRanges (End handle) = handle < 8
KeepsRanges (Close session) = session < 16

-- raw tasks have all operations but those of fibrils
abbrev pub is_raw_op : Op → Bool
is_raw_op (CallSlot slot phone method args) = false
is_raw_op (Send slot handle method args) = false
is_raw_op (Wait slot) = false
is_raw_op Next = false
is_raw_op Yield = false
is_raw_op (OpenSession session phone mode) = false
is_raw_op (Begin handle session) = false
is_raw_op (End handle) = false
is_raw_op (Close session) = false
is_raw_op _ = true

-- fibrils call from a slot, get calls by `next`, and hang up no phone
abbrev pub is_async_op : Op → Bool
is_async_op (Call phone method args) = false
is_async_op Receive = false
is_async_op (Hangup phone) = false
is_async_op _ = true

-- an operation of a raw task
abbrev pub IsRawOp : Op → Type 0
IsRawOp op = (is_raw_op op ≡ true) × KeepsRanges op

-- an operation of an async task
abbrev pub IsAsyncOp : Op → Type 0
IsAsyncOp op = (is_async_op op ≡ true) × KeepsRanges op

-- an operation of a task of this kind
abbrev pub IsOpOf : Kind → Op → Type 0
IsOpOf Naming op = ⊥
IsOpOf Raw op = IsRawOp op
IsOpOf Async op = IsAsyncOp op
IsOpOf Block op = ⊥
