-- A raw program: what it asks of the kernel next, and what an outcome makes of it.
use Rattle.std.specs.Prelude.{ℕ, ◌+◌, List, [], Option, None, Some, replicate, slice_get}
use Rattle.ipc_ids.specs.declared.message.Request.{Request}
use Rattle.ipc_ids.specs.declared.message.Request.TheVariants as ask
use Rattle.ipc_ids.specs.declared.message.Outcome.{Outcome}
use Rattle.ipc_ids.specs.declared.entry.Entry.{Entry}
use Rattle.ipc_ids.specs.declared.op.Op.{Op}
use Rattle.ipc_ids.specs.declared.op.Op.TheVariants as op
use Rattle.registers.specs.Registers.{value_in, msg_in, request_in, registers_after, place_after}

-- its operations, the number of the next one, the registers r0 to r31, and how many outcomes it took
pub record RawState : Type 0 where
  pub ops : List Op
  pub place : ℕ
  pub registers : List ℕ
  pub taken : ℕ

-- before the first operation
abbrev pub started : List Op → RawState
started ops = record { ops = ops; place = 0; registers = replicate 32 0; taken = 0 }

-- the next operation; none at or past the end
abbrev pub operation : RawState → Option Op
operation raw = slice_get raw.ops raw.place

-- what an operation asks, with these registers; setting a register and jumping ask nothing, nor do those of fibrils
abbrev pub request_of : List ℕ → Op → Request
request_of registers (op.Call phone method args) = ask.Call (value_in registers phone) (msg_in registers method args)
request_of registers op.Receive = ask.Receive
request_of registers (op.Hangup phone) = ask.Hangup (value_in registers phone)
request_of registers other = request_in registers other

-- what the next operation asks, if there is one
abbrev pub wanted_at : List ℕ → Option Op → Request
wanted_at registers None = ask.Nothing
wanted_at registers (Some operation) = request_of registers operation

-- the next request; nothing at or past the end
abbrev pub wanted : RawState → Request
wanted raw = wanted_at raw.registers (operation raw)

-- the registers after the next operation, if there is one, whose request had this outcome
abbrev pub registers_by : List ℕ → Outcome → Option Op → List ℕ
registers_by registers got None = registers
registers_by registers got (Some operation) = registers_after registers operation got

-- the place after it
abbrev pub place_by : List ℕ → ℕ → Outcome → Option Op → ℕ
place_by registers place got None = place
place_by registers place got (Some operation) = place_after registers place operation got

-- what an outcome makes of a program
abbrev pub after : RawState → Outcome → RawState
after raw got =
    record raw {
      place = place_by raw.registers raw.place got (operation raw);
      registers = registers_by raw.registers got (operation raw);
      taken = raw.taken + 1;
    }

-- it has no entries of its own
abbrev pub entries : RawState → Outcome → List Entry
entries raw got = []

-- how many outcomes it took
abbrev pub taken : RawState → ℕ
taken raw = raw.taken
