-- What the data methods do to a call and to the memory, as they are accepted and delivered.
use Rattle.std.specs.Prelude.{ℕ, List, [], length, Option, None, Some, Result, Ok, Err}
use Rattle.ipc_ids.specs.declared.numbers.TaskNo.{TaskNo}
use Rattle.ipc_ids.specs.declared.numbers.StoreNo.{StoreNo}
use Rattle.ipc_ids.specs.declared.numbers.Code.{Code}
use Rattle.ipc_ids.specs.declared.message.Reply.{Reply}
use Rattle.ipc_ids.specs.declared.message.Outcome.TheVariants.{Empty}
use Rattle.ipc_ids.specs.Codes.{eok}
use Rattle.call_slab.specs.declared.call.Call.{Call}
use Rattle.answerbox.specs.Calls.{used}
use Rattle.address_space.specs.Memory.{Step}
use Rattle.data_hooks.specs.DataMoments.{address_of, count_of, write_accept, read_accept, read_deliver}
use Rattle.switchboard.specs.State.{KernelState, with_memory}
use Rattle.switchboard.specs.Serving.{Handed, Served}
use Rattle.switchboard.specs.Joins.{delivery}
use Rattle.switchboard.specs.Areas.{wrote_note}

-- the code of a step that is told so
abbrev pub code_told : {A : Type 0} → Result A Code → Code
code_told (Ok x) = eok
code_told (Err code) = code

-- the reply with the code of a step
abbrev pub reply_told : {A : Type 0} → Reply → Result A Code → Reply
reply_told reply told = record { code = code_told told; args = reply.args }

-- bytes were written at an accepting answer: the answer has the code of the write
abbrev pub written_at_answer : KernelState → Call → Reply → TaskNo → Step (Option StoreNo) → Handed
written_at_answer k c reply t step =
    record {
      state = with_memory k step.memory;
      call = record c { reply = reply_told reply step.told };
      note = wrote_note t (address_of reply.args) (count_of reply.args) step.told;
    }

-- task t accepts a DATA_WRITE: the first bytes that it carries are written where the reply says
abbrev pub accepted_write : KernelState → Call → Reply → TaskNo → Handed
accepted_write k c reply t = written_at_answer k c reply t (write_accept k.memory t c.buffer reply)

-- the bytes of a call after some were read, or none could be
abbrev pub bytes_told : Result (List ℕ) Code → List ℕ → List ℕ
bytes_told (Ok bytes) before = bytes
bytes_told (Err code) before = before

-- task t accepts a DATA_READ: the call takes the bytes with it that the reply names
abbrev pub read_at_answer : KernelState → Call → Reply → Result (List ℕ) Code → Handed
read_at_answer k c reply told = record { state = k; call = record c { reply = reply_told reply told; buffer = bytes_told told c.buffer }; note = None }

abbrev pub accepted_read : KernelState → Call → Reply → TaskNo → Handed
accepted_read k c reply t = read_at_answer k c reply (read_accept k.memory t c.request.args reply (used k.calls))

-- bytes were written at a delivery: the reply that is delivered has the code of the write
abbrev pub written_at_delivery : KernelState → Call → TaskNo → Step (Option StoreNo) → Handed
written_at_delivery k c t step =
    record {
      state = with_memory k step.memory;
      call = record c { reply = reply_told c.reply step.told };
      note = wrote_note t (address_of c.request.args) (length c.buffer) step.told;
    }

-- the answer of a DATA_READ that was accepted is delivered to task t: the bytes of the call are written where it asked
abbrev pub delivered_read : KernelState → Call → TaskNo → Handed
delivered_read k c t = written_at_delivery k c t (read_deliver k.memory t c.request.args c.buffer)

-- the same of a live call, where there is one
abbrev pub read_delivery_live : TaskNo → KernelState → Option Call → Served
read_delivery_live t k None = record { state = k; outcome = Empty; entries = [] }
read_delivery_live t k (Some c) = delivery t (delivered_read k c t)
