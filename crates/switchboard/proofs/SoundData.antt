-- A sound state stays sound as a data method is accepted and delivered.
use Rattle.std.proofs.Common.{◌≡◌, ◌≤◌, ◌+◌, ℕ, List, length, arith, refl, Result, Ok, Err, Option, None, Some, subst}
use Rattle.ipc_ids.specs.declared.numbers.TaskNo.{TaskNo}
use Rattle.ipc_ids.specs.declared.message.Reply.{Reply}
use Rattle.ipc_ids.specs.declared.methods.MethodKind.TheVariants.{DataWrite, DataRead}
use Rattle.ipc_ids.specs.Methods.{kind_of}
use Rattle.call_slab.specs.declared.call.Call.{Call}
use Rattle.answerbox.specs.Calls.{call_at, without_call, used}
use Rattle.answerbox.proofs.Used.{same_room}
use Rattle.data_hooks.proofs.Lengths.{read_length}
use Rattle.ipc_ids.specs.Tables.{most_buffered}
use Rattle.ipc_ids.specs.declared.numbers.Code.{Code}
use Rattle.address_space.specs.Memory.{Memory}
use Rattle.data_hooks.specs.DataMoments.{write_accept, read_accept, read_deliver}
use Rattle.data_hooks.proofs.Keeping.{IsOverwritten, write_accept_keeps, read_deliver_keeps}
use Rattle.switchboard.specs.State.{KernelState, with_calls, with_memory}
use Rattle.switchboard.specs.Joins.{answer_to, delivery}
use Rattle.switchboard.specs.Data.{accepted_write, accepted_read, delivered_read, reply_told, bytes_told}
use Rattle.switchboard.specs.Board.{IsPendingAt}
use Rattle.switchboard.specs.Sound.{IsSound}
use Rattle.ipc_ids.specs.declared.message.PhoneState.TheVariants.{Free}
use Rattle.ipc_ids.specs.declared.numbers.Label.{Label}
use Rattle.switchboard.specs.Kept.{kept_phone, with_kept}
use Rattle.switchboard.proofs.SoundMemory.{memory_overwritten}
use Rattle.switchboard.proofs.SoundJoins.{plain_keeps, sound_finished, sound_finished_with, sound_gone}

-- the memory changes, and stays sound
with_sound_memory : (k : KernelState) (m : Memory) → IsOverwritten k.memory m → IsSound k → IsSound (with_memory k m)
with_sound_memory k m over s = record { calls = s.calls; tasks = s.tasks; kept = s.kept; keepers = s.keepers; memory = memory_overwritten over s.memory }

-- a DATA_WRITE is accepted by task t
pub sound_accepted_write : (k : KernelState) (c : Call) (reply : Reply) (t : TaskNo) (by : Option TaskNo) (u : TaskNo) → IsSound k → call_at k.calls c.number.0 ≡ Some c → kind_of c.request.method ≡ DataWrite → IsPendingAt c.place → c.caller ≡ Some u → IsSound (answer_to (accepted_write k c reply t) by u).state
sound_accepted_write k c reply t by u s live kind pending from =
    let step = write_accept k.memory t c.buffer reply in
    sound_finished (with_memory k step.memory) c (reply_told reply step.told) by u (with_sound_memory k step.memory (write_accept_keeps k.memory t c.buffer reply) s) live (rw kind tt) pending from

-- a DATA_READ is accepted by task t
pub sound_accepted_read : (k : KernelState) (c : Call) (reply : Reply) (t : TaskNo) (by : Option TaskNo) (u : TaskNo) → IsSound k → call_at k.calls c.number.0 ≡ Some c → kind_of c.request.method ≡ DataRead → IsPendingAt c.place → c.caller ≡ Some u → IsSound (answer_to (accepted_read k c reply t) by u).state
sound_accepted_read k c reply t by u s live kind pending from =
    let told = read_accept k.memory t c.request.args reply (used k.calls) in
    sound_finished_with k c (reply_told reply told) (bytes_told told c.buffer) by u s live (rw kind tt) pending from (told_room told refl)
  where
    told_room : (told : Result (List ℕ) Code) → read_accept k.memory t c.request.args reply (used k.calls) ≡ told → length (bytes_told told c.buffer) + used k.calls ≤ length c.buffer + most_buffered
    told_room (Ok bytes) is = let room = (read_length k.memory t c.request.args bytes reply (used k.calls) s.memory.spaces is).room in omega (arith, room)
    told_room (Err code) is = same_room k.calls c c most_buffered s.calls.bytes refl

-- the answer of a DATA_READ is delivered to task t
pub sound_delivered_read : (k : KernelState) (c : Call) (t : TaskNo) → IsSound k → call_at k.calls c.number.0 ≡ Some c → kind_of c.request.method ≡ DataRead → IsSound (delivery t (delivered_read k c t)).state
sound_delivered_read k c t s live kind =
    let m = (read_deliver k.memory t c.request.args c.buffer).memory in
    let over = with_sound_memory k m (read_deliver_keeps k.memory t c.request.args c.buffer) s in
    let none : kept_phone c ≡ None = plain_keeps (kind_of c.request.method) c.from.task c.place c.reply.code c.reserved (rw kind tt) in
    subst (λ (o : Option Label). IsSound (with_calls (with_kept (with_memory k m) o Free) (without_call k.calls c.number.0))) none (sound_gone (with_memory k m) c over live)
