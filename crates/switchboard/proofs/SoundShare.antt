-- A sound state stays sound as a share method is accepted.
use Rattle.std.proofs.Common.{◌≡◌, true, Option, Some}
use Rattle.ipc_ids.specs.declared.numbers.TaskNo.{TaskNo}
use Rattle.ipc_ids.specs.declared.message.Reply.{Reply}
use Rattle.ipc_ids.specs.Methods.{kind_of}
use Rattle.call_slab.specs.declared.call.Call.{Call}
use Rattle.answerbox.specs.Calls.{call_at}
use Rattle.address_space.specs.Memory.{Memory}
use Rattle.share_hooks.specs.ShareMoments.{out_accept, in_accept}
use Rattle.share_hooks.proofs.Keeping.{KeepsOthers, out_accept_keeps, in_accept_keeps}
use Rattle.switchboard.specs.State.{KernelState, is_alive, with_memory}
use Rattle.switchboard.specs.Joins.{answer_to}
use Rattle.switchboard.specs.Data.{reply_told}
use Rattle.switchboard.specs.declared.sharing.Share.{Share}
use Rattle.switchboard.specs.declared.sharing.Share.TheVariants.{Out, In}
use Rattle.switchboard.specs.Sharing.{accepted_share, kind_of_share}
use Rattle.switchboard.specs.Board.{IsPendingAt}
use Rattle.switchboard.specs.Sound.{IsSound}
use Rattle.switchboard.proofs.SoundMemory.{memory_shared}
use Rattle.switchboard.proofs.SoundJoins.{caller_alive, sound_finished}

-- a task that is alive gets an area
with_shared_memory : (k : KernelState) (m : Memory) (t : TaskNo) → is_alive k t ≡ true → KeepsOthers t k.memory m → IsSound k → IsSound (with_memory k m)
with_shared_memory k m t alive shared s = record { calls = s.calls; tasks = s.tasks; kept = s.kept; keepers = s.keepers; memory = memory_shared t alive shared s.memory }

-- a share call is accepted by task t
pub sound_accepted_share : (way : Share) (k : KernelState) (c : Call) (reply : Reply) (t : TaskNo) (by : Option TaskNo) (u : TaskNo) → IsSound k → call_at k.calls c.number.0 ≡ Some c → kind_of c.request.method ≡ kind_of_share way → IsPendingAt c.place → is_alive k t ≡ true → c.caller ≡ Some u → IsSound (answer_to (accepted_share way k c reply t u) by u).state
sound_accepted_share Out k c reply t by u s live kind pending alive from =
    let step = out_accept k.memory u t c.request.args reply in
    sound_finished (with_memory k step.memory) c (reply_told reply step.told) by u (with_shared_memory k step.memory t alive (out_accept_keeps k.memory u t c.request.args reply) s) live (rw kind tt) pending from
sound_accepted_share In k c reply t by u s live kind pending alive from =
    let step = in_accept k.memory u t c.request.args reply in
    let caller = (caller_alive k.tasks c.from c.caller u from (s.calls.each c.number.0 c live).caller).1 in
    sound_finished (with_memory k step.memory) c (reply_told reply step.told) by u (with_shared_memory k step.memory u caller (in_accept_keeps k.memory u t c.request.args reply) s) live (rw kind tt) pending from
