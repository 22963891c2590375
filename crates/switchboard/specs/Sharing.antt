-- What the share methods do to a call and to the memory, as they are accepted.
use Rattle.std.specs.Prelude.{ℕ, List, Option, None, Some, Result, Ok, Err}
use Rattle.ipc_ids.specs.declared.numbers.TaskNo.{TaskNo}
use Rattle.ipc_ids.specs.declared.numbers.StoreNo.{StoreNo}
use Rattle.ipc_ids.specs.declared.numbers.Code.{Code}
use Rattle.ipc_ids.specs.declared.message.Reply.{Reply}
use Rattle.ipc_ids.specs.declared.entry.Entry.{Entry}
use Rattle.ipc_ids.specs.declared.entry.Entry.TheVariants.{AreaMade}
use Rattle.ipc_ids.specs.declared.methods.MethodKind.{MethodKind}
use Rattle.ipc_ids.specs.declared.methods.MethodKind.TheVariants.{ShareOut, ShareIn}
use Rattle.call_slab.specs.declared.call.Call.{Call}
use Rattle.address_space.specs.Memory.{Memory, Step}
use Rattle.share_hooks.specs.ShareMoments.{base_of, pages_of, rights_of, out_accept, in_accept}
use Rattle.switchboard.specs.declared.sharing.Share.{Share}
use Rattle.switchboard.specs.declared.sharing.Share.TheVariants.{Out, In}
use Rattle.switchboard.specs.State.{KernelState, with_memory}
use Rattle.switchboard.specs.Serving.{Handed}
use Rattle.switchboard.specs.Data.{reply_told}

-- the entry of an area that a task got over a store that was there
abbrev pub shared_note : TaskNo → ℕ → ℕ → ℕ → Result StoreNo Code → Option Entry
shared_note t base pages rights (Ok store) = Some (AreaMade t base pages rights store)
shared_note t base pages rights (Err code) = None

-- a task got an area at an accepting answer: the answer has the code of the share; the call names pages and rights
abbrev pub shared_at_answer : KernelState → Call → Reply → TaskNo → ℕ → Step StoreNo → Handed
shared_at_answer k c reply to base step =
    record {
      state = with_memory k step.memory;
      call = record c { reply = reply_told reply step.told };
      note = shared_note to base (pages_of c.request.args) (rights_of c.request.args) step.told;
    }

-- the kind of a call that shares in this way
abbrev pub kind_of_share : Share → MethodKind
kind_of_share Out = ShareOut
kind_of_share In = ShareIn

-- who gets an area as task t answers the caller
abbrev pub taker_of : Share → TaskNo → TaskNo → TaskNo
taker_of Out t caller = t
taker_of In t caller = caller

-- where it begins: the reply says so, or the call asked so
abbrev pub base_for : Share → List ℕ → List ℕ → ℕ
base_for Out asked args = base_of args
base_for In asked args = base_of asked

-- what the share does to the memory
abbrev pub share_step : Share → Memory → TaskNo → TaskNo → List ℕ → Reply → Step StoreNo
share_step Out m caller t args reply = out_accept m caller t args reply
share_step In m caller t args reply = in_accept m caller t args reply

-- task t accepts a share call: one of the two gets an area over the store of an area of the other
abbrev pub accepted_share : Share → KernelState → Call → Reply → TaskNo → TaskNo → Handed
accepted_share way k c reply t caller =
    shared_at_answer k c reply (taker_of way t caller) (base_for way c.request.args reply.args) (share_step way k.memory caller t c.request.args reply)
