-- A task is told just what comes of what it does with its memory.
use Rattle.std.proofs.Common.{◌≡◌, ℕ, true, List, Option, None, Some, Result, Ok, Err, refl, arith}
use Rattle.std.specs.Option.{option_to_list}
use Rattle.ipc_ids.specs.declared.numbers.Code.{Code}
use Rattle.ipc_ids.specs.declared.numbers.StoreNo.{StoreNo}
use Rattle.ipc_ids.specs.declared.numbers.TaskNo.{TaskNo}
use Rattle.address_space.specs.Memory.{IsAdded}
use Rattle.switchboard.specs.State.{KernelState, is_alive}
use Rattle.switchboard.specs.Sound.{IsSound}
use Rattle.switchboard.specs.Areas.{done_or_refused, bytes_or_refused, made_note, gone_note, wrote_note}
use Rattle.switchboard.proofs.SoundMemory.{from_one, mark_within}
use Rattle.kernel_laws.specs.MemoryRequests.{Tells, TellsBytes, made, gone, written}

pub tells : {A : Type 0} (told : Result A Code) → Tells told (done_or_refused told)
tells (Ok x) = refl
tells (Err code) = refl

pub tells_bytes : (told : Result (List ℕ) Code) → TellsBytes told (bytes_or_refused told)
tells_bytes (Ok bytes) = refl
tells_bytes (Err code) = refl

pub made_is : (t : TaskNo) (base pages rights : ℕ) (told : Result StoreNo Code) → made_note t base pages rights told ≡ made t base pages rights told
made_is t base pages rights (Ok store) = refl
made_is t base pages rights (Err code) = refl

pub gone_is : (t : TaskNo) (base : ℕ) (told : Result Unit Code) → gone_note t base told ≡ gone t base told
gone_is t base (Ok x) = refl
gone_is t base (Err code) = refl

pub written_is : (t : TaskNo) (at count : ℕ) (told : Result (Option StoreNo) Code) → option_to_list (wrote_note t at count told) ≡ written t at count told
written_is t at count (Ok (Some store)) = refl
written_is t at count (Ok None) = refl
written_is t at count (Err code) = refl

pub added : (k : KernelState) (t : TaskNo) → IsSound k → is_alive k t ≡ true → IsAdded k.memory t
added k t sound alive =
    let few = mark_within k.tasks.alive t.0 alive in
    let same = sound.memory.paired in
    record { from_one = from_one k.tasks.alive t alive; in_range = omega (arith, few, same) }
