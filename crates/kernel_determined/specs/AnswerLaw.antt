-- All that an answer does: who holds the call, whether it is accepted, and what its method then does to phones, bytes
-- and areas. What is done to memory is said in `MemoryLaws` and `DataLaws` of the crate below.
use Rattle.std.specs.Prelude.{◌≡◌, ℕ, ◌<◌, ◌≤◌, ◌⊎◌, List, [], ◌∷◌, true, length, Option, None, Some, Result, Ok, Err}
use Rattle.ipc_ids.specs.declared.numbers.Code.{Code}
use Rattle.ipc_ids.specs.declared.numbers.Label.{Label}
use Rattle.ipc_ids.specs.declared.numbers.StoreNo.{StoreNo}
use Rattle.ipc_ids.specs.declared.numbers.TaskNo.{TaskNo}
use Rattle.ipc_ids.specs.declared.message.Reply.{Reply}
use Rattle.ipc_ids.specs.declared.message.PhoneState.TheVariants.{Connected}
use Rattle.ipc_ids.specs.declared.message.Outcome.TheVariants as outcome
use Rattle.ipc_ids.specs.declared.entry.Entry.{Entry}
use Rattle.ipc_ids.specs.declared.entry.Entry.TheVariants as entry
use Rattle.ipc_ids.specs.Codes.{eok, elimit}
use Rattle.ipc_ids.specs.Methods.{connect_to_me, connect_me_to, data_write, data_read, share_out, share_in}
use Rattle.call_slab.specs.declared.call.Call.{Call}
use Rattle.call_slab.specs.declared.call.Place.TheVariants.{Answers}
use Rattle.address_space.specs.Memory.{Memory, Step}
use Rattle.switchboard.specs.State.{KernelState, is_alive}
use Rattle.switchboard.specs.Serving.{Served}
use Rattle.kernel_laws.specs.DataLaws.{code_after, first, second, third, AreFirst, IsLawfulTaking}
use Rattle.kernel_laws.specs.MemoryLaws.{IsLawfulShare}
use Rattle.kernel_laws.specs.MemoryRequests.{made, written}
use Rattle.kernel_laws.specs.HeldCalls.{IsHeld}
use Rattle.kernel_laws.specs.PoolLaws.{pool}
use Rattle.kernel_determined.specs.Frames.{IsOneEvent, PhonesStay, PhoneComesTo, Moves, IsQuietEvent}
use Rattle.kernel_determined.specs.ForwardLaw.{IsNotHeld}
use Rattle.kernel_determined.specs.MemoryLaw.{IsWholeWrite}
use Rattle.kernel_determined.specs.SettleLaw.{IsWanted, IsEnded, IsSettled}

-- ---- what is done to memory

-- of the bytes that a DATA_WRITE brought the first are written that the reply names, and no more than there are
pub record IsWholePlacing (m : Memory) (answerer : TaskNo) (brought : List ℕ) (reply : Reply)
    (done : Step (Option StoreNo)) : Type 0 where
  pub more : length brought < second reply.args → (done.told ≡ Err elimit) × (done.memory ≡ m)
  pub placed : second reply.args ≤ length brought →
      (new : List ℕ) × AreFirst new (second reply.args) brought × IsWholeWrite m answerer (first reply.args) new done

-- an area is shared as the laws of memory have it: no store is new, and there are as many tasks with areas
pub record IsWholeShare (m : Memory) (from : TaskNo) (base : ℕ) (to : TaskNo) (target pages rights : ℕ)
    (done : Step StoreNo) : Type 0 where
  pub lawful : IsLawfulShare m from base to target pages rights done
  pub next : done.memory.next_store ≡ m.next_store
  pub spaces : length done.memory.areas ≡ length m.areas

-- the bytes that a call carries after some were taken for it, or none could be
abbrev pub bytes_after : Result (List ℕ) Code → List ℕ → List ℕ
bytes_after (Ok bytes) carried = bytes
bytes_after (Err code) carried = carried

-- ---- an answer that accepts

-- call c with number n goes with this code, the arguments of the reply and these bytes to the answers of task u, behind
-- all that came before; the memory is this one, and the entry is followed by these
pub record Reaches (t : TaskNo) (n : ℕ) (reply : Reply) (c : Call) (u : TaskNo) (code : Code) (bytes : List ℕ)
    (memory : Memory) (note : List Entry) (before : KernelState) (done : Served) : Type 0 where
  pub told : done.outcome ≡ outcome.Done
  pub event : IsOneEvent before done.state
  pub calls : Moves before.calls done.state.calls n (record c {
    reply = record { code = code; args = reply.args };
    buffer = bytes;
    place = Answers u;
    stamp = before.calls.next_stamp;
  })
  pub memory_after : done.state.memory ≡ memory
  pub entries : done.entries ≡ entry.Answered c.number (record { code = code; args = reply.args }) (Some t) ∷ note

-- the phone that was kept for a connect call leads to this task from then on
pub record ConnectsTo (to t : TaskNo) (n : ℕ) (reply : Reply) (c : Call) (u : TaskNo) (before : KernelState)
    (done : Served) : Type 0 where
  pub phone : Label
  pub kept : c.reserved ≡ Some phone
  pub leads : PhoneComesTo phone.task phone.phone.0 (Connected to) before done.state
  pub reaches : Reaches t n reply c u eok c.buffer before.memory (entry.PhoneIs phone (Connected to) ∷ []) before done

-- no phone was kept for a CONNECT_TO_ME, and its code says so
pub record ConnectsNothing (t : TaskNo) (n : ℕ) (reply : Reply) (c : Call) (u : TaskNo) (before : KernelState)
    (done : Served) : Type 0 where
  pub none : c.reserved ≡ None
  pub phones : PhonesStay before done.state
  pub reaches : Reaches t n reply c u elimit c.buffer before.memory [] before done

-- the bytes of a DATA_WRITE are written where the reply says, or its code tells why not
pub record WritesBytes (t : TaskNo) (n : ℕ) (reply : Reply) (c : Call) (u : TaskNo) (before : KernelState)
    (done : Served) : Type 0 where
  pub step : Step (Option StoreNo)
  pub placing : IsWholePlacing before.memory t c.buffer reply step
  pub phones : PhonesStay before done.state
  pub reaches : Reaches t n reply c u (code_after step.told) c.buffer step.memory
      (written t (first reply.args) (second reply.args) step.told) before done

-- a DATA_READ takes the bytes with it that the reply names, or its code tells why not
pub record TakesBytes (t : TaskNo) (n : ℕ) (reply : Reply) (c : Call) (u : TaskNo) (before : KernelState)
    (done : Served) : Type 0 where
  pub told : Result (List ℕ) Code
  pub taking : IsLawfulTaking before.memory t c.request.args reply (pool before) told
  pub phones : PhonesStay before done.state
  pub reaches : Reaches t n reply c u (code_after told) (bytes_after told c.buffer) before.memory [] before done

-- one task gets an area over the store of an area of another, or the code tells why not
pub record SharesArea (from : TaskNo) (base : ℕ) (to : TaskNo) (target : ℕ) (t : TaskNo) (n : ℕ) (reply : Reply)
    (c : Call) (u : TaskNo) (before : KernelState) (done : Served) : Type 0 where
  pub step : Step StoreNo
  pub share : IsWholeShare before.memory from base to target (second c.request.args) (third c.request.args) step
  pub phones : PhonesStay before done.state
  pub reaches : Reaches t n reply c u (code_after step.told) c.buffer step.memory
      (made to target (second c.request.args) (third c.request.args) step.told) before done

-- the method neither connects, nor moves bytes, nor shares an area
pub record IsPlain (method : ℕ) : Type 0 where
  pub to_me : method ≡ connect_to_me → ⊥
  pub me_to : method ≡ connect_me_to → ⊥
  pub write : method ≡ data_write → ⊥
  pub read : method ≡ data_read → ⊥
  pub out : method ≡ share_out → ⊥
  pub inward : method ≡ share_in → ⊥

-- the answer is given on as it is
pub record AnswersPlainly (t : TaskNo) (n : ℕ) (reply : Reply) (c : Call) (u : TaskNo) (before : KernelState)
    (done : Served) : Type 0 where
  pub phones : PhonesStay before done.state
  pub reaches : Reaches t n reply c u eok c.buffer before.memory [] before done

-- task t accepts call n of task u
pub record Accepts (t : TaskNo) (n : ℕ) (reply : Reply) (c : Call) (u : TaskNo) (before : KernelState)
    (done : Served) : Type 0 where
  -- the phone that t kept for a CONNECT_TO_ME leads to u, and the one that u kept for a CONNECT_ME_TO leads to t
  pub to_me : c.request.method ≡ connect_to_me →
      ConnectsTo u t n reply c u before done ⊎ ConnectsNothing t n reply c u before done
  pub me_to : c.request.method ≡ connect_me_to → ConnectsTo t t n reply c u before done
  pub write : c.request.method ≡ data_write → WritesBytes t n reply c u before done
  pub read : c.request.method ≡ data_read → TakesBytes t n reply c u before done
  -- of a SHARE_OUT t gets an area over the store of one of u, and of a SHARE_IN u one over the store of one of t
  pub out : c.request.method ≡ share_out →
      SharesArea u (first c.request.args) t (first reply.args) t n reply c u before done
  pub inward : c.request.method ≡ share_in →
      SharesArea t (first reply.args) u (first c.request.args) t n reply c u before done
  pub others : IsPlain c.request.method → AnswersPlainly t n reply c u before done

-- ---- an answer

-- a code other than EOK is given on as it is
pub record AnswersDeclining (t : TaskNo) (n : ℕ) (reply : Reply) (c : Call) (before : KernelState)
    (done : Served) : Type 0 where
  pub declines : reply.code ≡ eok → ⊥
  pub quiet : IsQuietEvent outcome.Done before done
  pub settled : IsSettled n c reply (Some t) before done.state done.entries

-- nobody waits for the answer, and the call is over
pub record AnswersNobody (n : ℕ) (reply : Reply) (c : Call) (before : KernelState) (done : Served) : Type 0 where
  pub accepts : reply.code ≡ eok
  pub unwanted : IsWanted before c → ⊥
  pub quiet : IsQuietEvent outcome.Done before done
  pub ended : IsEnded n c before done.state done.entries

-- EOK accepts the call
pub record AnswersAccepting (t : TaskNo) (n : ℕ) (reply : Reply) (c : Call) (before : KernelState)
    (done : Served) : Type 0 where
  pub accepts : reply.code ≡ eok
  pub to : TaskNo
  pub caller : c.caller ≡ Some to
  pub lives : is_alive before to ≡ true
  pub accepted : Accepts t n reply c to before done

-- task t answers call n, which it holds
pub record AnswersCall (t : TaskNo) (n : ℕ) (reply : Reply) (before : KernelState) (done : Served) : Type 0 where
  pub call : Call
  pub held : IsHeld t before n call
  pub answers : AnswersDeclining t n reply call before done
      ⊎ (AnswersNobody n reply call before done ⊎ AnswersAccepting t n reply call before done)

-- what an answer by task t to call n comes to
abbrev pub IsAnswer : TaskNo → ℕ → Reply → KernelState → Served → Type 0
IsAnswer t n reply before done = IsNotHeld t n before done ⊎ AnswersCall t n reply before done
