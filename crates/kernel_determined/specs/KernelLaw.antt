-- The laws of the kernel: of each request, of a kill and of a spawn all that it does. They are said of any machine.
use Rattle.std.specs.Prelude.{◌≡◌, ℕ, ◌≤◌, true, Option}
use Rattle.ipc_ids.specs.declared.numbers.TaskNo.{TaskNo}
use Rattle.ipc_ids.specs.declared.message.Request.{Request}
use Rattle.ipc_ids.specs.declared.message.Request.TheVariants as request
use Rattle.switchboard.specs.State.{KernelState, Transition, phone_at, is_alive}
use Rattle.switchboard.specs.Sound.{IsSound}
use Rattle.switchboard.specs.Serving.{Served}
use Rattle.kernel_core.specs.Kernel.{serve, kill_event, spawn_event}
use Rattle.kernel_determined.specs.HangupLaw.{IsNothing, IsHangup}
use Rattle.kernel_determined.specs.ReceiveLaw.{IsReceive}
use Rattle.kernel_determined.specs.ForwardLaw.{IsForward}
use Rattle.kernel_determined.specs.CallLaw.{IsCall}
use Rattle.kernel_determined.specs.AnswerLaw.{IsAnswer}
use Rattle.kernel_determined.specs.MemoryLaw.{IsPoke, IsPeek, IsAreaMake, IsAreaDrop}
use Rattle.kernel_determined.specs.SpawnLaw.{IsSpawn}
use Rattle.kernel_determined.specs.KillLaw.{IsKill}

-- the state is sound, and the task has not ended
pub record MayAct (k : KernelState) (t : TaskNo) : Type 0 where
  pub sound : IsSound k
  pub alive : is_alive k t ≡ true

-- all that a request of task t does
abbrev pub IsServed : KernelState → TaskNo → Request → Served → Type 0
IsServed k t (request.Call p msg) done = IsCall t p msg k done
IsServed k t request.Receive done = IsReceive t k done
IsServed k t (request.Answer n reply) done = IsAnswer t n reply k done
IsServed k t (request.Forward n p mode change) done = IsForward t n p mode change k done
IsServed k t (request.Hangup p) done = IsHangup (phone_at k t p) t p k done
IsServed k t (request.AreaMake base pages rights) done = IsAreaMake t base pages rights k done
IsServed k t (request.AreaDrop base) done = IsAreaDrop t base k done
IsServed k t (request.Poke at bytes) done = IsPoke t at bytes k done
IsServed k t (request.Peek at count) done = IsPeek t at count k done
IsServed k t request.Nothing done = IsNothing k done

-- A machine keeps the laws of the kernel: on every sound state it does with a request of a task that is alive, with a
-- kill of one, and with a spawn of a task with one phone or more, all that is said of it.
pub record IsKernel (serves : KernelState → TaskNo → Request → Served) (kills : KernelState → TaskNo → Transition)
    (spawns : KernelState → ℕ → Option TaskNo → Transition) : Type 0 where
  pub requests : (k : KernelState) (t : TaskNo) (asked : Request) → MayAct k t →
      IsServed k t asked (serves k t asked)
  pub killed : (k : KernelState) (t : TaskNo) → MayAct k t → IsKill t k (kills k t)
  pub spawned : (k : KernelState) (limit : ℕ) (names : Option TaskNo) → IsSound k → 1 ≤ limit →
      IsSpawn limit names k (spawns k limit names)

-- a machine does there just what the definitions say, in state, outcome and entries
pub record IsTheKernel (serves : KernelState → TaskNo → Request → Served) (kills : KernelState → TaskNo → Transition)
    (spawns : KernelState → ℕ → Option TaskNo → Transition) : Type 0 where
  pub requests : (k : KernelState) (t : TaskNo) (asked : Request) → MayAct k t →
      serves k t asked ≡ serve k t asked
  pub killed : (k : KernelState) (t : TaskNo) → MayAct k t → kills k t ≡ kill_event k t
  pub spawned : (k : KernelState) (limit : ℕ) (names : Option TaskNo) → IsSound k → 1 ≤ limit →
      spawns k limit names ≡ spawn_event k limit names
