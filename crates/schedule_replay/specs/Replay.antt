-- A replay: a run so far, and whether memory was wanting in one of its events.
use Rattle.std.specs.Prelude.{Bool, List, Option, refl}
use Rattle.std.specs.Coded.{Coded, code_by, coded×, coded_bool}
use Rattle.ipc_ids.specs.declared.numbers.TaskNo.{TaskNo}
use Rattle.script_lines.specs.declared.plan.TaskPlan.{TaskPlan}
use Rattle.switchboard.specs.State.{KernelState}
use Rattle.task_system.specs.declared.any.AnyProgram.{AnyProgram}
use Rattle.task_system.specs.Run.{RunState, run_code}

pub record ReplayState : Type 0 where
  pub state : RunState
  -- whether memory was wanting
  pub lost : Bool

-- how replays are told apart, by codes of their parts
abbrev pub replay_code : Coded KernelState → Coded AnyProgram → Coded (List TaskPlan) → Coded (Option TaskNo) → Coded ReplayState
replay_code k program plans task =
    code_by
    (RunState × Bool)
    (coded× (run_code k program plans task) coded_bool)
    (λ now. (now.state, now.lost))
    (λ parts. record { state = parts.0; lost = parts.1 })
    (λ _. refl)
