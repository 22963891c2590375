-- The making of a task from a template that is there.
use Rattle.std.proofs.Common.{◌≡◌, ℕ, zero, suc, ◌<◌, length, List, [], ◌∷◌, ◌++◌, Some, sym, ap, ◌∙◌, arith}
use Rattle.std.specs.Prelude.{slice_get, get_or}
use Rattle.ipc_ids.specs.declared.numbers.TaskNo.{TaskNo}
use Rattle.ipc_ids.specs.declared.entry.Entry.{Entry}
use Rattle.script_lines.specs.declared.plan.TaskPlan.{TaskPlan}
use Rattle.switchboard.specs.State.{KernelState}
use Rattle.kernel_core.specs.Kernel.{next_task, spawn_event}
use Rattle.task_system.specs.declared.any.AnyProgram.{AnyProgram}
use Rattle.task_system.specs.Any.{taken, TookFew}
use Rattle.task_system.specs.Run.{RunState, RunTransition, program_of, spawned, spawn_by, spawn}

pub took_push : (n : ℕ) (ps : List AnyProgram) (p : AnyProgram) → taken p ≡ 0 → TookFew n ps → TookFew n (ps ++ p ∷ [])
took_push n [] p none few = (omega (arith, none), tt)
took_push n (q ∷ ps) p none few = (few.0, took_push n ps p none few.1)

module _ (before now : RunState) (place : ℕ) (plan : TaskPlan) (same : before ≡ now) (found : slice_get before.templates place ≡ Some plan) where
  spawns : spawn now place ≡ spawned before plan (spawn_event before.kernel plan.limit before.names)
  spawns = ap (λ (r : RunState). spawn r place) (sym same) ∙ ap (spawn_by before) found

  pub made_state : (k : KernelState) (ps : List AnyProgram) (t : TaskNo) → k ≡ (spawn_event before.kernel plan.limit before.names).state → t ≡ next_task before.kernel → ps ≡ before.programs ++ program_of t.0 plan ∷ []
      → record { kernel = k; programs = ps; templates = before.templates; names = before.names } ≡ (spawn now place).state
  made_state k ps t kernel number programs = rw (kernel, programs, number) (sym (ap (λ (n : RunTransition). n.state) spawns))

  pub made_entries : (es : List Entry) → es ≡ (spawn_event before.kernel plan.limit before.names).entries → es ≡ (spawn now place).entries
  made_entries es is = is ∙ sym (ap (λ (n : RunTransition). n.entries) spawns)

-- what is looked up within a list is there
pub get_some : {A : Type 0} (xs : List A) (i : ℕ) (x : A) → i < length xs → x ≡ get_or xs i x → slice_get xs i ≡ Some x
get_some [] i x lt is = absurd (omega (arith, lt))
get_some (y ∷ xs) zero x lt is = ap Some (sym is)
get_some (y ∷ xs) (suc i) x lt is = get_some xs i x (omega (arith, lt)) is
