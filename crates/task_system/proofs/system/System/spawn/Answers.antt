use Rattle.std.proofs.Common.{◌≡◌, List, [], ◌∷◌, Some, ap, refl, sym, arith, ◌∙◌, ◌++◌, subst}
use Rattle.std.specs.Prelude.{slice_get}
use Rattle.script_lines.specs.declared.plan.TaskPlan.{TaskPlan}
use Rattle.task_system.specs.declared.any.AnyProgram.{AnyProgram}
use Rattle.task_system.specs.Any.{TookFew}
use Rattle.task_system.specs.Run.{RunState, program_of}
use Rattle.task_system.proofs.Taking.{took_more, none_taken}
use Rattle.task_system.proofs.Spawning.{took_push, made_state, made_entries, get_some}
use Rattle.task_system.proofs.system.System.spawn.Goals as goal
use Rattle.task_system.proofs.system.System.spawn.Goals.{In_ok-add_made}

module _ (c : In_ok-add_made) where
  abbrev before : RunState
  before = record { kernel = c.self.inside.kernel; programs = c.self.inside.programs.items; templates = c.self.inside.templates; names = c.self.inside.names }

  abbrev made : AnyProgram
  made = program_of c.next_task.result.0 c.in-Some.plan.now

  programs : c.add_made.new.programs.items ≡ before.programs ++ made ∷ []
  programs =
      c.in_ok-add_made.ensures.programs
      ∙ ap (λ (ps : List AnyProgram). ps ++ c.in_ok-program.program ∷ []) c.make_room.ensures.items
      ∙ ap (λ (p : AnyProgram). before.programs ++ p ∷ []) c.in_ok-program.ensures

  found : slice_get before.templates c.args.place ≡ Some c.in-Some.plan.now
  found = subst (λ (ts : List TaskPlan). slice_get ts c.args.place ≡ Some c.in-Some.plan.now) c.as_slice.ensures (get_some c.as_slice.result.now c.args.place c.in-Some.plan.now c.in-Some.ensures.lookup.3.0 c.in-Some.ensures.lookup.1)

pub invariant_of-self-2 : goal.invariant_of-self-2
invariant_of-self-2 c = (
  subst (λ (ps : List AnyProgram). TookFew c.add_made.new.kernel.events ps) (sym (programs c))
      (took_push c.add_made.new.kernel.events c.self.inside.programs.items (made c) (none_taken (record { 0 = c.next_task.result.0 }) c.in-Some.plan.now c.in-Some.plan.now.kind)
      (took_more c.self.inside.kernel.events c.add_made.new.kernel.events c.self.inside.programs.items (omega (arith, c.in_ok-add_made.ensures.events)) c.self.invariant.0)),
  c.self.invariant.1,
)

pub returns-clause-state : goal.returns-clause-state
returns-clause-state c =
    made_state (before c) c.args.self.now c.args.place c.in-Some.plan.now c.self.view_is (found c) c.add_made.new.kernel c.add_made.new.programs.items c.next_task.result c.in_ok-add_made.ensures.kernel c.next_task.ensures (programs c)

pub returns-clause-entries : goal.returns-clause-entries
returns-clause-entries c =
    c.in_ok-add_made.ensures.entries ∙ ap (λ es. c.args.out.now.entries ++ es) (made_entries (before c) c.args.self.now c.args.place c.in-Some.plan.now c.self.view_is (found c) _ refl)

pub invariant_of-self-in_err-add_made : goal.invariant_of-self-in_err-add_made
invariant_of-self-in_err-add_made c = (rw (c.in_err-add_made.ensures.no_program, c.make_room.ensures.items, c.in_err-add_made.ensures.no_task) c.self.invariant.0, c.self.invariant.1)
