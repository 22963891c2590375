use Rattle.std.proofs.Common.{◌≡◌, ◌∙◌, List, true, false, Some, subst}
use Rattle.std.specs.Prelude.{IfOk}
use Rattle.ipc_ids.specs.declared.message.Event.{Event}
use Rattle.schedule_search.specs.Meeting.{Finds}
use Rattle.schedule_search.specs.Code.{code_behind}
use Rattle.schedule_search.specs.Problem.{search_of}
use Rattle.schedule_search.proofs.Paths.{can_try}
use Rattle.schedule_search.proofs.problem.SchedulesMaze.visit.Goals as goal

pub visit_behind-requires : goal.visit_behind-requires
visit_behind-requires c =
    record {
      can = can_try (search_of c.args.self.now.problem.now) c.args.path.now c.as_slice.result.now c.requires.fits.sound
          c.requires.moves c.requires.few (c.as_slice.ensures.value ∙ c.in_ok-events.ensures);
    }

pub returns-clause-met : goal.returns-clause-met
returns-clause-met c =
    subst
    (λ (z : List Event). IfOk c.visit_behind.result
    (λ visit. visit.met ≡ Some true → Finds (search_of c.args.self.now.problem.now) z))
    (c.as_slice.ensures.value ∙ c.in_ok-events.ensures) c.visit_behind.ensures.met

pub returns-clause-unmet : goal.returns-clause-unmet
returns-clause-unmet c =
    subst
    (λ (z : List Event). IfOk c.visit_behind.result
    (λ visit. visit.met ≡ Some false → Finds (search_of c.args.self.now.problem.now) z → ⊥))
    (c.as_slice.ensures.value ∙ c.in_ok-events.ensures) c.visit_behind.ensures.unmet

pub returns-clause-code : goal.returns-clause-code
returns-clause-code c =
    subst
    (λ (z : List Event). IfOk c.visit_behind.result
    (λ visit. visit.code.items ≡ code_behind (search_of c.args.self.now.problem.now) z))
    (c.as_slice.ensures.value ∙ c.in_ok-events.ensures) c.visit_behind.ensures.code
