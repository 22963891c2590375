use Rattle.std.proofs.Common.{◌≡◌, ◌∙◌, List, subst}
use Rattle.std.specs.Prelude.{IfOk}
use Rattle.ipc_ids.specs.declared.message.Event.{Event}
use Rattle.search_core.specs.Survey.{words_in}
use Rattle.schedule_search.specs.Code.{rest_words}
use Rattle.schedule_search.specs.Problem.{search_of}
use Rattle.schedule_search.proofs.Paths.{can_try}
use Rattle.schedule_search.proofs.problem.SchedulesLabelled.label.Goals as goal

pub rest_words-requires : goal.rest_words-requires
rest_words-requires c =
    record {
      can = can_try (search_of c.args.self.now.problem.now) c.args.path.now c.as_slice.result.now c.requires.fits.sound c.requires.moves c.requires.few
          (c.as_slice.ensures.value ∙ c.in_ok-events.ensures);
    }

pub returns : goal.returns
returns c =
    subst (λ (z : List Event). IfOk c.rest_words.result (λ o. words_in o ≡ rest_words (search_of c.args.self.now.problem.now) z))
    (c.as_slice.ensures.value ∙ c.in_ok-events.ensures) c.rest_words.ensures
