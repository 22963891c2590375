use Rattle.std.proofs.Common.{◌∙◌, ap}
use Rattle.schedule_search.specs.Code.{code_behind}
use Rattle.schedule_search.specs.Problem.{search_of}
use Rattle.schedule_search.proofs.Paths.{can_try}
use Rattle.schedule_search.proofs.problem.SchedulesMaze.code.Goals as goal

pub visit_behind-visited-requires : goal.visit_behind-visited-requires
visit_behind-visited-requires c =
    record {
      can = can_try (search_of c.args.self.now.problem.now) c.args.path.now c.as_slice.result.now c.requires.fits.sound
          c.requires.moves c.requires.few (c.as_slice.ensures.value ∙ c.in_ok-events.ensures);
    }

pub returns : goal.returns
returns c =
    c.in_ok-visit.ensures.code
    ∙ ap (code_behind (search_of c.args.self.now.problem.now)) (c.as_slice.ensures.value ∙ c.in_ok-events.ensures)
