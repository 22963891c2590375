use Rattle.schedule_search.proofs.Visiting.{if_ok_on}
use Rattle.hipc_search.proofs.survey.survey_answer.Goals as goal

pub survey_schedules-requires-clause-sound : goal.survey_schedules-requires-clause-sound
survey_schedules-requires-clause-sound c = c.requires.may.1.sound

pub returns : goal.returns
returns c =
    if_ok_on _ _ c.resting_answer.result
    (λ answer due. (c.in_ok-resting.resting, c.in_ok-resting.ensures, due))
    c.resting_answer.ensures
