use Rattle.hipc_search.proofs.survey.asks_answer.Goals as goal

pub survey_answer-requires-clause-may : goal.survey_answer-requires-clause-may
survey_answer-requires-clause-may c = (c.args.names.now, c.requires.may)
