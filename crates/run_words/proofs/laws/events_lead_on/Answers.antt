use Rattle.run_words.proofs.Reaching as reaching
use Rattle.run_words.proofs.laws.events_lead_on.Goals as goal

pub returns-clause-begins : goal.returns-clause-begins
returns-clause-begins c = reaching.begins

pub returns-clause-goes_on : goal.returns-clause-goes_on
returns-clause-goes_on c = reaching.goes_on

pub returns-clause-tasks : goal.returns-clause-tasks
returns-clause-tasks c = reaching.reached_tasks

pub returns-clause-templates : goal.returns-clause-templates
returns-clause-templates c = reaching.reached_templates
