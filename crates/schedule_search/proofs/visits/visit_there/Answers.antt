use Rattle.std.proofs.Common.{arith}
use Rattle.schedule_search.specs.Problem.{search_of}
use Rattle.schedule_search.proofs.Following.{can_none}
use Rattle.schedule_search.proofs.visits.visit_there.Goals as goal

pub lead-requires-clause-can : goal.lead-requires-clause-can
lead-requires-clause-can c = can_none (search_of c.args.problem.now) c.args.events.now c.requires.can

pub goals_left-requires-clause-here : goal.goals_left-requires-clause-here
goals_left-requires-clause-here c = c.in_ok-lead.ensures.state

pub goals_left-requires-clause-few : goal.goals_left-requires-clause-few
goals_left-requires-clause-few c = omega (arith, c.in_ok-lead.ensures.count)

pub is_found-requires-clause-here : goal.is_found-requires-clause-here
is_found-requires-clause-here c = c.in_ok-left.ensures.state

pub is_found-requires-clause-left : goal.is_found-requires-clause-left
is_found-requires-clause-left c = c.in_ok-left.ensures.left

pub is_found-requires-clause-entries : goal.is_found-requires-clause-entries
is_found-requires-clause-entries c = c.in_ok-left.ensures.entries

pub code_there-requires-clause-tried : goal.code_there-requires-clause-tried
code_there-requires-clause-tried c = c.requires.can.tried

pub code_there-requires-clause-here : goal.code_there-requires-clause-here
code_there-requires-clause-here c = c.in_ok-left.ensures.state

pub code_there-requires-clause-left : goal.code_there-requires-clause-left
code_there-requires-clause-left c = c.in_ok-left.ensures.left

pub returns-clause-met : goal.returns-clause-met
returns-clause-met c = c.in_ok-met.ensures.met

pub returns-clause-unmet : goal.returns-clause-unmet
returns-clause-unmet c = c.in_ok-met.ensures.unmet

pub returns-clause-code : goal.returns-clause-code
returns-clause-code c = c.in_ok-code.ensures
