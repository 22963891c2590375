use Rattle.std.proofs.Common.{◌∙◌, arith}
use Rattle.schedule_search.specs.Search.{state_behind}
use Rattle.schedule_search.specs.Problem.{search_of}
use Rattle.schedule_search.proofs.Visiting.{step_compared}
use Rattle.schedule_search.proofs.rest.step_changes_nothing.Goals as goal

pub do_events-requires-clause-few : goal.do_events-requires-clause-few
do_events-requires-clause-few c = omega (arith, c.requires.can.few, c.in_ok-lead.ensures.count)

pub returns : goal.returns
returns c =
    step_compared (state_behind (search_of c.args.problem.now) c.args.events.now) c.lead.new.replay.state
    c.do_events.new.replay.state c.args.task c.as_slice.result.now c.args.words.now c.eq.result c.in_ok-lead.ensures.state
    c.in_ok-do_events.ensures.state (c.as_slice.ensures.value ∙ c.in_ok-after.ensures) c.requires.here c.eq.ensures
