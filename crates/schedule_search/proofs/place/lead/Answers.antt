use Rattle.std.proofs.Common.{◌∙◌, ap, arith}
use Rattle.task_system.specs.Run.{RunState, state_after}
use Rattle.schedule_search.specs.Problem.{search_of}
use Rattle.schedule_search.proofs.Behind.{first_may, moves_may}
use Rattle.schedule_search.proofs.place.lead.Goals as goal

pub do_events-requires-clause-few : goal.do_events-requires-clause-few
do_events-requires-clause-few c = omega (arith, c.requires.can.sound.few, c.requires.at_start.none)

pub do_events-requires-clause-may : goal.do_events-requires-clause-may
do_events-requires-clause-may c =
    first_may (search_of c.args.problem.now) c.requires.can.sound c.args.replay.now.state c.requires.at_start.state

pub do_events-requires-2-clause-few : goal.do_events-requires-2-clause-few
do_events-requires-2-clause-few c =
    omega
    (arith, c.requires.can.few, c.requires.can.sound.few, c.requires.at_start.none, c.in_ok-do_events.ensures.count)

pub do_events-requires-2-clause-may : goal.do_events-requires-2-clause-may
do_events-requires-2-clause-may c =
    moves_may (search_of c.args.problem.now) c.requires.can.sound c.do_events.new.replay.state c.args.events.now
    (c.in_ok-do_events.ensures.state
    ∙ ap (λ (z : RunState). state_after z c.args.problem.now.from.now) c.requires.at_start.state) c.requires.can.tried

pub returns-clause-state : goal.returns-clause-state
returns-clause-state c =
    c.in_ok-do_events-2.ensures.state
    ∙ ap (λ (z : RunState). state_after z c.args.events.now)
    (c.in_ok-do_events.ensures.state
    ∙ ap (λ (z : RunState). state_after z c.args.problem.now.from.now) c.requires.at_start.state)

pub returns-clause-count : goal.returns-clause-count
returns-clause-count c =
    omega (
      arith,
      c.requires.can.sound.few,
      c.requires.at_start.none,
      c.in_ok-do_events.ensures.count,
      c.in_ok-do_events-2.ensures.count,
    )
