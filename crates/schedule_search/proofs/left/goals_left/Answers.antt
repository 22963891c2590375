use Rattle.std.proofs.Common.{◌+◌, List, length, sym, ap, ◌∙◌, arith}
use Rattle.std.proofs.lemmas.List.{length-map}
use Rattle.ipc_ids.specs.declared.entry.Entry.{Entry}
use Rattle.task_system.specs.Run.{RunState}
use Rattle.search_goals.specs.GoalText.{said}
use Rattle.search_goals.specs.GoalList.{said_all}
use Rattle.schedule_search.specs.Search.{Search, first_state}
use Rattle.schedule_search.specs.Left.{Left, left_here}
use Rattle.schedule_search.specs.Problem.{search_of}
use Rattle.schedule_search.proofs.Following.{can_front, can_none, may_next, state_on, left_on, state_done, left_done}
use Rattle.schedule_search.proofs.left.goals_left.Goals as goal

pub left_here-requires-clause-can : goal.left_here-requires-clause-can
left_here-requires-clause-can c = can_none (search_of c.args.problem.now) c.args.events.now c.requires.can

pub loop-i-init : goal.loop-i-init
loop-i-init c =
    let earlier = said_all c.args.problem.now.earlier.now in
    record {
      state = c.requires.here;
      left = c.in_ok-left.ensures
          ∙ ap (λ (z : RunState). left_here earlier z c.args.told.now.entries) c.requires.here
          ∙ ap (λ (z : List Entry). left_here earlier (first_state (search_of c.args.problem.now)) z) c.requires.entries;
      few = c.requires.few;
    }

pub do_event-requires-clause-few : goal.do_event-requires-clause-few
do_event-requires-clause-few c = omega (arith, c.requires.can.few, c.loop-i.invariant.few)

pub do_event-requires-clause-may : goal.do_event-requires-clause-may
do_event-requires-clause-may c =
    may_next (search_of c.args.problem.now) c.args.events.now c.loop-i.i _ c.loop-i-test.true c.loop-i.replay.state c.requires.can
    c.loop-i.invariant.state

pub left_here-requires-in-loop-i-clause-can : goal.left_here-requires-in-loop-i-clause-can
left_here-requires-in-loop-i-clause-can c =
    can_front (search_of c.args.problem.now) c.args.events.now (c.loop-i.i + 1) c.requires.can

pub left_here-requires-in-loop-i-clause-here : goal.left_here-requires-in-loop-i-clause-here
left_here-requires-in-loop-i-clause-here c =
    state_on (search_of c.args.problem.now) c.args.events.now c.loop-i.i _ c.loop-i-test.true c.loop-i.replay.state
    c.do_event.new.replay.state c.loop-i.invariant.state c.in_ok-do_event.ensures.state

pub loop-i-preserved : goal.loop-i-preserved
loop-i-preserved c =
    let s : Search = search_of c.args.problem.now in
    let more : Left =
    record { goals = said_all c.in_ok-left-2.left.now; told = c.left_here-in-loop-i.new.told.entries } in
    let before : Left = record { goals = said_all c.loop-i.left.now; told = c.loop-i.told.entries } in
    record {
      state = state_on s c.args.events.now c.loop-i.i _ c.loop-i-test.true c.loop-i.replay.state c.do_event.new.replay.state
          c.loop-i.invariant.state c.in_ok-do_event.ensures.state;
      left = left_on s c.args.events.now c.loop-i.i _ c.loop-i-test.true c.loop-i.replay.state c.do_event.new.replay.state
          c.do_event.new.out.entries before more c.loop-i.invariant.state c.in_ok-do_event.ensures.state
          c.in_ok-do_event.ensures.entries c.loop-i.invariant.left c.in_ok-left-2.ensures;
      few = omega (arith, c.in_ok-do_event.ensures.count, c.loop-i.invariant.few);
    }

pub returns-clause-state : goal.returns-clause-state
returns-clause-state c =
    state_done (search_of c.args.problem.now) c.args.events.now c.loop-i.i c.loop-i-test.false c.loop-i.replay.state
    c.loop-i.invariant.state

pub returns-clause-left : goal.returns-clause-left
returns-clause-left c =
    let left : Left = record { goals = said_all c.loop-i.left.now; told = c.loop-i.told.entries } in
    sym (length-map c.loop-i.left.now said)
    ∙ ap (λ (z : Left). length z.goals)
    (left_done (search_of c.args.problem.now) c.args.events.now c.loop-i.i c.loop-i-test.false left c.loop-i.invariant.left)

pub returns-clause-entries : goal.returns-clause-entries
returns-clause-entries c =
    let left : Left = record { goals = said_all c.loop-i.left.now; told = c.loop-i.told.entries } in
    ap (λ (z : Left). z.told)
    (left_done (search_of c.args.problem.now) c.args.events.now c.loop-i.i c.loop-i-test.false left c.loop-i.invariant.left)
