use Rattle.std.proofs.Common.{◌∙◌, length, reverse, ap, sym, subst}
use Rattle.std.specs.Prelude.{None}
use Rattle.task_system.specs.Run.{RunState}
use Rattle.answerbox.specs.Calls.{CallTable, call_at}
use Rattle.schedule_search.specs.Search.{Search}
use Rattle.schedule_search.specs.OpenCalls.{is_open}
use Rattle.schedule_search.specs.Problem.{search_of}
use Rattle.schedule_search.specs.Lost.{IsLost}
use Rattle.schedule_search.specs.Ahead.{FitsAhead}
use Rattle.schedule_search.proofs.Losses.{fits_ahead, closed_answers, none_answers, closed_now}
use Rattle.schedule_search.proofs.lost_calls.is_lost.Goals as goal

pub returns-then-not-open-clause-answered : goal.returns-then-not-open-clause-answered
returns-then-not-open-clause-answered c =
    λ is. closed_now c.args.replay.now.state c.args.call.0
    (ap (λ (z : CallTable). is_open None (call_at z c.args.call.0)) (sym c.all_calls.ensures)
    ∙ ap (is_open None) (sym c.get.ensures.call) ∙ sym c.is_open-open.ensures ∙ c.if-not-open.true)

pub closes_in_some-requires-clause-count : goal.closes_in_some-requires-clause-count
closes_in_some-requires-clause-count c =
    c.tasks-count.ensures ∙ ap (λ (z : RunState). length z.kernel.tasks.alive) c.requires.here

pub returns-then-soon-clause-answered : goal.returns-then-soon-clause-answered
returns-then-soon-clause-answered c =
    λ is lost. c.in_ok-soon.ensures c.if-soon.true (subst (λ (z : RunState). IsLost z c.args.call.0) c.requires.here lost)

pub search-requires-clause-fits : goal.search-requires-clause-fits
search-requires-clause-fits c =
    fits_ahead (search_of c.args.problem.now) c.args.events.now c.tasks-count.result c.args.call.0 c.requires.can
    (c.tasks-count.ensures ∙ ap (λ (z : RunState). length z.kernel.tasks.alive) c.requires.here)

pub returns-in-Found-clause-answered : goal.returns-in-Found-clause-answered
returns-in-Found-clause-answered c =
    let s : Search = search_of c.args.problem.now in
    let fits : FitsAhead s c.args.events.now c.tasks-count.result c.args.call.0 =
    fits_ahead s c.args.events.now c.tasks-count.result c.args.call.0 c.requires.can
    (c.tasks-count.ensures ∙ ap (λ (z : RunState). length z.kernel.tasks.alive) c.requires.here) in
    let h = rw c.in-Found.is at c.in_ok-answer.ensures in
    λ is lost. closed_answers s c.args.events.now c.tasks-count.result c.args.call.0 fits
    (reverse c.in-Found.field-0.items) h.are_moves h.met
    (subst (λ (z : RunState). IsLost z c.args.call.0) c.requires.here lost)

pub returns-in-NoneAtAll-clause-lost : goal.returns-in-NoneAtAll-clause-lost
returns-in-NoneAtAll-clause-lost c =
    let s : Search = search_of c.args.problem.now in
    let fits : FitsAhead s c.args.events.now c.tasks-count.result c.args.call.0 =
    fits_ahead s c.args.events.now c.tasks-count.result c.args.call.0 c.requires.can
    (c.tasks-count.ensures ∙ ap (λ (z : RunState). length z.kernel.tasks.alive) c.requires.here) in
    let h = rw c.in-NoneAtAll.is at c.in_ok-answer.ensures in
    λ is. subst (λ (z : RunState). IsLost z c.args.call.0) (sym c.requires.here)
    (none_answers s c.args.events.now c.tasks-count.result c.args.call.0 fits h)
