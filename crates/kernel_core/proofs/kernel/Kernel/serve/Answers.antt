use Rattle.std.proofs.Common.{sym, subst, ◌++◌}
use Rattle.switchboard.specs.State.{KernelState}
use Rattle.kernel_core.specs.Kernel.{serve}
use Rattle.kernel_core.specs.History.{HistoryFits, served_entries}
use Rattle.kernel_core.proofs.Steadiness.{few_active, few_stores, steady_served, served_after}
use Rattle.kernel_core.proofs.FittingOutcomes.{served_fits}
use Rattle.kernel_core.proofs.ServedHistories.{serve_fits}
use Rattle.kernel_core.proofs.kernel.Kernel.serve.Goals as goal

pub serve_request-requires-clause-few : goal.serve_request-requires-clause-few
serve_request-requires-clause-few c = rw c.reserve.ensures.state (few_active c.self.inside.board.state c.self.invariant (rw (← c.self.view_is) at c.requires.few_events) c.check_numbers.ensures.few)

pub serve_request-requires-clause-few_tasks : goal.serve_request-requires-clause-few_tasks
serve_request-requires-clause-few_tasks c = rw c.reserve.ensures.state c.self.invariant.tasks

pub serve_request-requires-clause-few_stores : goal.serve_request-requires-clause-few_stores
serve_request-requires-clause-few_stores c = rw c.reserve.ensures.state (few_stores c.self.inside.board.state c.self.invariant (rw (← c.self.view_is) at c.requires.few_events))

pub returns-in-Ok-clause-fits : goal.returns-in-Ok-clause-fits
returns-in-Ok-clause-fits c = served_fits c.self.inside.board.state c.reserve.new.self.state c.args.who c.args.request.now _ c.self.invariant.sound c.reserve.ensures.state c.in-Ok.ensures.served.outcome

pub invariant_of-self-in-Ok : goal.invariant_of-self-in-Ok
invariant_of-self-in-Ok c =
    let alive = rw (← c.self.view_is) at c.requires.alive in
    let room = c.serve_request.ensures.room in
    steady_served c.self.inside.board.state c.reserve.new.self.state c.serve_request.new.board.state c.count_event.new.self.state c.args.who c.args.request.now c.self.invariant alive c.reserve.ensures.state c.in-Ok.ensures.served.state c.count_event.ensures.state room.numbers room.stamps room.alive room.events

pub returns-in-Ok-clause-sound : goal.returns-in-Ok-clause-sound
returns-in-Ok-clause-sound c =
    let alive = rw (← c.self.view_is) at c.requires.alive in
    let room = c.serve_request.ensures.room in
    (steady_served c.self.inside.board.state c.reserve.new.self.state c.serve_request.new.board.state c.count_event.new.self.state c.args.who c.args.request.now c.self.invariant alive c.reserve.ensures.state c.in-Ok.ensures.served.state c.count_event.ensures.state room.numbers room.stamps room.alive room.events).sound

pub returns-in-Ok-clause-history : goal.returns-in-Ok-clause-history
returns-in-Ok-clause-history c = λ h fits.
    let k = c.self.inside.board.state in
    let alive = rw (← c.self.view_is) at c.requires.alive in
    let before = rw (← c.self.view_is) at fits in
    let is = served_after k c.reserve.new.self.state c.serve_request.new.board.state c.count_event.new.self.state c.args.who c.args.request.now c.reserve.ensures.state c.in-Ok.ensures.served.state c.count_event.ensures.state in
    let whole =
    subst
    (λ (j : KernelState). HistoryFits (h ++ served_entries c.args.who c.args.request.now (serve k c.args.who c.args.request.now)) j)
    (sym is)
    (serve_fits h k c.args.who c.args.request.now before alive) in
    subst
    (λ (old : KernelState). HistoryFits (h ++ served_entries c.args.who c.args.request.now (serve old c.args.who c.args.request.now)) c.count_event.new.self.state)
    c.self.view_is
    whole
