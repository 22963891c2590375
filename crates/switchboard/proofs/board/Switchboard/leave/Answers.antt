use Rattle.std.proofs.Common.{arith}
use Rattle.switchboard.proofs.Keeping.{was_counted, counts_leave}
use Rattle.switchboard.proofs.KeptCalls.{kept_without, left_loose}
use Rattle.switchboard.proofs.Switched.{switched_calls}
use Rattle.switchboard.proofs.Live.{live_without}
use Rattle.switchboard.proofs.Inner.{inner}
use Rattle.switchboard.proofs.board.Switchboard.leave.Goals as goal

pub count_out-requires-clause-counted : goal.count_out-requires-clause-counted
count_out-requires-clause-counted c =
    let i = c.self.inside in
    was_counted i.phones.states i.phones.counts i.boxes.calls c.args.found.number.0 c.leave_uncounted-call.result c.self.invariant.0.has_counts c.leave_uncounted-call.ensures.call

pub invariant_of-self : goal.invariant_of-self
invariant_of-self c =
    let i = c.self.inside in
    rw (c.count_out.ensures.states, c.count_out.ensures.counts, c.leave_uncounted-call.ensures.calls, c.leave_uncounted-call.ensures.tasks)
    (switched_calls _ _ c.self.invariant.0 (counts_leave i.phones.states i.phones.counts i.boxes.calls c.args.found.number.0 c.leave_uncounted-call.result c.self.invariant.0.has_counts c.leave_uncounted-call.ensures.call) (kept_without i.boxes.calls c.args.found.number.0 c.self.invariant.0.kept), c.self.invariant.1)

pub returns-clause-loose : goal.returns-clause-loose
returns-clause-loose c =
    let i = c.self.inside in
    rw (c.count_out.ensures.states, c.leave_uncounted-call.ensures.calls)
    (left_loose (inner i) c.args.found.number.0 c.leave_uncounted-call.result c.self.invariant.0.kept c.leave_uncounted-call.ensures.call)

pub returns-clause-room : goal.returns-clause-room
returns-clause-room c =
    let i = c.self.inside in
    let l = live_without i.boxes.calls c.args.found.number.0 (rw (← c.self.view_is) at c.requires.live) in
    rw (← c.self.view_is, c.leave_uncounted-call.ensures.calls) (record { live = omega (arith, l); calls = omega (arith, c.leave_uncounted-call.ensures.spare); places = c.leave_uncounted-call.ensures.tasks })
