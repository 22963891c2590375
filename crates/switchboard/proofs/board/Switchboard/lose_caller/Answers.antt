use Rattle.std.proofs.Common.{◌≡◌, Some, arith}
use Rattle.answerbox.specs.Calls.{call_at}
use Rattle.switchboard.proofs.Keeping.{was_counted, counts_forget}
use Rattle.switchboard.proofs.KeptCalls.{kept_forgotten}
use Rattle.switchboard.proofs.Switched.{switched_calls}
use Rattle.switchboard.proofs.Live.{live_caller}
use Rattle.switchboard.proofs.board.Switchboard.lose_caller.Goals as goal

pub count_out-requires-clause-counted : goal.count_out-requires-clause-counted
count_out-requires-clause-counted c =
    let i = c.self.inside in
    let is : call_at i.boxes.calls c.args.found.number.0 ≡ Some c.read-record.result.now = c.read-record.ensures.call in
    was_counted i.phones.states i.phones.counts i.boxes.calls c.args.found.number.0 c.read-record.result.now c.self.invariant.0.has_counts is

pub invariant_of-self : goal.invariant_of-self
invariant_of-self c =
    let i = c.self.inside in
    let is : call_at i.boxes.calls c.args.found.number.0 ≡ Some c.read-record.result.now = c.read-record.ensures.call in
    rw (c.count_out.ensures.states, c.count_out.ensures.counts, c.lose_caller.ensures.calls, c.lose_caller.ensures.tasks)
    (switched_calls _ _ c.self.invariant.0 (counts_forget i.phones.states i.phones.counts i.boxes.calls c.args.found.number.0 c.read-record.result.now c.self.invariant.0.has_counts is) (kept_forgotten i.boxes.calls c.args.found.number.0 c.read-record.result.now c.self.invariant.0.kept is (c.self.invariant.0.has_counts.numbered c.args.found.number.0 c.read-record.result.now is)), c.self.invariant.1)

pub returns-clause-room : goal.returns-clause-room
returns-clause-room c =
    let i = c.self.inside in
    let l = live_caller i.phones.states i.phones.counts i.boxes.calls c.args.found.number.0 c.self.invariant.0.has_counts (rw (← c.self.view_is) at c.requires.live) in
    rw (← c.self.view_is, c.lose_caller.ensures.calls) (record { live = omega (arith, l); calls = omega (arith, c.lose_caller.ensures.spare); places = c.lose_caller.ensures.tasks })
