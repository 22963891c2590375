use Rattle.std.proofs.Common.{ap, ◌∙◌, arith}
use Rattle.answerbox.specs.Calls.{call_at}
use Rattle.switchboard.proofs.Keeping.{counts_enqueue}
use Rattle.switchboard.specs.Board.{IsNewCall}
use Rattle.switchboard.proofs.Inner.{inner}
use Rattle.switchboard.proofs.KeptCalls.{kept_enqueue}
use Rattle.switchboard.proofs.Switched.{may_count, switched_calls}
use Rattle.switchboard.proofs.Live.{live_enqueue}
use Rattle.switchboard.proofs.board.Switchboard.enqueue.Goals as goal

pub count_up-requires-clause-few : goal.count_up-requires-clause-few
count_up-requires-clause-few c =
    let i = c.self.inside in
    let new : IsNewCall (inner i) c.args.call = rw (← c.self.view_is) at c.requires.new_call in
    may_count i.phones.states i.phones.counts i.boxes.calls c.args.call.from c.self.invariant.0.has_counts new.phone new.few

pub invariant_of-self : goal.invariant_of-self
invariant_of-self c =
    let i = c.self.inside in
    let new : IsNewCall (inner i) c.args.call = rw (← c.self.view_is) at c.requires.new_call in
    rw (c.count_up.ensures.states, c.count_up.ensures.counts, c.enqueue.ensures.calls, c.enqueue.ensures.tasks)
    (switched_calls _ _ c.self.invariant.0 (counts_enqueue i.phones.states i.phones.counts i.boxes.calls c.args.call c.self.invariant.0.has_counts (ap (call_at i.boxes.calls) new.number ∙ c.next_number-number.ensures.free) new.caller new.phone new.bytes) (kept_enqueue (inner i) c.args.call c.self.invariant.0.kept new.kept), c.self.invariant.1)

pub returns-clause-room : goal.returns-clause-room
returns-clause-room c =
    let i = c.self.inside in
    let new : IsNewCall (inner i) c.args.call = rw (← c.self.view_is) at c.requires.new_call in
    let l = live_enqueue i.boxes.calls c.args.call (ap (call_at i.boxes.calls) new.number ∙ c.next_number-number.ensures.free) in
    rw (← c.self.view_is, c.enqueue.ensures.calls) (record { live = omega (arith, l); calls = omega (arith, c.enqueue.ensures.spare); places = c.enqueue.ensures.tasks })
