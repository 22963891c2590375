use Rattle.std.proofs.Common.{length, ap, arith}
use Rattle.answerbox.proofs.Keeping.{call_is, leave_keeps, leave_table}
use Rattle.answerbox.proofs.Names.{live_key}
use Rattle.answerbox.specs.Calls.{used}
use Rattle.answerbox.proofs.Keeping.{table_of}
use Rattle.answerbox.proofs.Used.{used-without_call, carried}
use Rattle.answerbox.proofs.boxes.Boxes.leave_counted.Goals as goal

pub key_for-gone-requires : goal.key_for-gone-requires
key_for-gone-requires g c = record { live = live_key c.self.inside.calls c.args.found.number.0 c.self.invariant.0.named (rw (← c.self.view_is) at c.requires.live) }

pub dismiss-call-requires-clause-lists : goal.dismiss-call-requires-clause-lists
dismiss-call-requires-clause-lists g c = record { stamp = c.self.inside.next_stamp; number = c.self.inside.next_number; queued = c.self.invariant.0.queued; listed = c.self.invariant.0.listed }

pub invariant_of-self : goal.invariant_of-self
invariant_of-self g c =
    let less = used-without_call (table_of c.self.inside.calls c.self.inside.next_number c.self.inside.next_stamp) c.args.found.number.0 c.dismiss-call.result (call_is c.self.inside.calls c.args.found.number.0 c.key_for-gone.result c.dismiss-call.result c.self.invariant.0.named c.key_for-gone.ensures.key c.dismiss-call.ensures.call) in
    let table = ap used (leave_table c.self.inside.calls c.dismiss-call.new.calls c.self.inside.queues.items c.dismiss-call.new.queues.items c.self.inside.owns.items c.dismiss-call.new.owns.items c.self.inside.next_number c.self.inside.next_stamp c.args.found.number.0 c.key_for-gone.result c.self.invariant.0 c.key_for-gone.ensures.key c.dismiss-call.ensures.slots c.dismiss-call.ensures.keys c.dismiss-call.ensures.rows.0 c.dismiss-call.ensures.rows.1) in
    let was = c.self.invariant.1 in
    let bytes = ap length c.as_slice.ensures in
    let few = c.self.invariant.2 in
    (leave_keeps c.self.inside.calls c.dismiss-call.new.calls c.self.inside.queues.items c.dismiss-call.new.queues.items c.self.inside.owns.items c.dismiss-call.new.owns.items c.self.inside.next_number c.self.inside.next_stamp c.args.found.number.0 c.key_for-gone.result c.self.invariant.0 c.key_for-gone.ensures.key c.dismiss-call.ensures.slots c.dismiss-call.ensures.keys c.dismiss-call.ensures.rows.0 c.dismiss-call.ensures.rows.1 c.dismiss-call.ensures.last, omega (arith, less, table, was, bytes), omega (arith, few, bytes))

pub returns-clause-calls : goal.returns-clause-calls
returns-clause-calls g c = rw (← c.self.view_is) (leave_table c.self.inside.calls c.dismiss-call.new.calls c.self.inside.queues.items c.dismiss-call.new.queues.items c.self.inside.owns.items c.dismiss-call.new.owns.items c.self.inside.next_number c.self.inside.next_stamp c.args.found.number.0 c.key_for-gone.result c.self.invariant.0 c.key_for-gone.ensures.key c.dismiss-call.ensures.slots c.dismiss-call.ensures.keys c.dismiss-call.ensures.rows.0 c.dismiss-call.ensures.rows.1)

pub returns-clause-call : goal.returns-clause-call
returns-clause-call g c = rw (← c.self.view_is) (call_is c.self.inside.calls c.args.found.number.0 c.key_for-gone.result c.dismiss-call.result c.self.invariant.0.named c.key_for-gone.ensures.key c.dismiss-call.ensures.call)

pub overflow_sub-self : goal.overflow_sub-self
overflow_sub-self g c = rw c.as_slice.ensures (carried (table_of c.self.inside.calls c.self.inside.next_number c.self.inside.next_stamp) c.args.found.number.0 c.dismiss-call.result c.self.inside.used (call_is c.self.inside.calls c.args.found.number.0 c.key_for-gone.result c.dismiss-call.result c.self.invariant.0.named c.key_for-gone.ensures.key c.dismiss-call.ensures.call) c.self.invariant.1)
