use Rattle.std.proofs.Common.{sym, ap, ◌∙◌}
use Rattle.call_slab.specs.Change.{changed}
use Rattle.answerbox.specs.Calls.{used}
use Rattle.answerbox.proofs.Keeping.{table_of, call_is, given_keeps, given_table, change_number, change_row, change_stamp, change_caller}
use Rattle.answerbox.proofs.Names.{live_key}
use Rattle.answerbox.proofs.Used.{used-changed, are_named, used_is, few_after, carried}
use Rattle.answerbox.proofs.boxes.Boxes.give.Goals as goal

pub unwrap-key-requires : goal.unwrap-key-requires
unwrap-key-requires g c = rw c.key_of.ensures.key (live_key c.self.inside.calls c.args.call.0 c.self.invariant.0.named (rw (← c.self.view_is) at c.requires.live))

pub invariant_of-self : goal.invariant_of-self
invariant_of-self g c =
    let there = call_is c.self.inside.calls c.args.call.0 c.unwrap-key.result c.get.result.now c.self.invariant.0.named (sym c.key_of.ensures.key ∙ c.unwrap-key.ensures) c.get.ensures.call in
    let named = are_named c.self.inside.calls c.self.inside.next_number c.self.inside.next_stamp c.self.invariant.0.named in
    let sum = used-changed (table_of c.self.inside.calls c.self.inside.next_number c.self.inside.next_stamp) c.args.call.0 (changed c.args.change) c.get.result.now named (change_number c.args.change) there in
    let table = ap used (given_table c.self.inside.calls c.change.new.self c.self.inside.queues.items c.self.inside.owns.items c.self.inside.next_number c.self.inside.next_stamp c.args.call.0 c.unwrap-key.result (changed c.args.change) (change_number c.args.change) (change_row c.args.change) (change_stamp c.args.change) (change_caller c.args.change) c.self.invariant.0 (sym c.key_of.ensures.key ∙ c.unwrap-key.ensures) c.change.ensures.calls) in
    (given_keeps c.self.inside.calls c.change.new.self c.self.inside.queues.items c.self.inside.owns.items c.self.inside.next_number c.self.inside.next_stamp c.args.call.0 c.unwrap-key.result (changed c.args.change) (change_number c.args.change) (change_row c.args.change) (change_stamp c.args.change) (change_caller c.args.change) c.self.invariant.0 (sym c.key_of.ensures.key ∙ c.unwrap-key.ensures) c.change.ensures.calls, used_is _ _ _ _ _ _ c.used_after-used.ensures sum _ table c.self.invariant.1, few_after c.args.change c.get.result.now c.self.inside.used c.used_after-used.result c.used_after-used.ensures c.self.invariant.2 (rw (← c.self.view_is, ← c.self.invariant.1) at c.requires.few_bytes))

pub returns-clause-calls : goal.returns-clause-calls
returns-clause-calls g c = rw (← c.self.view_is) (given_table c.self.inside.calls c.change.new.self c.self.inside.queues.items c.self.inside.owns.items c.self.inside.next_number c.self.inside.next_stamp c.args.call.0 c.unwrap-key.result (changed c.args.change) (change_number c.args.change) (change_row c.args.change) (change_stamp c.args.change) (change_caller c.args.change) c.self.invariant.0 (sym c.key_of.ensures.key ∙ c.unwrap-key.ensures) c.change.ensures.calls)

pub used_after-used-requires-clause-carried : goal.used_after-used-requires-clause-carried
used_after-used-requires-clause-carried g c = carried (table_of c.self.inside.calls c.self.inside.next_number c.self.inside.next_stamp) c.args.call.0 c.get.result.now c.self.inside.used (call_is c.self.inside.calls c.args.call.0 c.unwrap-key.result c.get.result.now c.self.invariant.0.named (sym c.key_of.ensures.key ∙ c.unwrap-key.ensures) c.get.ensures.call) c.self.invariant.1

pub used_after-used-requires-clause-few_bytes : goal.used_after-used-requires-clause-few_bytes
used_after-used-requires-clause-few_bytes g c = rw (← c.self.view_is, ← c.self.invariant.1) at c.requires.few_bytes
