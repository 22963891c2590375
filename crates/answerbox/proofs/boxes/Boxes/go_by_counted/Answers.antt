use Rattle.std.proofs.Common.{refl, ap}
use Rattle.call_slab.specs.Change.{changed}
use Rattle.answerbox.proofs.Keeping.{few_queues, goes_within, goes_keeps, goes_table, given_queue, given_live, change_number, change_row, change_stamp, change_caller}
use Rattle.answerbox.proofs.Names.{live_key}
use Rattle.answerbox.specs.Calls.{used}
use Rattle.answerbox.specs.Change.{MayBring}
use Rattle.answerbox.proofs.Keeping.{table_of, call_is}
use Rattle.answerbox.proofs.Used.{used-gone, are_named, used_is, few_after, carried}
use Rattle.answerbox.proofs.boxes.Boxes.go_by_counted.Goals as goal

pub key_for-key-requires : goal.key_for-key-requires
key_for-key-requires g c = record { live = live_key c.self.inside.calls c.args.found.number.0 c.self.invariant.0.named (rw (← c.self.view_is) at c.requires.may.live) }

pub relocate-requires-clause-queued : goal.relocate-requires-clause-queued
relocate-requires-clause-queued g c = given_queue c.self.inside.calls c.change.new.self c.self.inside.queues.items c.self.inside.owns.items c.self.inside.next_number c.self.inside.next_stamp c.args.found.number.0 c.key_for-key.result (changed c.decide-change.result.0) (change_number c.decide-change.result.0) (change_row c.decide-change.result.0) (change_stamp c.decide-change.result.0) (change_caller c.decide-change.result.0) c.self.invariant.0 c.key_for-key.ensures.key c.change.ensures.calls

pub relocate-requires-clause-live : goal.relocate-requires-clause-live
relocate-requires-clause-live g c = given_live c.self.inside.calls c.change.new.self c.self.inside.queues.items c.self.inside.owns.items c.self.inside.next_number c.self.inside.next_stamp c.args.found.number.0 c.key_for-key.result (changed c.decide-change.result.0) (change_number c.decide-change.result.0) (change_row c.decide-change.result.0) (change_stamp c.decide-change.result.0) (change_caller c.decide-change.result.0) c.self.invariant.0 c.key_for-key.ensures.key c.change.ensures.calls

pub relocate-requires-clause-within : goal.relocate-requires-clause-within
relocate-requires-clause-within g c = (goes_within c.self.inside.calls c.self.inside.queues.items c.self.inside.owns.items c.self.inside.next_number c.self.inside.next_stamp c.args.found.number.0 c.key_for-key.result c.args.place c.self.invariant.0 c.key_for-key.ensures.key (rw (← c.self.view_is) at c.requires.may.task))

pub relocate-requires-clause-counts : goal.relocate-requires-clause-counts
relocate-requires-clause-counts g c = few_queues c.self.inside.calls c.self.inside.queues.items c.self.inside.owns.items c.self.inside.next_number c.self.inside.next_stamp c.self.invariant.0

pub invariant_of-self : goal.invariant_of-self
invariant_of-self g c =
    let there = call_is c.self.inside.calls c.args.found.number.0 c.key_for-key.result c.get-record.result.now c.self.invariant.0.named c.key_for-key.ensures.key c.get-record.ensures.call in
    let bytes : MayBring c.self.inside.used c.decide-change.result.0 = rw c.self.invariant.1 (rw (← c.self.view_is) at (c.requires.may.few_bytes c.get-record.result.now c.decide-change.result.0 c.decide-change.result.1 (rw (← c.self.view_is) there) (c.get-record.result, c.decide-change.ensures, refl))) in
    let named = are_named c.self.inside.calls c.self.inside.next_number c.self.inside.next_stamp c.self.invariant.0.named in
    let sum = used-gone (table_of c.self.inside.calls c.self.inside.next_number c.self.inside.next_stamp) c.args.found.number.0 (changed c.decide-change.result.0) c.args.place c.get-record.result.now named (change_number c.decide-change.result.0) there in
    let table = ap used (goes_table c.self.inside.calls c.change.new.self c.relocate.new.calls c.self.inside.queues.items c.relocate.new.queues.items c.self.inside.owns.items c.self.inside.next_number c.self.inside.next_stamp c.args.found.number.0 c.key_for-key.result c.args.place (changed c.decide-change.result.0) (change_number c.decide-change.result.0) (change_row c.decide-change.result.0) (change_stamp c.decide-change.result.0) (change_caller c.decide-change.result.0) c.self.invariant.0 c.key_for-key.ensures.key c.change.ensures.calls c.relocate.ensures.calls c.relocate.ensures.rows (goes_within c.self.inside.calls c.self.inside.queues.items c.self.inside.owns.items c.self.inside.next_number c.self.inside.next_stamp c.args.found.number.0 c.key_for-key.result c.args.place c.self.invariant.0 c.key_for-key.ensures.key (rw (← c.self.view_is) at c.requires.may.task))) in
    (goes_keeps c.self.inside.calls c.change.new.self c.relocate.new.calls c.self.inside.queues.items c.relocate.new.queues.items c.self.inside.owns.items c.self.inside.next_number c.self.inside.next_stamp c.args.found.number.0 c.key_for-key.result c.args.place (changed c.decide-change.result.0) (change_number c.decide-change.result.0) (change_row c.decide-change.result.0) (change_stamp c.decide-change.result.0) (change_caller c.decide-change.result.0) c.self.invariant.0 c.key_for-key.ensures.key c.change.ensures.calls c.relocate.ensures.calls c.relocate.ensures.rows (goes_within c.self.inside.calls c.self.inside.queues.items c.self.inside.owns.items c.self.inside.next_number c.self.inside.next_stamp c.args.found.number.0 c.key_for-key.result c.args.place c.self.invariant.0 c.key_for-key.ensures.key (rw (← c.self.view_is) at c.requires.may.task)), used_is _ _ _ _ _ _ c.used_after-used.ensures sum _ table c.self.invariant.1, few_after c.decide-change.result.0 c.get-record.result.now c.self.inside.used c.used_after-used.result c.used_after-used.ensures c.self.invariant.2 bytes)

pub returns-clause-goes : goal.returns-clause-goes
returns-clause-goes g c =
    let there = call_is c.self.inside.calls c.args.found.number.0 c.key_for-key.result c.get-record.result.now c.self.invariant.0.named c.key_for-key.ensures.key c.get-record.ensures.call in
    record {
      record_was = c.get-record.result.now;
      change = c.decide-change.result.0;
      there = rw (← c.self.view_is) there;
      decided = (c.get-record.result, c.decide-change.ensures, refl);
      goes = record {
        calls = rw (← c.self.view_is) (goes_table c.self.inside.calls c.change.new.self c.relocate.new.calls c.self.inside.queues.items c.relocate.new.queues.items c.self.inside.owns.items c.self.inside.next_number c.self.inside.next_stamp c.args.found.number.0 c.key_for-key.result c.args.place (changed c.decide-change.result.0) (change_number c.decide-change.result.0) (change_row c.decide-change.result.0) (change_stamp c.decide-change.result.0) (change_caller c.decide-change.result.0) c.self.invariant.0 c.key_for-key.ensures.key c.change.ensures.calls c.relocate.ensures.calls c.relocate.ensures.rows (goes_within c.self.inside.calls c.self.inside.queues.items c.self.inside.owns.items c.self.inside.next_number c.self.inside.next_stamp c.args.found.number.0 c.key_for-key.result c.args.place c.self.invariant.0 c.key_for-key.ensures.key (rw (← c.self.view_is) at c.requires.may.task)));
        tasks = rw (← c.self.view_is) refl;
        spare = rw (← c.self.view_is, c.relocate.ensures.calls, c.change.ensures.calls) refl;
      };
    }

pub used_after-used-requires-clause-carried : goal.used_after-used-requires-clause-carried
used_after-used-requires-clause-carried g c = carried (table_of c.self.inside.calls c.self.inside.next_number c.self.inside.next_stamp) c.args.found.number.0 c.get-record.result.now c.self.inside.used (call_is c.self.inside.calls c.args.found.number.0 c.key_for-key.result c.get-record.result.now c.self.invariant.0.named c.key_for-key.ensures.key c.get-record.ensures.call) c.self.invariant.1

pub used_after-used-requires-clause-few_bytes : goal.used_after-used-requires-clause-few_bytes
used_after-used-requires-clause-few_bytes g c =
    let there = call_is c.self.inside.calls c.args.found.number.0 c.key_for-key.result c.get-record.result.now c.self.invariant.0.named c.key_for-key.ensures.key c.get-record.ensures.call in
    let bytes : MayBring c.self.inside.used c.decide-change.result.0 = rw c.self.invariant.1 (rw (← c.self.view_is) at (c.requires.may.few_bytes c.get-record.result.now c.decide-change.result.0 c.decide-change.result.1 (rw (← c.self.view_is) there) (c.get-record.result, c.decide-change.ensures, refl))) in
    bytes
