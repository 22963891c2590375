use Rattle.std.proofs.Common.{◌<◌, ◌+◌, length, refl, sym, ap, ◌∙◌, arith}
use Rattle.std.specs.Ordering.{nat_cmp}
use Rattle.std.specs.FinMap.{FinMap, entries}
use Rattle.std.specs.Prelude.{◌^◌}
use Rattle.call_slab.specs.declared.call.Call.{Call}
use Rattle.answerbox.specs.Calls.{BoxesState, call_at, sum_of, bytes_in}
use Rattle.answerbox.proofs.Used.{used-enqueue}
use Rattle.answerbox.proofs.Keeping.{table_of, next_free, few_queues, few_owns, comes_keeps, comes_calls, within_rows, caller_within, room_some, table_with}
use Rattle.answerbox.proofs.boxes.Boxes.enqueue.Goals as goal

pub admit-requires-clause-may : goal.admit-requires-clause-may
admit-requires-clause-may c =
    let room = room_some c.self.inside.owns.items c.self.inside.calls.spare (rw (← c.self.view_is) at c.requires.room) in
    let number = c.requires.number ∙ sym (ap (λ (r : BoxesState). r.calls.next_number) c.self.view_is) in
    record {
      room = room.1;
      above = rw number c.self.invariant.0.last;
      queued = c.self.invariant.0.queued;
      listed = rw number c.self.invariant.0.listed;
      within = within_rows c.self.inside.queues.items c.self.inside.owns.items c.args.call.place c.self.invariant.0.rows room.0 (rw (← c.self.view_is) at c.requires.task);
      caller = caller_within c.self.inside.owns.items (record c.args.call { stamp = c.self.inside.next_stamp }) room.0 (rw (← c.self.view_is) at c.requires.caller);
      counts = few_queues c.self.inside.calls c.self.inside.queues.items c.self.inside.owns.items c.self.inside.next_number c.self.inside.next_stamp c.self.invariant.0;
      own_counts = few_owns c.self.inside.calls c.self.inside.queues.items c.self.inside.owns.items c.self.inside.next_number c.self.inside.next_stamp c.self.invariant.0;
    }

pub invariant_of-self : goal.invariant_of-self
invariant_of-self c =
    let room = room_some c.self.inside.owns.items c.self.inside.calls.spare (rw (← c.self.view_is) at c.requires.room) in
    let some = room.0 in
    let number = c.requires.number ∙ sym (ap (λ (r : BoxesState). r.calls.next_number) c.self.view_is) in
    let free = ap (call_at (table_of c.self.inside.calls c.self.inside.next_number c.self.inside.next_stamp)) number ∙ next_free c.self.inside.calls c.self.inside.queues.items c.self.inside.owns.items c.self.inside.next_number c.self.inside.next_stamp c.self.invariant.0 in
    let sum = used-enqueue (table_of c.self.inside.calls c.self.inside.next_number c.self.inside.next_stamp) c.args.call free in
    let table = ap (λ (m : FinMap nat_cmp Call). sum_of bytes_in (entries m)) (comes_calls c.self.inside.calls c.admit.new.calls c.self.inside.queues.items c.admit.new.queues.items c.self.inside.owns.items c.admit.new.owns.items c.self.inside.next_number c.self.inside.next_stamp c.admit.result (record c.args.call { stamp = c.self.inside.next_stamp }) c.self.invariant.0 c.admit.ensures.fresh (rw (← c.self.view_is) at c.requires.few_calls) refl (c.requires.number ∙ sym (ap (λ (r : BoxesState). r.calls.next_number) c.self.view_is)) (within_rows c.self.inside.queues.items c.self.inside.owns.items c.args.call.place c.self.invariant.0.rows some (rw (← c.self.view_is) at c.requires.task)) (caller_within c.self.inside.owns.items (record c.args.call { stamp = c.self.inside.next_stamp }) some (rw (← c.self.view_is) at c.requires.caller)) c.admit.ensures.slots c.admit.ensures.keys c.admit.ensures.queues c.admit.ensures.owns) in
    let was = c.self.invariant.1 in
    let bytes = ap length c.as_slice.ensures in
    let few : c.self.inside.used + length c.args.call.buffer < 2 ^ 63 = rw (← c.self.view_is, ← c.self.invariant.1) at c.requires.few_bytes in
    (comes_keeps c.self.inside.calls c.admit.new.calls c.self.inside.queues.items c.admit.new.queues.items c.self.inside.owns.items c.admit.new.owns.items c.self.inside.next_number c.self.inside.next_stamp c.admit.result (record c.args.call { stamp = c.self.inside.next_stamp }) c.self.invariant.0 c.admit.ensures.fresh (rw (← c.self.view_is) at c.requires.few_calls) refl (c.requires.number ∙ sym (ap (λ (r : BoxesState). r.calls.next_number) c.self.view_is)) (within_rows c.self.inside.queues.items c.self.inside.owns.items c.args.call.place c.self.invariant.0.rows some (rw (← c.self.view_is) at c.requires.task)) (caller_within c.self.inside.owns.items (record c.args.call { stamp = c.self.inside.next_stamp }) some (rw (← c.self.view_is) at c.requires.caller)) c.admit.ensures.slots c.admit.ensures.keys c.admit.ensures.queues c.admit.ensures.owns c.admit.ensures.last, omega (arith, sum, table, was, bytes), omega (arith, few, was, bytes))

pub returns-clause-calls : goal.returns-clause-calls
returns-clause-calls c =
    let room = room_some c.self.inside.owns.items c.self.inside.calls.spare (rw (← c.self.view_is) at c.requires.room) in
    let some = room.0 in
    rw (← c.self.view_is) (ap (λ m. table_with m (c.self.inside.next_number + 1) (c.self.inside.next_stamp + 1)) (comes_calls c.self.inside.calls c.admit.new.calls c.self.inside.queues.items c.admit.new.queues.items c.self.inside.owns.items c.admit.new.owns.items c.self.inside.next_number c.self.inside.next_stamp c.admit.result (record c.args.call { stamp = c.self.inside.next_stamp }) c.self.invariant.0 c.admit.ensures.fresh (rw (← c.self.view_is) at c.requires.few_calls) refl (c.requires.number ∙ sym (ap (λ (r : BoxesState). r.calls.next_number) c.self.view_is)) (within_rows c.self.inside.queues.items c.self.inside.owns.items c.args.call.place c.self.invariant.0.rows some (rw (← c.self.view_is) at c.requires.task)) (caller_within c.self.inside.owns.items (record c.args.call { stamp = c.self.inside.next_stamp }) some (rw (← c.self.view_is) at c.requires.caller)) c.admit.ensures.slots c.admit.ensures.keys c.admit.ensures.queues c.admit.ensures.owns))
