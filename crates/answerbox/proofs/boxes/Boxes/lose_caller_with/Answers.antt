use Rattle.std.proofs.Common.{refl, sym, ap, ◌∙◌}
use Rattle.answerbox.proofs.Keeping.{forget_keeps, forget_table}
use Rattle.answerbox.proofs.Names.{live_key}
use Rattle.answerbox.specs.Calls.{used}
use Rattle.answerbox.specs.Moving.{no_caller}
use Rattle.answerbox.proofs.Keeping.{table_of}
use Rattle.answerbox.proofs.Used.{used-changed_same, are_named}
use Rattle.answerbox.proofs.boxes.Boxes.lose_caller_with.Goals as goal

pub key_for-key-requires : goal.key_for-key-requires
key_for-key-requires g c = record { live = live_key c.self.inside.calls c.args.found.number.0 c.self.invariant.0.named (rw (← c.self.view_is) at c.requires.live) }

pub disown-requires-clause-lists : goal.disown-requires-clause-lists
disown-requires-clause-lists g c = rw c.deref.ensures.value (record { stamp = c.self.inside.next_stamp; number = c.self.inside.next_number; queued = c.self.invariant.0.queued; listed = c.self.invariant.0.listed })

pub invariant_of-self : goal.invariant_of-self
invariant_of-self g c =
    let named = are_named c.self.inside.calls c.self.inside.next_number c.self.inside.next_stamp c.self.invariant.0.named in
    let same = used-changed_same (table_of c.self.inside.calls c.self.inside.next_number c.self.inside.next_stamp) c.args.found.number.0 no_caller named (λ d. refl) (λ d. refl) in
    let table = ap used (forget_table c.self.inside.calls c.disown.new.calls c.self.inside.queues.items c.self.inside.owns.items c.disown.new.owns.items c.self.inside.next_number c.self.inside.next_stamp c.args.found.number.0 c.key_for-key.result c.self.invariant.0 c.key_for-key.ensures.key c.disown.ensures.calls c.disown.ensures.owns) in
    (forget_keeps c.self.inside.calls c.disown.new.calls c.self.inside.queues.items c.self.inside.owns.items c.disown.new.owns.items c.self.inside.next_number c.self.inside.next_stamp c.args.found.number.0 c.key_for-key.result c.self.invariant.0 c.key_for-key.ensures.key c.disown.ensures.calls c.disown.ensures.owns, c.self.invariant.1 ∙ sym (table ∙ same), c.self.invariant.2)

pub returns-clause-calls : goal.returns-clause-calls
returns-clause-calls g c = rw (← c.self.view_is) (forget_table c.self.inside.calls c.disown.new.calls c.self.inside.queues.items c.self.inside.owns.items c.disown.new.owns.items c.self.inside.next_number c.self.inside.next_stamp c.args.found.number.0 c.key_for-key.result c.self.invariant.0 c.key_for-key.ensures.key c.disown.ensures.calls c.disown.ensures.owns)
