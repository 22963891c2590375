use Rattle.std.proofs.Common.{◌≡◌, List, refl, sym, ap, ◌∙◌}
use Rattle.answerbox.specs.declared.chains.Ends.{Ends}
use Rattle.answerbox.specs.Chain.{first_of, place_index}
use Rattle.answerbox.proofs.Finding.{front_empty, front_found}
use Rattle.answerbox.proofs.Fronts.{front-is_front, no_front-has_no_calls}
use Rattle.answerbox.proofs.Keeping.{table_of}
use Rattle.answerbox.proofs.Moving.{call_is_core}
use Rattle.answerbox.proofs.boxes.Boxes.first_counted.Goals as goal

pub returns-in-None-clause-first : goal.returns-in-None-clause-first
returns-in-None-clause-first g c =
    let none = front_empty c.self.inside.calls c.self.inside.queues.items c.self.inside.owns.items c.self.inside.next_number c.self.inside.next_stamp c.args.place c.self.invariant.0 (ap (λ (es : List Ends). first_of es (place_index c.args.place)) (sym c.deref.ensures.value) ∙ sym c.in-None.ensures) in
    rw (← c.self.view_is) (record {
      first = none;
      least = tt;
      empty = no_front-has_no_calls (table_of c.self.inside.calls c.self.inside.next_number c.self.inside.next_stamp) c.args.place none;
    })

pub returns-in-Some-clause-first : goal.returns-in-Some-clause-first
returns-in-Some-clause-first g c =
    let f = front_found c.self.inside.calls c.self.inside.queues.items c.self.inside.owns.items c.self.inside.next_number c.self.inside.next_stamp c.in-Some.key c.args.place c.self.invariant.0 (ap (λ (es : List Ends). first_of es (place_index c.args.place)) (sym c.deref.ensures.value) ∙ sym c.in-Some.ensures) in
    let is : c.get.result.now ≡ f.0.call = call_is_core c.self.inside.calls.slots c.in-Some.key f.0 c.get.result.now f.1 c.get.ensures.call in
    rw (← c.self.view_is, is) (record {
      first = (rw f.2 f.3, rw f.2 refl);
      least = front-is_front (table_of c.self.inside.calls c.self.inside.next_number c.self.inside.next_stamp) c.args.place f.0.call.number.0 f.0.call f.3 f.2;
      empty = tt;
    })
