use Rattle.std.proofs.Common.{◌≡◌, List, refl, sym, ap, ◌∙◌}
use Rattle.answerbox.specs.declared.chains.Ends.{Ends}
use Rattle.answerbox.specs.Chain.{first_of}
use Rattle.answerbox.proofs.Finding.{caller_empty, caller_found}
use Rattle.answerbox.proofs.Moving.{call_is_core}
use Rattle.answerbox.proofs.boxes.Boxes.first_of_with.Goals as goal

pub returns : goal.returns
returns g c = rw (← c.self.view_is) (caller_empty c.self.inside.calls c.args.caller 0 c.self.invariant.0.named (rw (ap (λ (es : List Ends). first_of es c.args.caller.0) (sym c.deref.ensures.value) ∙ sym c.in-None.ensures) at (c.self.invariant.0.listed.firsts c.args.caller.0)))

pub returns-in-Some : goal.returns-in-Some
returns-in-Some g c =
    let f = caller_found c.self.inside.calls c.self.inside.owns.items c.self.inside.next_number c.in-Some.key c.args.caller 0 c.self.invariant.0.named c.self.invariant.0.listed (rw (ap (λ (es : List Ends). first_of es c.args.caller.0) (sym c.deref.ensures.value) ∙ sym c.in-Some.ensures) at (c.self.invariant.0.listed.firsts c.args.caller.0)) in
    let is : c.get.result.now ≡ f.0.call = call_is_core c.self.inside.calls.slots c.in-Some.key f.0 c.get.result.now f.1 c.get.ensures.call in
    rw (← c.self.view_is, is) (rw f.2 f.3, rw f.2 refl)
