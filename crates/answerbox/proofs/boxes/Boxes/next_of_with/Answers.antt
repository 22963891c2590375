use Rattle.std.proofs.Common.{◌≡◌, refl, sym, ap, ◌∙◌}
use Rattle.answerbox.specs.declared.chains.Chain.TheVariants.{Own}
use Rattle.answerbox.specs.Chain.{next_link}
use Rattle.answerbox.proofs.Finding.{next_live, next_empty, next_found}
use Rattle.answerbox.proofs.Moving.{call_is_core}
use Rattle.answerbox.proofs.Names.{live_key}
use Rattle.answerbox.proofs.boxes.Boxes.next_of_with.Goals as goal

pub unwrap-key-requires : goal.unwrap-key-requires
unwrap-key-requires g c = rw c.key_of.ensures.key (live_key c.self.inside.calls c.args.call.0 c.self.invariant.0.named (rw (← c.self.view_is) at c.requires.live))

pub get-requires : goal.get-requires
get-requires g c = record { live = next_live c.self.inside.calls c.self.inside.queues.items c.self.inside.owns.items c.self.inside.next_number c.self.inside.next_stamp c.args.call.0 c.unwrap-key.result c.self.invariant.0 (sym c.key_of.ensures.key ∙ c.unwrap-key.ensures) (rw (← c.self.view_is) at c.requires.caller) c.in-Some.next (sym (ap (next_link Own) c.links-links.ensures.links) ∙ sym c.in-Some.ensures) }

pub returns : goal.returns
returns g c = rw (← c.self.view_is) (next_empty c.self.inside.calls c.self.inside.queues.items c.self.inside.owns.items c.self.inside.next_number c.self.inside.next_stamp c.args.call.0 c.unwrap-key.result c.self.invariant.0 (sym c.key_of.ensures.key ∙ c.unwrap-key.ensures) (rw (← c.self.view_is) at c.requires.caller) (sym (ap (next_link Own) c.links-links.ensures.links) ∙ sym c.in-None.ensures))

pub returns-in-Some : goal.returns-in-Some
returns-in-Some g c =
    let f = next_found c.self.inside.calls c.self.inside.queues.items c.self.inside.owns.items c.self.inside.next_number c.self.inside.next_stamp c.args.call.0 c.unwrap-key.result c.self.invariant.0 (sym c.key_of.ensures.key ∙ c.unwrap-key.ensures) (rw (← c.self.view_is) at c.requires.caller) c.in-Some.next (sym (ap (next_link Own) c.links-links.ensures.links) ∙ sym c.in-Some.ensures) in
    let is : c.get.result.now ≡ f.0.call = call_is_core c.self.inside.calls.slots c.in-Some.next f.0 c.get.result.now f.1 c.get.ensures.call in
    rw (← c.self.view_is, is) (rw f.2 f.3, rw f.2 refl)
