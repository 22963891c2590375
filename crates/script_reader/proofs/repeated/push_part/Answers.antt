use Rattle.std.proofs.Common.{rules, ◌≡◌, ◌≤◌, ◌-◌, ◌∷◌, [], ◌++◌, List, length, refl, ap, ◌∙◌}
use Rattle.script_reader.specs.declared.repeated.Repeated.{Repeated}
use Rattle.script_reader.proofs.Repeats.{pushed, lent_back}
use Rattle.script_reader.proofs.repeated.push_part.Goals as goal

pub returns-clause-more : goal.returns-clause-more
returns-clause-more c =
    let old = c.args.parts.now.items in
    let new = c.push_reserved.new.self.items in
    let kept : c.lengthen.new.parts ≡ old = c.if-lengthen.ensures.unchanged refl ∙ c.deref_mut.ensures.value in
    let len : c.args.parts.now.len ≡ length old = search rules in
    let is : new ≡ old ++ record { event = c.args.event; more = c.args.times - 1 } ∷ [] = c.push_reserved.ensures.items ∙ ap (λ (l : List Repeated). l ++ record { event = c.args.event; more = c.args.times - 1 } ∷ []) (c.in_ok-make_room.ensures.unchanged ∙ lent_back c.args.parts.now.len old c.lengthen.new.parts kept len) in
    let some : 1 ≤ c.args.times = search rules in
    pushed old new c.args.event c.args.times some is
