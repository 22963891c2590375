use Rattle.std.proofs.Common.{ap, ◌∙◌}
use Rattle.law_check.specs.Held.{over_store}
use Rattle.law_check.proofs.Pairs.{none_taken, one_taken}
use Rattle.law_check.proofs.held.take_out.Goals as goal

pub returns-in-Some-clause-placed : goal.returns-in-Some-clause-placed
returns-in-Some-clause-placed c =
    let a = c.args in
    λ h. one_taken a.stores.now.areas c.remove.new.self.areas a.task a.base c.in-Some.area c.remove.ensures.areas
    (λ s. h s ∙ ap (over_store s) c.in-Some.is)

pub returns-in_default-clause-placed : goal.returns-in_default-clause-placed
returns-in_default-clause-placed c = λ h. none_taken c.args.stores.now.areas c.args.task c.args.base (λ s. h s ∙ ap (over_store s) c.in_default.is)
