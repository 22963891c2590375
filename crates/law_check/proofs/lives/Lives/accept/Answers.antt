use Rattle.std.proofs.Common.{refl}
use Rattle.law_check.specs.declared.lives.Place.TheVariants.{Incoming, Back}
use Rattle.law_check.proofs.Calls.{knows_accepted}
use Rattle.ipc_ids.specs.Tales.{To, At_once}
use Rattle.ipc_ids.proofs.Common.{then_on_ok}
use Rattle.law_check.proofs.lives.Lives.accept.Goals as goal

pub returns-in-Some-clause-knows : goal.returns-in-Some-clause-knows
returns-in-Some-clause-knows c =
    let a = c.args in
    λ p n phone method knows next now. rw (c.in-Some.is) (then_on_ok c.push.result c.push.ensures.pushes
    (λ pushes. knows_accepted p n a.caller phone method (To c.in-Some.to.0) (Incoming c.in-Some.to.0) a.self.now c.push.new.self knows now next refl pushes))

pub returns-in-None-clause-knows : goal.returns-in-None-clause-knows
returns-in-None-clause-knows c =
    let a = c.args in
    λ p n phone method knows next now. rw (c.in-None.is) (then_on_ok c.push-in-None.result c.push-in-None.ensures.pushes
    (λ pushes. knows_accepted p n a.caller phone method At_once Back a.self.now c.push-in-None.new.self knows now next refl pushes))
