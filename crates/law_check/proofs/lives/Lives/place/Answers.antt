use Rattle.std.proofs.Common.{refl}
use Rattle.law_check.proofs.Calls.{knows_at_place}
use Rattle.law_check.proofs.lives.Lives.place.Goals as goal

pub returns-in-Some-clause-knows : goal.returns-in-Some-clause-knows
returns-in-Some-clause-knows c =
    λ p w knows m. knows_at_place p c.args.call w c.args.place c.in-Some.known c.args.self.now c.put.new.self knows c.in-Some.ensures.life (c.in-Some.ensures.live refl) m c.put.ensures
