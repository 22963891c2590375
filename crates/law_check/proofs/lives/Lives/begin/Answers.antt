use Rattle.std.proofs.Common.{refl}
use Rattle.law_check.specs.Lives.{kills}
use Rattle.law_check.proofs.Calls.{knows_begun}
use Rattle.law_check.proofs.lives.Lives.begin.Goals as goal

pub returns-clause-knows : goal.returns-clause-knows
returns-clause-knows c =
    λ p e knows here of.
    knows_begun p e c.args.task c.args.event c.args.self.now c.name.new.self _ knows here of
    (rw (← c.is_kill.ensures) c.in_ok-name.ensures.names) c.name.ensures.events refl refl refl refl refl refl
