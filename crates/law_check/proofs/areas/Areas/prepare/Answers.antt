use Rattle.law_check.proofs.AreaKept.{knows_prepared}
use Rattle.law_check.proofs.areas.Areas.prepare.Goals as goal

pub returns-in-Wrote : goal.returns-in-Wrote
returns-in-Wrote c = λ p knows. knows_prepared p c.args.self.now c.prepare.new.self c.prepare.ensures.areas c.prepare.ensures.by_store knows
