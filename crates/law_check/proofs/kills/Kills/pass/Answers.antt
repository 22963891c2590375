use Rattle.std.proofs.Common.{refl}
use Rattle.ipc_ids.specs.Tales.{tale}
use Rattle.law_check.proofs.KillSteps.{passed}
use Rattle.law_check.proofs.kills.Kills.pass.Goals as goal

pub returns-clause-knows : goal.returns-clause-knows
returns-clause-knows c =
    λ p knows follows allowed is.
    passed p (tale c.args.entry.now) c.args.self.now _ knows is (c.in_ok-note.ensures.knows p knows.lives follows allowed) refl
