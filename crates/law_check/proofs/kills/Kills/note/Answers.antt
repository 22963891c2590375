use Rattle.ipc_ids.specs.Tales.{tale}
use Rattle.law_check.proofs.KillSteps.{knows_after_note}
use Rattle.law_check.proofs.kills.Kills.note.Goals as goal

pub returns-clause-knows : goal.returns-clause-knows
returns-clause-knows c =
    λ p knows follows allowed is.
    knows_after_note p c.args.call (tale c.args.entry.now) c.args.self.now _ knows is allowed
    (c.in_ok-note.ensures.knows p (rw (c.come.ensures.lives) knows.lives) follows allowed)
    c.in_ok-come.ensures.since
