use Rattle.ipc_ids.specs.Tales.{tales}
use Rattle.law_check.proofs.Passing.{kills_taken}
use Rattle.law_check.proofs.kills.Kills.go_on.Goals as goal

pub returns-then-holds-clause-stand : goal.returns-then-holds-clause-stand
returns-then-holds-clause-stand c =
    λ p stand follows allowed.
    kills_taken p c.args.entry.now c.args.holds c.args.self.now c.take.new.self c.take.result stand c.if-holds.true
    (λ knows. c.take.ensures.takes (tales p) knows follows allowed) (λ knows. c.take.ensures.lives (tales p) knows follows allowed)
