use Rattle.std.proofs.Common.{◌∷◌}
use Rattle.ipc_ids.specs.Tales.{tales}
use Rattle.law_check.proofs.Passing.{knows_lives}
use Rattle.law_check.proofs.Judging.{stands_open, judges_open, stands_next}
use Rattle.law_check.proofs.verdict.Laws.take.Goals as goal

pub returns-clause-judges : goal.returns-clause-judges
returns-clause-judges c =
    let old = c.args.self.now in
    let e = c.args.entry.now in
    λ p judges now last.
    let stand = stands_open p old old.lives_hold judges c.if-not-self.false in
    let may = (c.allows.ensures (tales p) (knows_lives p old.kills_hold old.kills stand.kills)).0 c.if-not-allows.false in
    judges_open (e ∷ p) _ c.if-not-self.false
    (stands_next p e old _ stand may.0 may.1 (c.in_ok-self.ensures.stand p stand.kills may.0 may.1)
    (c.in_ok-self-2.ensures p stand.areas now last stand.was may.1))
