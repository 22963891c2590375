use Rattle.std.proofs.lemmas.Result.{on_ok_weaker}
use Rattle.law_check.specs.AreaState.{entry_of}
use Rattle.law_check.proofs.AreaKept.{knows_made}
use Rattle.law_check.proofs.areas.Areas.take.Goals as goal

pub returns-in-Accepted : goal.returns-in-Accepted
returns-in-Accepted c =
    let a = c.args in
    let e = c.in-Accepted in
    let s = c.accept.ensures in
    λ p knows now was allowed.
    rw (e.is) (on_ok_weaker c.accept.result
    (λ made. knows_made p e.call e.from e.method e.to a.self.now c.accept.new.self (entry_of a.now) knows now was (rw (e.is) at allowed) made s.held s.last_store s.wants s.read)
    s.made)
