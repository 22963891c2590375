use Rattle.law_check.specs.Lives.{earlier_kill_at}
use Rattle.law_check.proofs.Passing.{all_killed, may_hold}
use Rattle.law_check.proofs.kills.Kills.hold.Goals as goal

pub returns-clause-lawful : goal.returns-clause-lawful
returns-clause-lawful c =
    λ p stand lawful.
    let held = may_hold p c.args.holds c.args.self.now stand c.if-not-holds.false in
    let none = rw (c.end.ensures.calls) at c.none_is_late.ensures in
    let all = all_killed p c.args.self.now (earlier_kill_at c.end.new.self) lawful held.0 held.1 c.end.ensures.kills in
    (λ yes. all.0 (none.0 yes), λ k. none.1 (all.1 k))
