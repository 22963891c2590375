use Rattle.std.proofs.Common.{Some, ap, sym, ◌∙◌}
use Rattle.async_task.proofs.Rising.{find_none, find_there}
use Rattle.async_task.proofs.awaited.AwaitedCalls.awaiting.Goals as goal

pub returns-in-Some : goal.returns-in-Some
returns-in-Some c =
    let i = c.self.inside in
    let there = c.in-Some.ensures in
    rw (← c.self.view_is)
    (ap Some c.index.ensures ∙ sym (find_there (λ w. w.call.0) i.calls.items c.args.call.0 c.in-Some.i _
    (c.self.invariant c.if-not-self.false) there.0 there.1))

pub returns-in-None : goal.returns-in-None
returns-in-None c =
    rw (← c.self.view_is)
    (sym (find_none (λ w. w.call.0) c.self.inside.calls.items c.args.call.0 c.in-None.ensures))
