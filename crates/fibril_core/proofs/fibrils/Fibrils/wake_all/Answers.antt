use Rattle.std.proofs.Common.{◌≡◌, ◌≤◌, length, None, ap, sym, ◌∙◌, subst, arith}
use Rattle.std.specs.Prelude.{IsSome}
use Rattle.fibril_core.specs.Fibrils.{FibrilsState, first_blocked, why_of}
use Rattle.fibril_core.proofs.Queues.{found_blocked}
use Rattle.fibril_core.proofs.Waking.{wakes_end}
use Rattle.fibril_core.proofs.fibrils.Fibrils.wake_all.Goals as goal

pub make_ready-requires-clause-blocked : goal.make_ready-requires-clause-blocked
make_ready-requires-clause-blocked c =
    subst (λ (s : FibrilsState). IsSome (why_of s.order c.in-Some.f)) c.self-in-loop.view_is
    (found_blocked c.self-in-loop.inside.live.order c.args.why c.in-Some.f c.self-in-loop.invariant.sound (sym c.first_on.ensures ∙ c.in-Some.is))

pub returns-in-None-clause-order : goal.returns-in-None-clause-order
returns-in-None-clause-order c =
    let before = c.args.self.now.order in
    let none : first_blocked c.loop.self.order c.args.why ≡ None = ap (λ (s : FibrilsState). first_blocked s.order c.args.why) (sym c.self-in-loop.view_is) ∙ sym c.first_on.ensures ∙ c.in-None.is in
    let made = c.made-end.ensures ∙ ap (λ (s : FibrilsState). length s.order.fibrils) c.self.view_is in
    let few : c.loop.counter ≤ length before.fibrils = grind (arith, c.loop.auto.counter-end, made) in
    c.loop.invariant.order ∙ sym (wakes_end c.loop.counter (length before.fibrils) before c.args.why few (rw (← c.loop.invariant.order) none))
