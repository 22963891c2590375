use Rattle.std.proofs.Common.{sym, ◌∙◌, subst}
use Rattle.std.specs.Prelude.{IsSome}
use Rattle.ipc_ids.specs.declared.message.Why.TheVariants as why
use Rattle.fibril_core.specs.Fibrils.{FibrilsState, why_of}
use Rattle.fibril_core.proofs.Queues.{found_blocked}
use Rattle.fibril_core.proofs.fibrils.Fibrils.wake_answer.Goals as goal

pub make_ready-requires-clause-blocked : goal.make_ready-requires-clause-blocked
make_ready-requires-clause-blocked c =
    subst (λ (s : FibrilsState). IsSome (why_of s.order c.in-Some.f)) c.self.view_is
    (found_blocked c.self.inside.live.order (why.Answer c.args.call) c.in-Some.f c.self.invariant.sound (sym c.first-first.ensures ∙ c.in-Some.is))
