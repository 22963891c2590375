use Rattle.std.proofs.Common.{ap, ◌∙◌}
use Rattle.async_task.specs.Contexts.{after_refused}
use Rattle.async_task.specs.AsyncState.{AsyncState, context_or_new, with_context}
use Rattle.async_task.proofs.Kept.{refused_begin}
use Rattle.async_task.proofs.machine.Machine.refuse_begin.Goals as goal

pub returns : goal.returns
returns c = record {
  state =
      c.refuse_op.ensures.state
      ∙ ap (λ (a : AsyncState). with_context a c.args.f
      (after_refused (context_or_new a c.args.f) c.args.code)) c.short_at.ensures.state
      ∙ refused_begin c.args.self.now.state c.args.f c.args.code;
  entries = rw c.short_at.ensures.state at c.refuse_op.ensures.entries;
}
