-- What the contexts end as, where a `&mut` to one of them is returned.
use Rattle.std.specs.Prelude.{ℕ, Option}
use Rattle.std.specs.Borrow.{LendsIf, Fml, MutBor}
use Rattle.async_task.specs.declared.context.Context.{Context}
use Rattle.async_task.specs.Kept.{ContextsState, with_kept}
use Rattle.async_task.specs.contracts.contexts.Contexts.{the_row}
use Rattle.async_task.specs.contracts.context.Context as context

-- what is written to the borrowed context is what stands at its place in the end
abbrev pub lends_context : MutBor ContextsState → ℕ → Option (MutBor Context) → Fml
lends_context contexts place lent =
    LendsIf the_row context.the_row contexts lent (with_kept contexts.now place) contexts.now
