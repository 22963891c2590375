use Rattle.std.proofs.Common.{List, Option, length, sym, ap, ◌∙◌}
use Rattle.ipc_ids.specs.declared.numbers.ExchangeNo.{ExchangeNo}
use Rattle.async_task.proofs.Named.{length_names}
use Rattle.async_task.proofs.handles.Handles.count.Goals as goal

pub returns : goal.returns
returns c =
    ap (λ (numbers : List ExchangeNo). length numbers) c.as_slice.ensures
    ∙ sym (length_names c.self.inside.numbers c.self.inside.named (c.self.invariant ∙ sym c.self.told))
    ∙ ap (λ (names : List (Option ExchangeNo)). length names) c.self.view_is
