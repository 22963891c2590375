use Rattle.std.proofs.Common.{◌≡◌, ◌∙◌, List, Option, Some, length, slice_get, sym, ap}
use Rattle.std.specs.Prelude.{nat_lt, is_some}
use Rattle.std.specs.Option.{option_copied}
use Rattle.ipc_ids.specs.declared.op.Body.{Body}
use Rattle.ipc_ids.specs.declared.op.Op.{Op}
use Rattle.async_task.specs.AsyncState.{op_in}
use Rattle.schedule_search.proofs.Copied.{copied_at, some_within}
use Rattle.schedule_search.proofs.holding.goes_on.Goals as goal

pub returns-in-Some : goal.returns-in-Some
returns-in-Some c =
    let there : slice_get c.args.bodies.now c.args.body ≡ Some c.in-Some.body.now =
    sym (copied_at c.args.bodies.now c.args.body c.get.result c.get.ensures.lookup.0 c.get.ensures.lookup.1)
    ∙ ap option_copied c.in-Some.is in
    ap (λ (z : List Op). nat_lt c.args.place (length z)) c.as_slice.ensures
    ∙ some_within c.in-Some.body.now.ops c.args.place
    ∙ ap (λ (z : Option Body). is_some (op_in z c.args.place)) (sym there)
