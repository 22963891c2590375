use Rattle.std.proofs.Common.{List, [], ◌∷◌, ◌++◌, take, sym, ap, ◌∙◌}
use Rattle.std.proofs.lemmas.List.{take_more}
use Rattle.ipc_ids.specs.declared.op.Op.{Op}
use Rattle.ipc_ids.specs.declared.op.Body.{Body}
use Rattle.async_task.proofs.program.copies_of.Goals as goal

pub loop-body-preserved : goal.loop-body-preserved
loop-body-preserved c =
    let bodies = c.args.bodies.now in
    let i = c.loop-body.body-index in
    let body = c.body-item.result in
    c.in_ok-push.ensures.ok
    ∙ ap (λ (copies : List Body). copies ++ record { connection = body.connection; ops = c.in_ok-ops.ops } ∷ [])
    c.loop-body.invariant
    ∙ ap (λ (ops : List Op). take i bodies ++ record { connection = body.connection; ops = ops } ∷ [])
    (c.in_ok-ops.ensures ∙ c.as_slice.ensures)
    ∙ ap (λ (copy : Body). take i bodies ++ copy ∷ []) c.body-item.is
    ∙ sym (take_more bodies i body c.loop-body-test.true)
