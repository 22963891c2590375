use Rattle.std.proofs.Common.{List, [], ◌∷◌, ◌++◌, take, sym, ap, ◌∙◌}
use Rattle.std.proofs.lemmas.List.{take_more}
use Rattle.ipc_ids.specs.declared.op.Op.{Op}
use Rattle.async_task.proofs.program.copies_of_ops.Goals as goal

pub loop-op-preserved : goal.loop-op-preserved
loop-op-preserved c =
    let ops = c.args.ops.now in
    let i = c.loop-op.op-index in
    c.in_ok-push.ensures.ok
    ∙ ap (λ (copies : List Op). copies ++ c.copy.result ∷ []) c.loop-op.invariant
    ∙ ap (λ (op : Op). take i ops ++ op ∷ []) (c.copy.ensures ∙ c.op-item.is)
    ∙ sym (take_more ops i c.op-item.result c.loop-op-test.true)
