use Rattle.std.proofs.Common.{◌+◌, refl}
use Rattle.ipc_ids.specs.declared.message.Event.TheVariants.{Step}
use Rattle.hipc_search.specs.Moves.{is_living, step_by}
use Rattle.hipc_search.proofs.Steps.{one_more}
use Rattle.hipc_search.proofs.moves.push_living.Goals as goal

pub loop-place-preserved : goal.loop-place-preserved
loop-place-preserved c =
    one_more step_by (is_living c.args.first.now c.args.later.now) c.loop-place.place c.args.events.now.items
    c.loop-place.events.items c.push_chosen.new.events.items c.is_living-living.result
    (Step (record { 0 = c.loop-place.place + 1 })) c.loop-place.invariant c.is_living-living.ensures refl
    c.in_ok-push_chosen.ensures
