use Rattle.std.proofs.Common.{◌+◌, refl}
use Rattle.ipc_ids.specs.declared.message.Event.TheVariants.{Kill}
use Rattle.hipc_search.specs.Moves.{is_killed, kill_of}
use Rattle.hipc_search.proofs.Steps.{one_more}
use Rattle.hipc_search.proofs.moves.push_kills.Goals as goal

pub loop-place-preserved : goal.loop-place-preserved
loop-place-preserved c =
    one_more kill_of (is_killed c.args.killed.now) c.loop-place.place c.args.events.now.items
    c.loop-place.events.items c.push_chosen.new.events.items c.is_killed-chosen.result
    (Kill (record { 0 = c.loop-place.place + 1 })) c.loop-place.invariant c.is_killed-chosen.ensures refl
    c.in_ok-push_chosen.ensures
