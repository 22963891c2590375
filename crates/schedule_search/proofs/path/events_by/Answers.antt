use Rattle.std.proofs.Common.{◌<◌, ℕ, length, get_or, refl}
use Rattle.schedule_search.proofs.Paths.{move_within, read_at, event_more}
use Rattle.schedule_search.proofs.path.events_by.Goals as goal

pub bounds-moves-m : goal.bounds-moves-m
bounds-moves-m c = move_within (length c.args.moves.now) c.args.path.now c.loop-m.m-index 0 c.requires c.loop-m-test.true

pub loop-m-preserved : goal.loop-m-preserved
loop-m-preserved c =
    let i : ℕ = c.loop-m.m-index in
    let m : ℕ = get_or c.args.path.now i 0 in
    let within : m < length c.args.moves.now = move_within (length c.args.moves.now) c.args.path.now i 0 c.requires c.loop-m-test.true in
    event_more c.args.moves.now c.args.path.now i 0 c.loop-m.events.items c.push.new.self.items _ c.loop-m-test.true c.loop-m.invariant
    (read_at c.args.moves.now m _ _ within refl) c.in_ok-push.ensures.items
