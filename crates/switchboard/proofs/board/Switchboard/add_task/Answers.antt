use Rattle.std.proofs.Common.{ap, arith, length-append, length}
use Rattle.switchboard.proofs.Switched.{switched_task}
use Rattle.switchboard.proofs.board.Switchboard.add_task.Goals as goal

pub invariant_of-self-2 : goal.invariant_of-self-2
invariant_of-self-2 c =
    let i = c.self.inside in
    let places = c.in_ok-add_place.ensures.places in
    let more = c.in_ok-add_place.ensures.ok in
    let had = c.len.ensures in
    let items = ap length c.reserve.ensures.items in
    let reserved = c.reserve.new.self.ok.0 in
    let areas = c.self.invariant.1.memory in
    rw (c.push_reserved.ensures.items, c.reserve.ensures.items, c.in_ok-add_row.ensures.phones, c.in_ok-add_row.ensures.counts, c.in_ok-add_row.ensures.areas, c.add_place.ensures.calls)
    (switched_task c.args.limit c.add_place.new.boxes.tasks c.self.invariant.0 c.tasks.ensures.counts (omega (arith, places.enough, more, had, items, reserved)), record { calls = record { covers = rw length-append (omega (arith, more, had, items, reserved)); enough = places.enough; no_more = rw length-append (omega (arith, places.no_more, had, items, reserved)) }; memory = rw (length-append, length-append) (omega (arith, areas)) })
