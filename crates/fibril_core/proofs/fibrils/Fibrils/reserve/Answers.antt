use Rattle.std.proofs.Common.{rules, ◌≡◌, ◌≤◌, length, arith}
use Rattle.std.specs.VecDeque.{deque_len}
use Rattle.fibril_core.specs.LiveFibrils.{is_live, count}
use Rattle.fibril_core.proofs.Queues.{ready_few, waiting_few}
use Rattle.fibril_core.proofs.fibrils.Fibrils.reserve.Goals as goal

pub reserve_places-requires-clause-ready : goal.reserve_places-requires-clause-ready
reserve_places-requires-clause-ready c =
    let i = c.self.inside in
    let few : length i.ready.items ≤ count is_live i.live.order.fibrils = ready_few i.live.order i.ready.items i.waiting.items _ c.self.invariant in
    let same : length i.ready.items ≡ deque_len i.ready = search rules in
    let live = c.len.ensures.value in omega arith

pub reserve_places-requires-clause-waiting : goal.reserve_places-requires-clause-waiting
reserve_places-requires-clause-waiting c =
    let i = c.self.inside in
    let few : length i.waiting.items ≤ count is_live i.live.order.fibrils = waiting_few i.live.order i.ready.items i.waiting.items _ c.self.invariant in
    let same : length i.waiting.items ≡ deque_len i.waiting = search rules in
    let live = c.len.ensures.value in omega arith
