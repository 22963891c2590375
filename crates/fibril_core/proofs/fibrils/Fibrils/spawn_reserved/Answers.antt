use Rattle.std.proofs.Common.{rules, ◌≡◌, ◌<◌, ◌≤◌, length, sym, subst, arith}
use Rattle.std.specs.Prelude.{min}
use Rattle.std.specs.VecDeque.{deque_len, deque_capacity}
use Rattle.fibril_core.specs.Fibrils.{FibrilsState}
use Rattle.fibril_core.specs.LiveFibrils.{is_live, count}
use Rattle.fibril_core.proofs.Queues.{ready_few, queue_spawn, spare_room}
use Rattle.fibril_core.proofs.fibrils.Fibrils.spawn_reserved.Goals as goal

pub push_back_reserved-requires : goal.push_back_reserved-requires
push_back_reserved-requires c =
    let i = c.self.inside in
    let room : count is_live i.live.order.fibrils < min (deque_capacity i.ready) (deque_capacity i.waiting) = spare_room i.live _ (subst (λ (s : FibrilsState). 0 < s.spare) (sym c.self.view_is) c.requires.room) in
    let few : length i.ready.items ≤ count is_live i.live.order.fibrils = ready_few i.live.order i.ready.items _ _ c.self.invariant in
    let same : length i.ready.items ≡ deque_len i.ready = search rules in omega arith

pub invariant_of-self : goal.invariant_of-self
invariant_of-self c =
    let i = c.self.inside in
    let room : count is_live i.live.order.fibrils < min (deque_capacity i.ready) (deque_capacity i.waiting) = spare_room i.live _ (subst (λ (s : FibrilsState). 0 < s.spare) (sym c.self.view_is) c.requires.room) in
    rw (c.spawn_reserved-number.ensures.order, c.push_back_reserved.ensures.items, c.push_back_reserved.ensures.capacity, c.spawn_reserved-number.ensures.number)
    (queue_spawn i.live.order i.ready.items _ _ c.self.invariant room)
