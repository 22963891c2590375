use Rattle.std.proofs.Common.{rules, ◌≡◌, ◌<◌, length, refl, ap, sym, ◌∙◌, subst, arith}
use Rattle.std.specs.Prelude.{min, IsSome}
use Rattle.std.specs.VecDeque.{deque_len, deque_capacity}
use Rattle.fibril_core.specs.declared.fibrils.Status.TheVariants.{Ready}
use Rattle.fibril_core.specs.Fibrils.{FibrilsState, why_of}
use Rattle.fibril_core.proofs.Live.{blocked_goes_on}
use Rattle.fibril_core.proofs.Queues.{queue_wake, wake_room, spare_stamped}
use Rattle.fibril_core.proofs.fibrils.Fibrils.make_ready.Goals as goal

pub push_back_reserved-requires : goal.push_back_reserved-requires
push_back_reserved-requires c =
    let blocked = subst (λ (s : FibrilsState). IsSome (why_of s.order c.args.f)) (sym c.self.view_is) c.requires.blocked in
    let i = c.self.inside in
    let less : length i.ready.items < min (deque_capacity i.ready) (deque_capacity i.waiting) = wake_room i.live.order c.args.f _ _ _ c.self.invariant blocked in
    let same : length i.ready.items ≡ deque_len i.ready = search rules in omega arith

pub invariant_of-self : goal.invariant_of-self
invariant_of-self c =
    let blocked = subst (λ (s : FibrilsState). IsSome (why_of s.order c.args.f)) (sym c.self.view_is) c.requires.blocked in
    rw (c.stamp.ensures.order, c.push_back_reserved.ensures.items, c.push_back_reserved.ensures.capacity, c.leave.ensures.capacity)
    (queue_wake c.self.inside.live.order c.args.f _ _ _ _ c.self.invariant blocked c.leave.ensures.queue)

pub returns-clause-spare : goal.returns-clause-spare
returns-clause-spare c =
    let blocked = subst (λ (s : FibrilsState). IsSome (why_of s.order c.args.f)) (sym c.self.view_is) c.requires.blocked in
    let same : min (deque_capacity c.push_back_reserved.new.self) (deque_capacity c.leave.new.waiting) ≡ min (deque_capacity c.self.inside.ready) (deque_capacity c.self.inside.waiting) = rw (c.push_back_reserved.ensures.capacity, c.leave.ensures.capacity) refl in
    spare_stamped c.self.inside.live c.stamp.new.self c.args.f Ready _ _ (blocked_goes_on c.self.inside.live.order c.args.f blocked) refl c.stamp.ensures.order c.stamp.ensures.spare same
    ∙ ap (λ (s : FibrilsState). s.spare) c.self.view_is
