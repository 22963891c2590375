use Rattle.std.proofs.Common.{rules, ◌≡◌, ◌<◌, length, ap, refl, sym, ◌∙◌, arith}
use Rattle.std.specs.Prelude.{min}
use Rattle.std.specs.VecDeque.{deque_len, deque_capacity}
use Rattle.fibril_core.specs.declared.fibrils.Status.TheVariants.{Blocked}
use Rattle.fibril_core.specs.Fibrils.{FibrilsState, block_on}
use Rattle.fibril_core.proofs.Queues.{front_goes_on, queue_wait, queue_block, wait_room, at_front, found_front, no_current, found_none, spare_stamped}
use Rattle.fibril_core.proofs.fibrils.Fibrils.block_on.Goals as goal

pub stamp-requires-clause-goes_on : goal.stamp-requires-clause-goes_on
stamp-requires-clause-goes_on c = front_goes_on _ c.in-Some.present _ _ _ (at_front _ _ _ _ _ _ c.self.invariant c.in-Some.ensures.items)

pub push_back_reserved-requires : goal.push_back_reserved-requires
push_back_reserved-requires c =
    let i = c.self.inside in
    let less : length i.waiting.items < min (deque_capacity i.ready) (deque_capacity i.waiting) = wait_room i.live.order c.in-Some.present _ i.waiting.items _ (at_front _ _ _ _ _ _ c.self.invariant c.in-Some.ensures.items) in
    let same : length i.waiting.items ≡ deque_len i.waiting = search rules in omega arith

pub invariant_of-self : goal.invariant_of-self
invariant_of-self c =
    rw (c.stamp.ensures.order, c.push_back_reserved.ensures.items, c.push_back_reserved.ensures.capacity, c.pop_front.ensures.capacity)
    (queue_wait _ c.in-Some.present _ _ _ c.args.why (sym c.waits.ensures ∙ c.if-waits.true) (at_front _ _ _ _ _ _ c.self.invariant c.in-Some.ensures.items))

pub invariant_of-self-else-waits : goal.invariant_of-self-else-waits
invariant_of-self-else-waits c =
    rw (c.stamp.ensures.order, c.pop_front.ensures.capacity)
    (queue_block _ c.in-Some.present _ _ _ c.args.why (sym c.waits.ensures ∙ c.if-waits.false) (at_front _ _ _ _ _ _ c.self.invariant c.in-Some.ensures.items))

pub returns-then-waits-clause-order : goal.returns-then-waits-clause-order
returns-then-waits-clause-order c =
    let queued = at_front c.self.inside.live.order c.self.inside.ready.items _ c.in-Some.present c.pop_front.new.self.items _ c.self.invariant c.in-Some.ensures.items in
    c.stamp.ensures.order ∙ found_front _ (Blocked c.args.why) c.in-Some.present _ _ _ queued
    ∙ ap (λ (s : FibrilsState). block_on s.order c.args.why) c.self.view_is

pub returns-else-waits-clause-order : goal.returns-else-waits-clause-order
returns-else-waits-clause-order c =
    let queued = at_front c.self.inside.live.order c.self.inside.ready.items _ c.in-Some.present c.pop_front.new.self.items _ c.self.invariant c.in-Some.ensures.items in
    c.stamp.ensures.order ∙ found_front _ (Blocked c.args.why) c.in-Some.present _ _ _ queued
    ∙ ap (λ (s : FibrilsState). block_on s.order c.args.why) c.self.view_is

pub returns-then-waits-clause-spare : goal.returns-then-waits-clause-spare
returns-then-waits-clause-spare c =
    let queued = at_front c.self.inside.live.order c.self.inside.ready.items _ c.in-Some.present c.pop_front.new.self.items _ c.self.invariant c.in-Some.ensures.items in
    let goes = front_goes_on _ c.in-Some.present _ _ _ queued in
    let same : min (deque_capacity c.pop_front.new.self) (deque_capacity c.push_back_reserved.new.self) ≡ min (deque_capacity c.self.inside.ready) (deque_capacity c.self.inside.waiting) = rw (c.push_back_reserved.ensures.capacity, c.pop_front.ensures.capacity) refl in
    spare_stamped c.self.inside.live c.stamp.new.self c.in-Some.present (Blocked c.args.why) _ _ goes refl c.stamp.ensures.order c.stamp.ensures.spare same
    ∙ ap (λ (s : FibrilsState). s.spare) c.self.view_is

pub returns-else-waits-clause-spare : goal.returns-else-waits-clause-spare
returns-else-waits-clause-spare c =
    let queued = at_front c.self.inside.live.order c.self.inside.ready.items _ c.in-Some.present c.pop_front.new.self.items _ c.self.invariant c.in-Some.ensures.items in
    let goes = front_goes_on _ c.in-Some.present _ _ _ queued in
    let same : min (deque_capacity c.pop_front.new.self) (deque_capacity c.self.inside.waiting) ≡ min (deque_capacity c.self.inside.ready) (deque_capacity c.self.inside.waiting) = rw c.pop_front.ensures.capacity refl in
    spare_stamped c.self.inside.live c.stamp.new.self c.in-Some.present (Blocked c.args.why) _ _ goes refl c.stamp.ensures.order c.stamp.ensures.spare same
    ∙ ap (λ (s : FibrilsState). s.spare) c.self.view_is

pub returns-in_default-clause-order : goal.returns-in_default-clause-order
returns-in_default-clause-order c =
    let none = no_current c.self.inside.live.order _ _ _ _ c.self.invariant c.in_default.ensures.items c.in_default.ensures.rest in
    found_none c.self.inside.live.order (Blocked c.args.why) none
    ∙ ap (λ (s : FibrilsState). block_on s.order c.args.why) c.self.view_is
