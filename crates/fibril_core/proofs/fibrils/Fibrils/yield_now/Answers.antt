use Rattle.std.proofs.Common.{◌≡◌, ap, refl, ◌∙◌}
use Rattle.std.specs.Prelude.{min}
use Rattle.std.specs.VecDeque.{deque_capacity}
use Rattle.fibril_core.specs.declared.fibrils.Status.TheVariants.{Ready}
use Rattle.fibril_core.specs.Fibrils.{FibrilsState, yield_now}
use Rattle.fibril_core.proofs.Queues.{front_goes_on, queue_yield, at_front, found_front, no_current, found_none, spare_stamped}
use Rattle.fibril_core.proofs.fibrils.Fibrils.yield_now.Goals as goal

pub stamp-requires-clause-goes_on : goal.stamp-requires-clause-goes_on
stamp-requires-clause-goes_on c = front_goes_on _ c.in-Some.present _ _ _ (at_front _ _ _ _ _ _ c.self.invariant c.in-Some.ensures.items)

pub invariant_of-self : goal.invariant_of-self
invariant_of-self c =
    rw (c.stamp.ensures.order, c.push_back_reserved.ensures.items, c.push_back_reserved.ensures.capacity, c.pop_front.ensures.capacity)
    (queue_yield _ c.in-Some.present _ _ _ (at_front _ _ _ _ _ _ c.self.invariant c.in-Some.ensures.items))

pub returns-in-Some-clause-order : goal.returns-in-Some-clause-order
returns-in-Some-clause-order c =
    let queued = at_front c.self.inside.live.order c.self.inside.ready.items _ c.in-Some.present c.pop_front.new.self.items _ c.self.invariant c.in-Some.ensures.items in
    c.stamp.ensures.order ∙ found_front _ Ready c.in-Some.present _ _ _ queued
    ∙ ap (λ (s : FibrilsState). yield_now s.order) c.self.view_is

pub returns-in-Some-clause-spare : goal.returns-in-Some-clause-spare
returns-in-Some-clause-spare c =
    let queued = at_front c.self.inside.live.order c.self.inside.ready.items _ c.in-Some.present c.pop_front.new.self.items _ c.self.invariant c.in-Some.ensures.items in
    let goes = front_goes_on _ c.in-Some.present _ _ _ queued in
    let same : min (deque_capacity c.push_back_reserved.new.self) (deque_capacity c.self.inside.waiting) ≡ min (deque_capacity c.self.inside.ready) (deque_capacity c.self.inside.waiting) = rw (c.push_back_reserved.ensures.capacity, c.pop_front.ensures.capacity) refl in
    spare_stamped c.self.inside.live c.stamp.new.self c.in-Some.present Ready _ _ goes refl c.stamp.ensures.order c.stamp.ensures.spare same
    ∙ ap (λ (s : FibrilsState). s.spare) c.self.view_is

pub returns-in_default-clause-order : goal.returns-in_default-clause-order
returns-in_default-clause-order c =
    let none = no_current c.self.inside.live.order _ _ _ _ c.self.invariant c.in_default.ensures.items c.in_default.ensures.rest in
    found_none c.self.inside.live.order Ready none
    ∙ ap (λ (s : FibrilsState). yield_now s.order) c.self.view_is
