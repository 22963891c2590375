use Rattle.std.proofs.Common.{◌≡◌, ◌≤◌, ap, refl, sym, ◌∙◌, subst}
use Rattle.std.specs.Prelude.{min}
use Rattle.std.specs.VecDeque.{deque_capacity}
use Rattle.fibril_core.specs.Fibrils.{FibrilsState, end_current}
use Rattle.fibril_core.specs.LiveFibrils.{spare_of}
use Rattle.fibril_core.proofs.Queues.{front_goes_on, queue_end, at_front, end_named, end_none, no_current, spare_ended}
use Rattle.fibril_core.proofs.fibrils.Fibrils.end_current.Goals as goal

pub end-requires : goal.end-requires
end-requires c = record { goes_on = front_goes_on _ c.in-Some.present _ _ _ (at_front _ _ _ _ _ _ c.self.invariant c.in-Some.ensures.items) }

pub invariant_of-self : goal.invariant_of-self
invariant_of-self c =
    rw (c.end.ensures.order, c.pop_front.ensures.capacity)
    (queue_end _ c.in-Some.present _ _ _ (at_front _ _ _ _ _ _ c.self.invariant c.in-Some.ensures.items))

pub returns-in-Some-clause-order : goal.returns-in-Some-clause-order
returns-in-Some-clause-order c =
    let queued = at_front c.self.inside.live.order c.self.inside.ready.items _ c.in-Some.present c.pop_front.new.self.items _ c.self.invariant c.in-Some.ensures.items in
    c.end.ensures.order ∙ sym (end_named _ c.in-Some.present _ _ _ queued)
    ∙ ap (λ (s : FibrilsState). end_current s.order) c.self.view_is

pub returns-in-Some-clause-spare : goal.returns-in-Some-clause-spare
returns-in-Some-clause-spare c =
    let queued = at_front c.self.inside.live.order c.self.inside.ready.items _ c.in-Some.present c.pop_front.new.self.items _ c.self.invariant c.in-Some.ensures.items in
    let held = min (deque_capacity c.pop_front.new.self) (deque_capacity c.self.inside.waiting) in
    let same : held ≡ min (deque_capacity c.self.inside.ready) (deque_capacity c.self.inside.waiting) = rw c.pop_front.ensures.capacity refl in
    subst (λ (s : FibrilsState). s.spare ≤ spare_of c.end.new.self held) c.self.view_is
    (spare_ended c.self.inside.live c.end.new.self c.in-Some.present _ _ _ _ queued c.end.ensures.order c.end.ensures.spare same)

pub returns-in_default-clause-order : goal.returns-in_default-clause-order
returns-in_default-clause-order c =
    let none = no_current c.self.inside.live.order _ _ _ _ c.self.invariant c.in_default.ensures.items c.in_default.ensures.rest in
    end_none c.self.inside.live.order none
    ∙ ap (λ (s : FibrilsState). end_current s.order) c.self.view_is
