use Rattle.std.proofs.Common.{rules, ◌≡◌, length, refl, ap, sym, subst}
use Rattle.std.specs.VecDeque.{deque_len}
use Rattle.fibril_core.specs.declared.fibrils.Fibril.{Fibril}
use Rattle.fibril_core.specs.Fibrils.{FibrilOrder, FibrilsState, fibril_at}
use Rattle.fibril_core.specs.LiveFibrils.{GoesOn, all_of}
use Rattle.fibril_core.proofs.Live.{live_rise, place_within, set_at_place, found_somewhere}
use Rattle.fibril_core.proofs.Rebuilt.{stamp_gives}
use Rattle.fibril_core.proofs.live_fibrils.LiveFibrils.stamp.Goals as goal

pub place_of-requires : goal.place_of-requires
place_of-requires c = record { rise = live_rise c.self.inside.fibrils.items _ c.self.invariant }

pub index_mut-requires : goal.index_mut-requires
index_mut-requires c =
    let same : length c.self.inside.fibrils.items ≡ deque_len c.self.inside.fibrils = search rules in
    rw (← same) (place_within c.self.inside.fibrils.items c.in-Some.i c.args.f c.in-Some.ensures.found)

pub invariant_of-self : goal.invariant_of-self
invariant_of-self c =
    let live = c.self.inside.fibrils.items in
    let made = c.self.inside.made in
    let o : FibrilOrder = record { fibrils = all_of made live; next_stamp = c.self.inside.next_stamp } in
    let y : Fibril = record { number = c.args.f; status = c.args.status; stamp = c.self.inside.next_stamp } in
    let goes : GoesOn (fibril_at o c.args.f.0) = subst (λ (p : FibrilOrder). GoesOn (fibril_at p c.args.f.0)) (sym (ap (λ (s : FibrilsState). s.order) c.self.view_is)) c.requires.goes_on in
    rw (set_at_place live (all_of made live) c.in-Some.i y c.self.invariant c.in-Some.ensures.found)
    (stamp_gives made live y c.self.inside.next_stamp c.self.invariant goes c.requires.status).are

pub returns-in-Some-clause-order : goal.returns-in-Some-clause-order
returns-in-Some-clause-order c =
    let live = c.self.inside.fibrils.items in
    let made = c.self.inside.made in
    let o : FibrilOrder = record { fibrils = all_of made live; next_stamp = c.self.inside.next_stamp } in
    let y : Fibril = record { number = c.args.f; status = c.args.status; stamp = c.self.inside.next_stamp } in
    let goes : GoesOn (fibril_at o c.args.f.0) = subst (λ (p : FibrilOrder). GoesOn (fibril_at p c.args.f.0)) (sym (ap (λ (s : FibrilsState). s.order) c.self.view_is)) c.requires.goes_on in
    let set = set_at_place live (all_of made live) c.in-Some.i y c.self.invariant c.in-Some.ensures.found in
    rw (set, (stamp_gives made live y c.self.inside.next_stamp c.self.invariant goes c.requires.status).all, ← ap (λ (s : FibrilsState). s.order) c.self.view_is) refl

pub returns-in_default-clause-order : goal.returns-in_default-clause-order
returns-in_default-clause-order c =
    let live = c.self.inside.fibrils.items in
    let o : FibrilOrder = record { fibrils = all_of c.self.inside.made live; next_stamp = c.self.inside.next_stamp } in
    let goes : GoesOn (fibril_at o c.args.f.0) = subst (λ (p : FibrilOrder). GoesOn (fibril_at p c.args.f.0)) (sym (ap (λ (s : FibrilsState). s.order) c.self.view_is)) c.requires.goes_on in
    absurd (found_somewhere live o c.args.f c.self.invariant goes c.in_default.ensures.none)
