use Rattle.std.proofs.Common.{rules, ◌≡◌, length, ap, sym, subst, refl}
use Rattle.std.specs.VecDeque.{deque_len}
use Rattle.fibril_core.specs.Fibrils.{FibrilOrder, FibrilsState, fibril_at}
use Rattle.fibril_core.specs.LiveFibrils.{GoesOn, all_of}
use Rattle.fibril_core.proofs.Live.{live_rise, place_within, remove_at_place, found_somewhere}
use Rattle.fibril_core.proofs.Rebuilt.{end_gives}
use Rattle.fibril_core.proofs.Searches.{on_some}
use Rattle.fibril_core.proofs.live_fibrils.LiveFibrils.end.Goals as goal

pub place_of-requires : goal.place_of-requires
place_of-requires c = record { rise = live_rise c.self.inside.fibrils.items _ c.self.invariant }

pub invariant_of-self : goal.invariant_of-self
invariant_of-self c =
    let live = c.self.inside.fibrils.items in
    let made = c.self.inside.made in
    let next = c.self.inside.next_stamp in
    let o : FibrilOrder = record { fibrils = all_of made live; next_stamp = next } in
    let f = c.args.f in
    let goes : GoesOn (fibril_at o f.0) = subst (λ (p : FibrilOrder). GoesOn (fibril_at p f.0)) (sym (ap (λ (s : FibrilsState). s.order) c.self.view_is)) c.requires.goes_on in
    let same : length live ≡ deque_len c.self.inside.fibrils = search rules in
    let less = place_within live c.in-Some.i f c.in-Some.ensures.found in
    let removed = on_some c.remove.result (c.remove.ensures.variant.1 (rw (← same) less)) c.remove.ensures.items in
    rw (removed, remove_at_place live (all_of made live) c.in-Some.i f c.self.invariant c.in-Some.ensures.found)
    (end_gives made live f next c.self.invariant goes).are

pub returns-in-Some-clause-order : goal.returns-in-Some-clause-order
returns-in-Some-clause-order c =
    let live = c.self.inside.fibrils.items in
    let made = c.self.inside.made in
    let next = c.self.inside.next_stamp in
    let o : FibrilOrder = record { fibrils = all_of made live; next_stamp = next } in
    let f = c.args.f in
    let goes : GoesOn (fibril_at o f.0) = subst (λ (p : FibrilOrder). GoesOn (fibril_at p f.0)) (sym (ap (λ (s : FibrilsState). s.order) c.self.view_is)) c.requires.goes_on in
    let same : length live ≡ deque_len c.self.inside.fibrils = search rules in
    let less = place_within live c.in-Some.i f c.in-Some.ensures.found in
    let removed = on_some c.remove.result (c.remove.ensures.variant.1 (rw (← same) less)) c.remove.ensures.items in
    rw (removed, remove_at_place live (all_of made live) c.in-Some.i f c.self.invariant c.in-Some.ensures.found, (end_gives made live f next c.self.invariant goes).all, ← ap (λ (s : FibrilsState). s.order) c.self.view_is) refl

pub returns-in_default-clause-order : goal.returns-in_default-clause-order
returns-in_default-clause-order c =
    let live = c.self.inside.fibrils.items in
    let o : FibrilOrder = record { fibrils = all_of c.self.inside.made live; next_stamp = c.self.inside.next_stamp } in
    let goes : GoesOn (fibril_at o c.args.f.0) = subst (λ (p : FibrilOrder). GoesOn (fibril_at p c.args.f.0)) (sym (ap (λ (s : FibrilsState). s.order) c.self.view_is)) c.requires.goes_on in
    absurd (found_somewhere live o c.args.f c.self.invariant goes c.in_default.ensures.none)
