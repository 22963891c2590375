use Rattle.std.proofs.Common.{rules, ◌≡◌, ℕ, zero, suc, ◌<◌, length, Some, refl, ap, sym, ◌∙◌, arith}
use Rattle.std.specs.VecDeque.{deque_len}
use Rattle.fibril_core.specs.Fibrils.{FibrilOrder, FibrilsState, fibril_at}
use Rattle.fibril_core.specs.LiveFibrils.{all_of}
use Rattle.fibril_core.proofs.Live.{live_rise, place_within, fibril_here}
use Rattle.fibril_core.proofs.Rebuilt.{fibril_over, fibril_past}
use Rattle.fibril_core.proofs.live_fibrils.LiveFibrils.fibril.Goals.{then-f-eq0-via-then-f-eq0, then-f-eq0-via-else-f-eq0+then-self-f}
use Rattle.fibril_core.proofs.live_fibrils.LiveFibrils.fibril.Goals as goal

some : (n : ℕ) → (n ≡ 0 → ⊥) → 0 < n
some zero h = absurd (h refl)
some (suc n) h = omega arith

pub returns-then-f-eq0 : goal.returns-then-f-eq0
returns-then-f-eq0 c =
    let live = c.self.inside.fibrils.items in
    let seen = ap (λ (s : FibrilsState). fibril_at s.order c.args.f.0) c.self.view_is in
    elim c.then-f-eq0.branch [
      | then-f-eq0-via-then-f-eq0 w ↦ sym (ap (fibril_at c.args.self.now.order) w.if-f-eq0.true)
      | then-f-eq0-via-else-f-eq0+then-self-f w ↦ sym (fibril_past c.self.inside.made c.self.inside.next_stamp live c.args.f.0 w.if-self-f.true) ∙ seen
    ]

pub place_of-requires : goal.place_of-requires
place_of-requires c = record { rise = live_rise c.self.inside.fibrils.items _ c.self.invariant }

pub index-requires : goal.index-requires
index-requires c =
    let same : length c.self.inside.fibrils.items ≡ deque_len c.self.inside.fibrils = search rules in
    rw (← same) (place_within c.self.inside.fibrils.items c.in-Some.i c.args.f c.in-Some.ensures.found)

pub returns-in-Some : goal.returns-in-Some
returns-in-Some c =
    let live = c.self.inside.fibrils.items in
    let o : FibrilOrder = record { fibrils = all_of c.self.inside.made live; next_stamp = c.self.inside.next_stamp } in
    ap Some c.index.ensures ∙ sym (fibril_here live o c.args.f c.in-Some.i c.index.result.now c.self.invariant c.in-Some.ensures.found)
    ∙ ap (λ (s : FibrilsState). fibril_at s.order c.args.f.0) c.self.view_is

pub returns-in-None : goal.returns-in-None
returns-in-None c =
    let live = c.self.inside.fibrils.items in
    ap Some c.ended.ensures ∙ sym (fibril_over c.self.inside.made c.self.inside.next_stamp live c.args.f (some c.args.f.0 c.if-f-eq0.false) c.if-self-f.false c.in-None.ensures.none)
    ∙ ap (λ (s : FibrilsState). fibril_at s.order c.args.f.0) c.self.view_is
