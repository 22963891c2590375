use Rattle.std.proofs.Common.{rules, ◌≡◌, length, ap, sym, ◌∙◌}
use Rattle.std.specs.VecDeque.{deque_len}
use Rattle.fibril_core.specs.declared.fibrils.Fibril.{Fibril}
use Rattle.fibril_core.specs.Fibrils.{FibrilOrder, FibrilsState, why_in, why_at, fibril_at}
use Rattle.fibril_core.specs.LiveFibrils.{all_of}
use Rattle.fibril_core.proofs.Live.{live_rise, place_within, why_here, why_nowhere}
use Rattle.fibril_core.proofs.live_fibrils.LiveFibrils.why.Goals as goal

pub place_of-requires : goal.place_of-requires
place_of-requires c = record { rise = live_rise c.self.inside.fibrils.items _ c.self.invariant }

pub index-requires : goal.index-requires
index-requires c =
    let same : length c.self.inside.fibrils.items ≡ deque_len c.self.inside.fibrils = search rules in
    rw (← same) (place_within c.self.inside.fibrils.items c.in-Some.i c.args.f c.in-Some.ensures.found)

pub returns-in-Some : goal.returns-in-Some
returns-in-Some c =
    let live = c.self.inside.fibrils.items in
    let o : FibrilOrder = record { fibrils = all_of c.self.inside.made live; next_stamp = c.self.inside.next_stamp } in
    let here = why_here live o c.args.f c.in-Some.i c.index.result.now c.self.invariant c.in-Some.ensures.found in
    c.why_in.ensures ∙ ap (λ (x : Fibril). why_in x.status) c.index.ensures ∙ sym here
    ∙ ap (λ (s : FibrilsState). why_at (fibril_at s.order c.args.f.0)) c.self.view_is

pub returns-in-None : goal.returns-in-None
returns-in-None c =
    let live = c.self.inside.fibrils.items in
    let o : FibrilOrder = record { fibrils = all_of c.self.inside.made live; next_stamp = c.self.inside.next_stamp } in
    sym (why_nowhere live o c.args.f c.self.invariant c.in-None.ensures.none)
    ∙ ap (λ (s : FibrilsState). why_at (fibril_at s.order c.args.f.0)) c.self.view_is
