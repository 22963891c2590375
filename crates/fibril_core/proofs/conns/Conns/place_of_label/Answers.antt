use Rattle.std.proofs.Common.{rules, ◌≡◌, ◌<◌, length, position, refl, sym, ap, ◌∙◌, arith}
use Rattle.std.specs.VecDeque.{deque_len}
use Rattle.fibril_core.specs.Conns.{ConnsState, leads_to}
use Rattle.fibril_core.proofs.ConnIndex.{label_here, stands}
use Rattle.fibril_core.proofs.conns.Conns.place_of_label.Goals as goal

pub returns-in-Some-clause-place : goal.returns-in-Some-clause-place
returns-in-Some-clause-place c =
    let i = c.self.inside in
    let x = c.in-Some.conn.now in
    let same : length i.conns.items ≡ deque_len i.conns = search rules in
    let some : i.last < deque_len i.conns = c.in-Some.ensures.variant.0 refl in
    let less : i.last < length i.conns.items = omega arith in
    let there = stands i.conns.items i.last x less c.in-Some.ensures.lookup in
    label_here c.args.label i.conns.items i.last x c.self.invariant.sound there c.if-conn.true (sym c.if-eq.ensures)
    ∙ ap (λ (s : ConnsState). position (leads_to c.args.label) s.conns) c.self.view_is
