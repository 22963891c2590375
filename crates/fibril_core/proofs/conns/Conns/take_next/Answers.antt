use Rattle.std.proofs.Common.{◌<◌, List, length, position, ap, sym, subst, ◌∙◌}
use Rattle.std.specs.Prelude.{slice_set}
use Rattle.fibril_core.specs.declared.conn.Conn.{Conn}
use Rattle.fibril_core.specs.Conns.{ConnsState, serves, conn_of_fibril, take_answer}
use Rattle.fibril_core.proofs.ConnIndex.{Stays, index_changed, took_stays, stands, fibril_at_place, took_at}
use Rattle.fibril_core.proofs.conns.Conns.take_next.Goals as goal

pub invariant_of-self : goal.invariant_of-self
invariant_of-self c =
    let i = c.self.inside in
    let x = c.index_mut.result.now in
    let before = ap (λ (s : ConnsState). s.conns) (sym c.self.view_is) in
    let less = subst (λ (l : List Conn). c.in-Some.i < length l) before c.in-Some.ensures.in_range in
    index_changed i.rising i.labels.entries i.conns.items c.in-Some.i x c.take_first.new.conn c.self.invariant
    (stands i.conns.items c.in-Some.i x less c.index_mut.ensures.value)
    (subst (λ (d : Conn). Stays x d) (sym c.take_first.ensures.conn) (took_stays x))

pub returns-in-Some-clause-told : goal.returns-in-Some-clause-told
returns-in-Some-clause-told c =
    let cs = c.self.inside.conns.items in
    let before = ap (λ (s : ConnsState). s.conns) (sym c.self.view_is) in
    let less = subst (λ (l : List Conn). c.in-Some.i < length l) before c.in-Some.ensures.in_range in
    let there = stands cs c.in-Some.i c.index_mut.result.now less c.index_mut.ensures.value in
    let place = c.in-Some.ensures.place ∙ ap (position (serves c.args.f)) before in
    let is = fibril_at_place c.args.f cs c.in-Some.i c.index_mut.result.now place there in
    c.take_first.ensures.told ∙ ap take_answer (sym is) ∙ ap (λ (l : List Conn). take_answer (conn_of_fibril c.args.f l)) (sym before)

pub returns-in-Some-clause-conns : goal.returns-in-Some-clause-conns
returns-in-Some-clause-conns c =
    let cs = c.self.inside.conns.items in
    let before = ap (λ (s : ConnsState). s.conns) (sym c.self.view_is) in
    let less = subst (λ (l : List Conn). c.in-Some.i < length l) before c.in-Some.ensures.in_range in
    let there = stands cs c.in-Some.i c.index_mut.result.now less c.index_mut.ensures.value in
    let place = c.in-Some.ensures.place ∙ ap (position (serves c.args.f)) before in
    rw (← c.self.view_is)
    (ap (slice_set cs c.in-Some.i) c.take_first.ensures.conn ∙ took_at c.args.f cs c.in-Some.i c.index_mut.result.now place there)
