use Rattle.std.proofs.Common.{◌≡◌, ◌<◌, List, Option, length, position, ap, sym, subst, ◌∙◌}
use Rattle.std.specs.Prelude.{IfOk}
use Rattle.fibril_core.specs.declared.conn.Conn.{Conn}
use Rattle.fibril_core.specs.Conns.{ConnsState, leads_to, conn_of_label, route_answer}
use Rattle.fibril_core.proofs.ConnIndex.{index_changed, routed_stays, stands, label_at, routed_at}
use Rattle.fibril_core.proofs.conns.Conns.route.Goals as goal

pub invariant_of-self : goal.invariant_of-self
invariant_of-self c =
    let i = c.self.inside in
    let x = c.index_mut.result.now in
    let before = ap (λ (s : ConnsState). s.conns) (sym c.self.view_is) in
    let less = subst (λ (l : List Conn). c.in-Some.i < length l) before c.in-Some.ensures.in_range in
    index_changed i.rising i.labels.entries i.conns.items c.in-Some.i x c.route_to.new.conn c.self.invariant
    (stands i.conns.items c.in-Some.i x less c.index_mut.ensures.value)
    (routed_stays c.route_to.result c.args.call c.args.msg x c.route_to.new.conn c.route_to.ensures.conn c.route_to.ensures.unchanged)

pub returns-in-Some-clause-told : goal.returns-in-Some-clause-told
returns-in-Some-clause-told c =
    let cs = c.self.inside.conns.items in
    let before = ap (λ (s : ConnsState). s.conns) (sym c.self.view_is) in
    let less = subst (λ (l : List Conn). c.in-Some.i < length l) before c.in-Some.ensures.in_range in
    let place = c.in-Some.ensures.place ∙ ap (position (leads_to c.args.label)) before in
    let there = stands cs c.in-Some.i c.index_mut.result.now less c.index_mut.ensures.value in
    let is = label_at c.args.label cs c.in-Some.i c.index_mut.result.now place there in
    subst (λ (q : Option Conn). IfOk c.route_to.result (λ r. r ≡ route_answer c.args.msg.method q))
    (sym is ∙ ap (conn_of_label c.args.label) (sym before)) c.route_to.ensures.told

pub returns-in-Some-clause-conns : goal.returns-in-Some-clause-conns
returns-in-Some-clause-conns c =
    let cs = c.self.inside.conns.items in
    let before = ap (λ (s : ConnsState). s.conns) (sym c.self.view_is) in
    let less = subst (λ (l : List Conn). c.in-Some.i < length l) before c.in-Some.ensures.in_range in
    let place = c.in-Some.ensures.place ∙ ap (position (leads_to c.args.label)) before in
    let there = stands cs c.in-Some.i c.index_mut.result.now less c.index_mut.ensures.value in
    rw (← c.self.view_is)
    (routed_at c.route_to.result c.args.label c.args.call c.args.msg cs c.in-Some.i c.index_mut.result.now c.route_to.new.conn place there c.route_to.ensures.conn)
