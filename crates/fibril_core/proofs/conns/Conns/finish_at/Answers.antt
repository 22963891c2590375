use Rattle.std.proofs.Common.{rules, ◌≡◌, ◌<◌, List, length, slice_get, ap, sym, subst, ◌∙◌, arith}
use Rattle.std.specs.Option.{option_copied}
use Rattle.std.specs.VecDeque.{deque_len}
use Rattle.fibril_core.specs.declared.conn.Conn.{Conn}
use Rattle.fibril_core.specs.Conns.{ConnsState, owed_by}
use Rattle.fibril_core.proofs.ConnIndex.{index_removed, stands, copied_here, taken_out}
use Rattle.fibril_core.proofs.conns.Conns.finish_at.Goals as goal

pub invariant_of-self : goal.invariant_of-self
invariant_of-self c =
    let i = c.self.inside in
    let over = c.unwrap-over.result in
    let before = ap (λ (s : ConnsState). s.conns) (sym c.self.view_is) in
    let less = subst (λ (l : List Conn). c.args.i < length l) before c.requires.in_range in
    let gone = taken_out c.remove.result i.conns.items c.remove.new.self.items c.args.i over c.unwrap-over.ensures c.remove.ensures.value c.remove.ensures.items in
    rw gone.1 (index_removed i.rising i.labels.entries c.forget_label.new.labels.entries i.conns.items c.args.i over c.self.invariant
    (stands i.conns.items c.args.i over less gone.0) c.forget_label.ensures.forgotten)

pub returns-in-Ok-clause-owed : goal.returns-in-Ok-clause-owed
returns-in-Ok-clause-owed c =
    let now = c.self.inside.conns in
    let before = ap (λ (s : ConnsState). s.conns) (sym c.self.view_is) in
    let less = subst (λ (l : List Conn). c.args.i < length l) before c.requires.in_range in
    let same : length now.items ≡ deque_len now = search rules in
    let copied : option_copied c.get.result ≡ slice_get now.items c.args.i = copied_here c.get.result now.items c.args.i less (λ h. c.get.ensures.variant.1 (omega arith)) c.get.ensures.lookup in
    c.in-Ok.ensures ∙ ap owed_by (copied ∙ ap (λ (l : List Conn). slice_get l c.args.i) (sym before))
