use Rattle.std.proofs.Common.{◌≡◌, None, arith, ap, ◌∙◌}
use Rattle.std.proofs.lemmas.Grind.{common_steps}
use Rattle.fibril_core.specs.Conns.{ConnsState, conn_of_fibril, start}
use Rattle.fibril_core.proofs.ConnIndex.{index_started}
use Rattle.fibril_core.proofs.conns.Conns.start_reserved.Goals as goal

pub invariant_of-self : goal.invariant_of-self
invariant_of-self c =
    let i = c.self.inside in
    let rising = c.rise_with-self-inside.result in
    let is : c.push_back_reserved.new.self.items ≡ start c.args.label c.args.f i.conns.items = grind (arith, common_steps) in
    let none : conn_of_fibril c.args.f i.conns.items ≡ None = ap (λ (s : ConnsState). conn_of_fibril c.args.f s.conns) c.self.view_is ∙ c.requires.serves_none in
    rw is (index_started rising i.labels.entries c.keep_label.new.labels.entries i.conns.items c.args.label c.args.f c.self.invariant.sound c.self.invariant.labels none c.rise_with-self-inside.ensures c.keep_label.ensures.kept)
