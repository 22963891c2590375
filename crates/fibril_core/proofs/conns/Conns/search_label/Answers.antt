use Rattle.std.proofs.Common.{position, ap, sym, ◌∙◌}
use Rattle.fibril_core.specs.Conns.{ConnsState, serves, leads_to}
use Rattle.fibril_core.proofs.ConnIndex.{led_place, led_nowhere}
use Rattle.fibril_core.proofs.conns.Conns.search_label.Goals as goal

pub returns-in-Some-clause-place : goal.returns-in-Some-clause-place
returns-in-Some-clause-place c =
    let i = c.self.inside in
    let same = ap (λ (s : ConnsState). s.conns) c.self.view_is in
    c.place_of_fibril.ensures.place
    ∙ ap (position (serves c.in-Some.f.now)) (sym same)
    ∙ led_place i.rising i.labels.entries i.conns.items c.args.label c.in-Some.f.now c.self.invariant c.in-Some.ensures.value
    ∙ ap (position (leads_to c.args.label)) same

pub returns-in-None-clause-place : goal.returns-in-None-clause-place
returns-in-None-clause-place c =
    let i = c.self.inside in
    led_nowhere i.rising i.labels.entries i.conns.items c.args.label c.self.invariant c.in-None.ensures.value
    ∙ ap (λ (s : ConnsState). position (leads_to c.args.label) s.conns) c.self.view_is
