use Rattle.std.proofs.Common.{List, ℕ, ap, sym, ◌∙◌}
use Rattle.std.specs.Str.{bytes_eq}
use Rattle.search_goals.proofs.Beginnings.{any_on, any_here, any_over}
use Rattle.search_goals.proofs.NewNames.{has_name, template_is}
use Rattle.search_goals.proofs.names.is_template.Goals as goal

pub loop-template-preserved : goal.loop-template-preserved
loop-template-preserved c =
    let name : List ℕ = c.args.name.now in
    any_on (has_name name) c.args.templates.now c.loop-template.template-index c.template-item.result
    c.loop-template-test.true c.template-item.is
    (ap (bytes_eq name) (sym c.as_slice.ensures) ∙ sym c.is_word.ensures ∙ c.if-is_word.false) c.loop-template.invariant

pub returns-then-is_word : goal.returns-then-is_word
returns-then-is_word c =
    let name : List ℕ = c.args.name.now in
    any_here (has_name name) c.args.templates.now c.loop-template.template-index c.template-item.result
    c.loop-template-test.true c.template-item.is
    (ap (bytes_eq name) (sym c.as_slice.ensures) ∙ sym c.is_word.ensures ∙ c.if-is_word.true) c.loop-template.invariant
    ∙ template_is name c.args.templates.now

pub returns : goal.returns
returns c =
    let name : List ℕ = c.args.name.now in
    any_over (has_name name) c.args.templates.now c.loop-template.template-index c.loop-template-test.false
    c.loop-template.invariant ∙ template_is name c.args.templates.now
