use Rattle.std.proofs.Common.{◌≡◌, [], ◌∷◌, ◌++◌, false, List, ℕ, length, get_or, sym, ap, subst, ◌∙◌, arith}
use Rattle.std.specs.Prelude.{is_some}
use Rattle.ipc_ids.specs.declared.message.Event.TheVariants as events
use Rattle.ipc_ids.proofs.Common.{then_on_ok}
use Rattle.script_lines.specs.declared.plan.TaskPlan.{TaskPlan}
use Rattle.script_lines.specs.Names.{task_names, place_of}
use Rattle.script_lines.specs.Plan.{Plan}
use Rattle.script_lines.specs.Sound.{NamesDiffer}
use Rattle.script_lines.specs.Word.{is_name}
use Rattle.search_goals.specs.Lines.{spawn_text}
use Rattle.search_goals.specs.Writing.{IsNew, Writes}
use Rattle.search_goals.proofs.NameWords.{template_named, template_at}
use Rattle.search_goals.proofs.NewNames.{new_unknown}
use Rattle.search_goals.proofs.Texts.{spawn_written}
use Rattle.search_goals.proofs.writer.push_made.Goals as goal

pub push-requires-clause-new : goal.push-requires-clause-new
push-requires-clause-new c =
    subst (λ (n : List ℕ). is_some (place_of c.args.names.now n) ≡ false) (sym c.as_slice-2.ensures.value)
    (new_unknown (task_names c.as_slice-templates.result.now) c.args.names.now c.in_ok-name.name.items c.in_ok-name.ensures)

pub next_name-requires : goal.next_name-requires
next_name-requires c =
    let long = ap (λ (ts : List TaskPlan). length ts) c.as_slice-templates.ensures in
    let few = c.script.invariant.few_templates in
    omega (arith, long, few)

pub returns : goal.returns
returns c =
    let names = c.args.names.now in
    let place : ℕ = c.args.place in
    let templates : List TaskPlan = c.args.script.now.templates in
    let t : TaskPlan = c.index-templates-place.result in
    let name : List ℕ = c.in_ok-name.name.items in
    let template : List ℕ = c.as_slice-template.result.now in
    let view = ap (λ (p : Plan). p.templates) c.script.view_is in
    let same : c.as_slice-templates.result.now ≡ templates = c.as_slice-templates.ensures ∙ view in
    let differ : NamesDiffer templates = subst NamesDiffer view c.script.invariant.template_names_differ in
    let is : t ≡ get_or templates place t =
    subst (λ (ts : List TaskPlan). t ≡ get_or ts place t) same c.index-templates-place.is in
    let word : template ≡ t.name = c.as_slice-template.ensures ∙ ap (λ (u : TaskPlan). u.name) (sym c.index-templates-place.is) in
    let new : IsNew (task_names templates) names name =
    subst (λ (ts : List TaskPlan). IsNew (task_names ts) names name) same c.in_ok-name.ensures in
    let written : Writes (task_names templates) names c.args.text.now.items c.push_spawn.new.text.items
    (events.Spawn place ∷ []) (names ++ name ∷ []) =
    spawn_written (task_names templates) names place template name c.args.text.now.items c.push_spawn.new.text.items
    (ap is_name word ∙ template_named templates place t c.requires.named c.requires.template is)
    (ap (place_of (task_names templates)) word ∙ template_at templates place t differ c.requires.template is)
    new c.requires.room
    (c.in_ok-push_spawn.ensures
    ∙ ap (λ (n : List ℕ). c.args.text.now.items ++ spawn_text template n) c.as_slice.ensures.value) in
    then_on_ok c.push.result c.push.ensures
    (λ (known : c.push.new.self ≡ names ++ c.as_slice-2.result.now ∷ []).
    subst
    (λ (ns : List (List ℕ)). Writes (task_names templates) names c.args.text.now.items c.push_spawn.new.text.items (events.Spawn place ∷ []) ns)
    (sym (known ∙ ap (λ (n : List ℕ). names ++ n ∷ []) c.as_slice-2.ensures.value)) written)
