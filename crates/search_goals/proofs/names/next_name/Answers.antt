use Rattle.std.proofs.Common.{◌≡◌, ℕ, ◌+◌, true, length, sym, ap, ◌∙◌, arith}
use Rattle.script_lines.specs.Names.{task_names}
use Rattle.script_lines.specs.declared.plan.TaskPlan.{TaskPlan}
use Rattle.std.proofs.lemmas.List.{length-map}
use Rattle.script_reader.specs.EventLine.{is_taken}
use Rattle.search_goals.specs.Writing.{made_name}
use Rattle.search_goals.proofs.NewNames.{one_more_taken, few_tried, is_new}
use Rattle.search_goals.proofs.names.next_name.Goals as goal

pub loop-alloc-preserved : goal.loop-alloc-preserved
loop-alloc-preserved c =
    let templates = task_names c.args.templates.now in
    let names = c.args.names.now in
    let number : ℕ = c.loop-alloc.number in
    let known = c.loop-alloc.invariant.known in
    let few = c.loop-alloc.invariant.few in
    let first = c.loop-alloc.invariant.first in
    let here : is_taken templates names (made_name number) ≡ true =
    ap (is_taken templates names) (sym (c.as_slice.ensures.value ∙ c.loop-alloc.invariant.name))
    ∙ sym c.is_taken.ensures ∙ c.loop-alloc-test.true in
    let long = length-map c.args.templates.now (λ (t : TaskPlan). t.name) in
    let most = c.requires in
    let taken = one_more_taken templates names (length names + 1) number c.loop-alloc.invariant.taken here in
    record {
      name = c.in_ok-name-2.ensures;
      first = omega (arith, first);
      known = known;
      few = few_tried templates names (number + 1) known (omega (arith, long, most)) (omega (arith, first)) (omega (arith, few)) taken;
      taken = taken;
    }

pub returns : goal.returns
returns c =
    let few = c.loop-alloc.invariant.few in
    is_new (task_names c.args.templates.now) c.args.names.now c.loop-alloc.number c.loop-alloc.name.items c.loop-alloc.invariant.name
    (omega (arith, few))
    (ap (is_taken (task_names c.args.templates.now) c.args.names.now) (sym c.as_slice.ensures.value) ∙ sym c.is_taken.ensures
    ∙ c.loop-alloc-test.false)
