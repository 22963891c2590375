use Rattle.std.proofs.Common.{ℕ, List, [], ◌++◌, length, refl, sym, ap, subst, ◌∙◌, arith, append-nil}
use Rattle.ipc_ids.specs.declared.message.Event.{Event}
use Rattle.script_lines.specs.Names.{task_names}
use Rattle.script_reader.specs.Schedule.{MayAllCome}
use Rattle.search_goals.specs.Writing.{IsFront, Writes}
use Rattle.search_goals.proofs.Adding.{writes_none}
use Rattle.search_goals.proofs.Texts.{step_on, may_first, may_others, count_within, shorter}
use Rattle.search_goals.proofs.writer.push_events.Goals as goal

pub loop-front-init : goal.loop-front-init
loop-front-init c = record {
  way = record {
    done = [];
    parts = refl;
    wrote = writes_none (task_names c.args.script.now.templates) c.args.names.now c.args.text.now.items;
  };
  may = c.requires.may;
  few = c.requires.few;
}

pub push_line-requires-clause-may : goal.push_line-requires-clause-may
push_line-requires-clause-may c =
    let new = c.in-Some.front in
    may_first (length c.loop-front.names) (length c.args.script.now.templates) new.count c.loop-front.rest.now new.first
    new.others.now c.in-Some.ensures.some c.loop-front.invariant.may

pub loop-front-preserved : goal.loop-front-preserved
loop-front-preserved c =
    let templates = task_names c.args.script.now.templates in
    let t : ℕ = length c.args.script.now.templates in
    let names = c.loop-front.names in
    let known = c.push_line.new.names in
    let rest = c.loop-front.rest.now in
    let new = c.in-Some.front in
    let front : IsFront rest new.first new.count new.others.now = c.in-Some.ensures.some in
    let few = c.loop-front.invariant.few in
    let wrote = c.in_ok-push_line.ensures in
    let less = shorter templates c.args.names.now names known [] [] [] rest c.args.events.now new.first new.count
    new.others.now front in
    record {
      way = step_on templates c.args.names.now names known c.args.text.now.items c.loop-front.text.items
          c.push_line.new.text.items rest c.args.events.now new.first new.count new.others.now front
          c.loop-front.invariant.way wrote;
      may = subst (λ (n : ℕ). MayAllCome n t new.others.now) (sym wrote.all)
          (may_others (length names) t new.count rest new.first new.others.now front c.loop-front.invariant.may);
      few = omega (arith, few, less);
    }

pub returns : goal.returns
returns c =
    let way = c.loop-front.invariant.way in
    subst
    (λ (es : List Event). Writes (task_names c.args.script.now.templates) c.args.names.now c.args.text.now.items
    c.loop-front.text.items es c.loop-front.names)
    (sym (way.parts ∙ ap (λ (es : List Event). way.done ++ es) c.in_default.ensures.none ∙ append-nil way.done)) way.wrote

pub push_line-requires-clause-named : goal.push_line-requires-clause-named
push_line-requires-clause-named c = c.requires.named

pub push_line-requires-clause-some : goal.push_line-requires-clause-some
push_line-requires-clause-some c = c.in-Some.ensures.some.some

pub push_line-requires-clause-times : goal.push_line-requires-clause-times
push_line-requires-clause-times c = c.in-Some.ensures.some.times

pub push_line-requires-clause-few : goal.push_line-requires-clause-few
push_line-requires-clause-few c =
    let new = c.in-Some.front in
    let within = count_within c.loop-front.rest.now new.first new.count new.others.now c.in-Some.ensures.some in
    let few = c.loop-front.invariant.few in
    omega (arith, within, few)
