use Rattle.std.proofs.Common.{◌≡◌, ℕ, List, length, sym, ap, subst, ◌∙◌, arith}
use Rattle.ipc_ids.specs.declared.message.Event.{Event}
use Rattle.ipc_ids.proofs.Common.{then_on_ok}
use Rattle.script_lines.specs.Names.{task_names}
use Rattle.script_reader.specs.Schedule.{MayAllCome}
use Rattle.search_goals.specs.Writing.{tasks_behind, Writes}
use Rattle.schedule_search.specs.Problem.{search_of}
use Rattle.schedule_search.proofs.Behind.{may_here}
use Rattle.hipc_search.proofs.Written.{tasks_then, closing_come, closing_few, is_schedule}
use Rattle.hipc_search.proofs.schedule.push_found.Goals as goal

pub push_events-requires-clause-named : goal.push_events-requires-clause-named
push_events-requires-clause-named c = c.requires.may.named.templates

pub push_events-requires-clause-may : goal.push_events-requires-clause-may
push_events-requires-clause-may c =
    subst (λ (n : ℕ). MayAllCome n (length c.args.problem.now.script.now.templates) c.args.events.now)
    (sym c.requires.may.first.all_named)
    (may_here (search_of c.args.problem.now) c.requires.may.sound c.args.events.now c.requires.tried)

pub closing-requires-clause-all : goal.closing-requires-clause-all
closing-requires-clause-all c =
    c.len.ensures.count ∙ c.in_ok-push_events.ensures.all
    ∙ ap (λ (n : ℕ). tasks_behind n c.args.events.now) c.requires.may.first.all_named

pub push_events-requires-2-clause-named : goal.push_events-requires-2-clause-named
push_events-requires-2-clause-named c = c.requires.may.named.templates

pub push_events-requires-2-clause-may : goal.push_events-requires-2-clause-may
push_events-requires-2-clause-may c =
    let t : ℕ = length c.args.problem.now.script.now.templates in
    let n : ℕ = length c.push_events.new.names in
    let all : n ≡ tasks_then (search_of c.args.problem.now) c.args.events.now =
    c.in_ok-push_events.ensures.all ∙ ap (λ (n : ℕ). tasks_behind n c.args.events.now) c.requires.may.first.all_named in
    subst (λ (es : List Event). MayAllCome n t es) (sym (c.as_slice.ensures.value ∙ c.in_ok-steps.ensures))
    (closing_come (search_of c.args.problem.now) c.args.events.now n t all)

pub push_events-requires-2-clause-few : goal.push_events-requires-2-clause-few
push_events-requires-2-clause-few c =
    let few = closing_few (search_of c.args.problem.now) c.args.events.now in
    let all = c.in_ok-push_events.ensures.all
    ∙ ap (λ (n : ℕ). tasks_behind n c.args.events.now) c.requires.may.first.all_named in
    let tasks = c.len.ensures.few in
    let count = c.len.ensures.count in
    let same = ap (λ (es : List Event). length es) (c.as_slice.ensures.value ∙ c.in_ok-steps.ensures) in
    omega (arith, few, all, tasks, count, same)

pub returns : goal.returns
returns c =
    let may = c.requires.may in
    let tasks = c.len.ensures.few in
    let count = c.len.ensures.count in
    then_on_ok c.push_events-2.result c.push_events-2.ensures
    (λ closed.
    is_schedule (search_of c.args.problem.now) c.args.text.now.items c.args.goal.now c.args.events.now c.args.names.now
    c.push_events.new.names c.push_events-2.new.names c.push_comment.new.text.items c.push_events.new.text.items
    c.push_events-2.new.text.items (omega (arith, tasks, count)) may.few_first may.short may.first c.requires.allowed
    c.requires.few c.in_ok-push_comment.ensures c.in_ok-push_events.ensures
    (subst (λ (es : List Event). Writes (task_names c.args.problem.now.script.now.templates) c.push_events.new.names
    c.push_events.new.text.items c.push_events-2.new.text.items es c.push_events-2.new.names)
    (c.as_slice.ensures.value ∙ c.in_ok-steps.ensures) closed))
