use Rattle.std.proofs.Common.{Result, sym, subst}
use Rattle.std.specs.Prelude.{IfOk}
use Rattle.search_goals.specs.GoalList.{Sought, Fault}
use Rattle.hipc_search.specs.Asking.{search_with}
use Rattle.hipc_search.specs.Command.{said}
use Rattle.hipc_search.specs.Due.{DueForAsked}
use Rattle.hipc_search.proofs.due.with_events.Goals as goal

pub returns-in-Ok : goal.returns-in-Ok
returns-in-Ok c =
    subst
    (λ (r : Result Sought Fault). IfOk c.with_goals.result
    (λ answer. DueForAsked (said c.args.command.now) c.args.before.now (search_with (said c.args.command.now) c.args.script.now
    (record { events = c.args.from.now; names = c.args.names.now }) r) answer.status answer.text.items))
    (sym c.in-Ok.ensures.value) c.with_goals.ensures

pub returns-in-Err-Bad : goal.returns-in-Err-Bad
returns-in-Err-Bad c =
    let fault = rw c.in-Err-Bad.field-0-is at c.in-Err-Bad.ensures.value in
    subst
    (λ (r : Result Sought Fault). IfOk c.goal_fault_answer.result
    (λ answer. DueForAsked (said c.args.command.now) c.args.before.now (search_with (said c.args.command.now) c.args.script.now
    (record { events = c.args.from.now; names = c.args.names.now }) r) answer.status answer.text.items))
    (sym fault) c.goal_fault_answer.ensures
