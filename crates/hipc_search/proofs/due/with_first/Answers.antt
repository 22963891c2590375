use Rattle.std.proofs.Common.{ℕ, ◌++◌, [], ◌∷◌, List, Result, length, length-append, sym, ap, subst, ◌∙◌, arith}
use Rattle.std.specs.Prelude.{IfOk, codes}
use Rattle.ipc_ids.specs.declared.message.Event.{Event}
use Rattle.script_reader.specs.EventLine.{EventsAndNames}
use Rattle.script_lines.specs.declared.fault.Reason.{Reason}
use Rattle.hipc_search.specs.Asking.{said_first}
use Rattle.hipc_search.specs.Command.{said}
use Rattle.hipc_search.specs.Due.{DueForEvents}
use Rattle.hipc_search.specs.Schedule.{Precedes}
use Rattle.hipc_search.proofs.Following.{schedule_first}
use Rattle.hipc_search.proofs.due.with_first.Goals as goal

pub returns-in-Err-Bad : goal.returns-in-Err-Bad
returns-in-Err-Bad c =
    subst
    (λ (r : Result EventsAndNames (ℕ × Reason)). IfOk c.fault_answer.result
    (λ answer. DueForEvents (said c.args.command.now) c.args.script.now (c.args.bytes.now ++ codes "\n") r answer.status answer.text.items))
    (sym (rw c.in-Err-Bad.field-0-is at c.in-Err-Bad.ensures.value)) c.fault_answer.ensures

pub with_events-requires-clause-short : goal.with_events-requires-clause-short
with_events-requires-clause-short c =
    let long = length-append c.args.bytes.now (10 ∷ []) in
    let same = ap length (c.as_slice-2.ensures.value ∙ c.in_ok-before.ensures) in
    let short = c.in-Ok.ensures.short in
    omega (arith, long, same, short)

pub with_events-requires-clause-first : goal.with_events-requires-clause-first
with_events-requires-clause-first c =
    let script = c.args.script.now in
    let first : EventsAndNames = said_first c.in-Ok.first in
    subst (λ (es : List Event). Precedes script c.as_slice-2.result.now (record { events = es; names = first.names }))
    (sym c.as_slice.ensures.value)
    (subst (λ (b : List ℕ). Precedes script b first) (sym (c.as_slice-2.ensures.value ∙ c.in_ok-before.ensures))
    (schedule_first script c.args.bytes.now first c.in-Ok.ensures.spelled))
