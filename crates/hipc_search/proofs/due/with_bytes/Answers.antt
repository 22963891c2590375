use Rattle.std.proofs.Common.{ℕ, Result, sym, subst}
use Rattle.std.specs.Prelude.{IfOk}
use Rattle.std.specs.Option.{option_map}
use Rattle.script_lines.specs.declared.fault.Reason.{Reason}
use Rattle.script_lines.specs.Plan.{Plan}
use Rattle.hipc_search.specs.Command.{said}
use Rattle.hipc_search.specs.Due.{DueForScript}
use Rattle.hipc_search.proofs.Named.{script_named}
use Rattle.hipc_search.proofs.due.with_bytes.Goals as goal

pub with_script-requires-clause-named : goal.with_script-requires-clause-named
with_script-requires-clause-named c = script_named c.args.bytes.now c.in-Ok.script c.in-Ok.ensures.value

pub returns-in-Ok : goal.returns-in-Ok
returns-in-Ok c =
    subst
    (λ (r : Result Plan (ℕ × Reason)). IfOk c.with_script.result
    (λ answer. DueForScript (said c.args.command.now) r (option_map (λ bytes. bytes.now) c.args.first) answer.status answer.text.items))
    (sym c.in-Ok.ensures.value) c.with_script.ensures

pub returns-in-Err-Bad : goal.returns-in-Err-Bad
returns-in-Err-Bad c =
    subst
    (λ (r : Result Plan (ℕ × Reason)). IfOk c.fault_answer.result
    (λ answer. DueForScript (said c.args.command.now) r (option_map (λ bytes. bytes.now) c.args.first) answer.status answer.text.items))
    (sym (rw c.in-Err-Bad.field-0-is at c.in-Err-Bad.ensures.value)) c.fault_answer.ensures
