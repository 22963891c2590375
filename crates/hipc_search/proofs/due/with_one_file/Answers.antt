use Rattle.std.proofs.Common.{ap, Err}
use Rattle.schedule_search.proofs.Visiting.{if_ok_on}
use Rattle.hipc_search.specs.Command.{said}
use Rattle.hipc_search.proofs.Loading.{script_lost, script_loaded}
use Rattle.command_line.proofs.Lost.{lost_it, lost_none}
use Rattle.hipc_search.proofs.due.with_one_file.Goals as goal

pub returns-in-Ok-clause-due : goal.returns-in-Ok-clause-due
returns-in-Ok-clause-due g c =
    let file = c.in-Ok.ensures in
    if_ok_on _ _ c.with_bytes.result
    (λ answer due. script_loaded (g.S.Shelf.files c.args.shelf.now) (said c.args.command.now) c.in-Ok.bytes.items _ answer.status answer.text.items
    (lost_none _ _ _ file.ok) file.bytes (rw c.as_slice.ensures.value at due))
    c.with_bytes.ensures

pub returns-in-Err-Failed-clause-due : goal.returns-in-Err-Failed-clause-due
returns-in-Err-Failed-clause-due g c =
    let added = c.in-Err-Failed.ensures.failed (ap (λ e. Err e) c.in-Err-Failed.field-0-is) in
    if_ok_on _ _ c.cannot_answer.result
    (λ answer says. script_lost (g.S.Shelf.files c.args.shelf.now) (said c.args.command.now) _ answer.status answer.text.items
    (lost_it _ _ _ added) says)
    c.cannot_answer.ensures
