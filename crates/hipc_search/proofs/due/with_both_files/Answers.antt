use Rattle.std.proofs.Common.{ap, ◌∙◌, ◌++◌, ◌∷◌, [], Err}
use Rattle.schedule_search.proofs.Visiting.{if_ok_on}
use Rattle.hipc_search.specs.Command.{said}
use Rattle.hipc_search.proofs.Loading.{first_lost, second_lost, both_loaded}
use Rattle.command_line.proofs.Lost.{lost_it, lost_only, lost_none}
use Rattle.hipc_search.proofs.due.with_both_files.Goals as goal

pub returns-in-Err-Failed-clause-due : goal.returns-in-Err-Failed-clause-due
returns-in-Err-Failed-clause-due g c =
    let added = c.in-Err-Failed.ensures.failed (ap (λ e. Err e) c.in-Err-Failed.field-0-is) in
    if_ok_on _ _ c.cannot_answer.result
    (λ answer says. first_lost (g.S.Shelf.files c.args.shelf.now) (said c.args.command.now) c.args.name.now _ _ answer.status answer.text.items
    (lost_it _ _ _ added) says)
    c.cannot_answer.ensures

pub returns-in-Err-Failed-load-clause-due : goal.returns-in-Err-Failed-load-clause-due
returns-in-Err-Failed-load-clause-due g c =
    let name = c.args.name.now in
    let failed = c.in-Err-Failed-load in
    let added = failed.ensures.failed (ap (λ e. Err e) failed.field-0-is) in
    let all = added ∙ ap (λ names. names ++ name ∷ []) c.in-Ok.ensures.ok in
    if_ok_on _ _ c.cannot_answer-in-Err-Failed-load.result
    (λ answer says. second_lost (g.S.Shelf.files c.args.shelf.now) (said c.args.command.now) name _ _ answer.status answer.text.items
    (lost_only _ _ _ _ all) (lost_it _ _ _ all) says)
    c.cannot_answer-in-Err-Failed-load.ensures

pub returns-clause-due : goal.returns-clause-due
returns-clause-due g c =
    let script = c.in-Ok.ensures in
    let first = c.in-Ok-load.ensures in
    let same = first.ok ∙ script.ok in
    if_ok_on _ _ c.with_bytes.result
    (λ answer due. both_loaded (g.S.Shelf.files c.args.shelf.now) (said c.args.command.now) c.args.name.now c.in-Ok.bytes.items c.in-Ok-load.bytes.items _ _
    answer.status answer.text.items (lost_none _ _ _ same) (lost_none _ _ _ same) script.bytes (rw script.files at first.bytes)
    (rw (c.as_slice.ensures.value, c.as_slice-2.ensures.value) at due))
    c.with_bytes.ensures
