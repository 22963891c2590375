use Rattle.std.proofs.Common.{◌≡◌, ◌∙◌, ◌++◌, ◌∷◌, [], List, ℕ, sym, ap, false, arith}
use Rattle.std.specs.Prelude.{is_some}
use Rattle.script_lines.specs.Names.{is_ns, place_of}
use Rattle.script_lines.proofs.DraftSteps.{task_whole, none_before}
use Rattle.script_lines.proofs.Soundness.{other_name, new_task_sound}
use Rattle.script_lines.proofs.draft.Draft.add_task.Goals as goal

pub returns-clause-whole : goal.returns-clause-whole
returns-clause-whole c =
    let names = c.args.self.now.names in
    let place : c.place_of.result ≡ place_of names c.args.head.name = c.place_of.ensures.value ∙ ap (place_of names) c.as_slice-else-is_ns.ensures in
    let new : is_some (place_of names c.args.head.name) ≡ false = ap is_some (sym place) ∙ sym c.if-is_some.ensures in
    let pushed = c.in_ok-end_task.ensures.names ∙ c.in_ok-push.ensures ∙ ap (λ (n : List ℕ). names ++ n ∷ []) c.as_slice-2.ensures in
    task_whole c.args.self.now _ _ _ _ c.requires.whole c.in_ok-end_task.ensures.done c.in_ok-end_task.ensures.wires pushed (omega (arith, c.len.ensures)) new c.requires.not_naming (rw (c.new.ensures, c.first_body.ensures) (new_task_sound c.args.head (other_name c.args.head.name (ap is_ns (sym c.as_slice.ensures) ∙ sym c.if-is_ns.ensures)) c.requires.fits)) (none_before c.first_body.result c.new.result c.new.ensures)
