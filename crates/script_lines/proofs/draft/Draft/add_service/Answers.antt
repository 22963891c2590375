use Rattle.std.proofs.Common.{◌∙◌, ◌++◌, ◌∷◌, [], List, ℕ, ap, refl}
use Rattle.script_lines.proofs.DraftSteps.{service_whole}
use Rattle.script_lines.proofs.draft.Draft.add_service.Goals as goal

pub returns-clause-whole : goal.returns-clause-whole
returns-clause-whole c =
    let names = c.args.self.now.names in
    let pushed = c.in_ok-end_task.ensures.names ∙ c.in_ok-push.ensures ∙ ap (λ (n : List ℕ). names ++ n ∷ []) c.as_slice.ensures in
    service_whole c.args.self.now _ _ _ _ c.requires.whole c.in_ok-end_task.ensures.done c.in_ok-end_task.ensures.wires pushed c.requires.first (rw (c.ns-name.ensures, c.new.ensures) refl) c.new.ensures
