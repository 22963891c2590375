use Rattle.std.proofs.Common.{sym, ap, subst, ◌∙◌}
use Rattle.script_lines.specs.Names.{task_names}
use Rattle.script_lines.specs.Plan.{Plan}
use Rattle.script_lines.specs.Sound.{NamesDiffer}
use Rattle.search_goals.specs.Writing.{AreNames}
use Rattle.search_goals.proofs.NameWords.{are_names}
use Rattle.search_goals.proofs.names.TaskNames.of_script.Goals as goal

pub invariant_of-result : goal.invariant_of-result
invariant_of-result c =
    let view = ap (λ (p : Plan). p.tasks) c.script.view_is in
    subst AreNames (sym (c.in_ok-push_words.ensures ∙ ap task_names (c.as_slice.ensures ∙ view)))
    (are_names c.args.script.now.tasks c.requires (subst NamesDiffer view c.script.invariant.names_differ)
    (rw view at c.script.invariant.few))
