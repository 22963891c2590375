use Rattle.std.proofs.Common.{Option, subst}
use Rattle.std.specs.Prelude.{IfOk}
use Rattle.std.specs.Option.{option_map}
use Rattle.command_line.specs.Due.{LosesOneAtMost}
use Rattle.hipc_search.specs.Command.{Command}
use Rattle.hipc_search.specs.Due.{DueForCommand, loaded_by}
use Rattle.hipc_search.proofs.due.answer_of.Goals as goal

pub returns-in-Some-clause-due : goal.returns-in-Some-clause-due
returns-in-Some-clause-due g c =
    subst
    (λ (o : Option Command). IfOk c.with_files.result
    (λ answer. DueForCommand (g.S.Shelf.files c.args.shelf.now) (g.S.Shelf.failed c.args.shelf.now) (g.S.Shelf.failed c.with_files.new.shelf) o answer.status answer.text.items))
    c.in-Some.ensures.command c.with_files.ensures.due

pub returns-in-Some-clause-failed : goal.returns-in-Some-clause-failed
returns-in-Some-clause-failed g c =
    subst
    (λ (o : Option Command). LosesOneAtMost (option_map loaded_by o) (g.S.Shelf.failed c.args.shelf.now) (g.S.Shelf.failed c.with_files.new.shelf))
    c.in-Some.ensures.command c.with_files.ensures.failed

pub returns-in-None-clause-due : goal.returns-in-None-clause-due
returns-in-None-clause-due g c =
    subst
    (λ (o : Option Command). IfOk c.usage_answer.result
    (λ answer. DueForCommand (g.S.Shelf.files c.args.shelf.now) (g.S.Shelf.failed c.args.shelf.now) (g.S.Shelf.failed c.args.shelf.now) o answer.status answer.text.items))
    c.in-None.ensures.command c.usage_answer.ensures
