use Rattle.std.proofs.Common.{List, ℕ, Option, sym, subst}
use Rattle.std.specs.Borrow.{Bor}
use Rattle.std.specs.Prelude.{IfOk}
use Rattle.std.specs.Option.{option_map}
use Rattle.hipc_search.specs.Command.{said}
use Rattle.hipc_search.specs.Due.{DueForFiles}
use Rattle.hipc_search.proofs.due.with_files.Goals as goal

pub returns-in-None-clause-due : goal.returns-in-None-clause-due
returns-in-None-clause-due g c =
    subst
    (λ (o : Option (Bor (List ℕ))). IfOk c.with_one_file.result
    (λ answer. DueForFiles (g.S.Shelf.files c.args.shelf.now) (g.S.Shelf.failed c.args.shelf.now) (g.S.Shelf.failed c.with_one_file.new.shelf)
    (said c.args.command.now) (option_map (λ w. w.now) o) answer.status answer.text.items))
    (sym c.in-None.is) c.with_one_file.ensures.due

pub returns-in-Some-clause-due : goal.returns-in-Some-clause-due
returns-in-Some-clause-due g c =
    subst
    (λ (o : Option (Bor (List ℕ))). IfOk c.with_both_files.result
    (λ answer. DueForFiles (g.S.Shelf.files c.args.shelf.now) (g.S.Shelf.failed c.args.shelf.now) (g.S.Shelf.failed c.with_both_files.new.shelf)
    (said c.args.command.now) (option_map (λ w. w.now) o) answer.status answer.text.items))
    (sym c.in-Some.is) c.with_both_files.ensures.due
