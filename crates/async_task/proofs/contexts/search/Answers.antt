use Rattle.std.proofs.Common.{sym}
use Rattle.async_task.proofs.Listed.{stands}
use Rattle.async_task.proofs.contexts.search.Goals as goal

pub returns-in-Some : goal.returns-in-Some
returns-in-Some c =
    stands c.args.place c.args.kept.now.entries _ c.in-Some.position _ (sym c.in-Some.ensures.key)
    c.in-Some.ensures.entry
