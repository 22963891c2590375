use Rattle.std.proofs.Common.{sym}
use Rattle.async_task.proofs.Listed.{stands_there}
use Rattle.async_task.proofs.contexts.position_of.Goals as goal

pub returns-in-Some : goal.returns-in-Some
returns-in-Some c =
    stands_there c.args.place c.args.kept.now.entries _ c.args.last _ c.if-key-place.true
    (sym c.in-Some.ensures.entry)
