use Rattle.std.proofs.Common.{rules}
use Rattle.ipc_ids.specs.Tales.{tale, way}
use Rattle.ipc_ids.specs.Life.{life}
use Rattle.law_check.proofs.Calls.{stays, was_next}
use Rattle.law_check.proofs.lives.Lives.note.Goals as goal

pub returns-in-Accepted-clause-knows : goal.returns-in-Accepted-clause-knows
returns-in-Accepted-clause-knows c =
    let a = c.in-Accepted in
    λ p knows follows allowed.
    let next = was_next p a.call.0 a.from.task.0 a.from.phone.0 a.method (way a.to) (life a.call.0 p) (rw a.is at allowed) in
    rw a.is (c.accept.ensures.knows p a.call.0 a.from.phone.0 a.method knows next.0 next.1)

pub returns-in_default-clause-knows : goal.returns-in_default-clause-knows
returns-in_default-clause-knows c =
    λ p knows follows allowed. stays p c.args.self.now (tale c.args.entry.now) (search rules) knows follows
