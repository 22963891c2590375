use Rattle.switchboard.proofs.Inner.{inner}
use Rattle.switchboard.proofs.Switched.{switched_hung, tells_added, hung_there_after}
use Rattle.switchboard.proofs.board.Switchboard.hang_phone.Goals as goal

pub invariant_of-self : goal.invariant_of-self
invariant_of-self c =
    let i = c.self.inside in
    rw (c.hang_phone.ensures.states, c.hang_phone.ensures.counts)
    (switched_hung c.args.from.task.0 c.args.from.phone.0 c.hang_phone.result c.self.invariant.0 c.hang_phone.ensures.answer, c.self.invariant.1)

pub returns-clause-tells : goal.returns-clause-tells
returns-clause-tells c =
    let i = c.self.inside in
    tells_added (inner i) c.args.from.task.0 c.args.from.phone.0 c.hang_phone.result c.self.invariant.0.leads c.hang_phone.ensures.answer

pub returns-clause-there : goal.returns-clause-there
returns-clause-there c =
    let i = c.self.inside in
    rw c.hang_phone.ensures.states (hung_there_after i.phones.states c.args.from.task.0 c.args.from.phone.0 c.hang_phone.result c.hang_phone.ensures.answer)
