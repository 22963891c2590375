use Rattle.switchboard.proofs.Keeping.{phone_of}
use Rattle.switchboard.proofs.Inner.{inner}
use Rattle.switchboard.proofs.Switched.{leads_of}
use Rattle.switchboard.proofs.board.Switchboard.phone.Goals as goal

pub returns-clause-leads : goal.returns-clause-leads
returns-clause-leads c =
    let i = c.self.inside in
    rw (← c.self.view_is) (leads_of (inner i) c.args.t.0 c.args.phone c.state.result c.self.invariant.0.leads (phone_of i.phones.states c.args.t.0 c.args.phone c.row.result.now.states c.state.result c.row.ensures.states c.state.ensures.state))
