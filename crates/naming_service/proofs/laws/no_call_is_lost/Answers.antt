use Rattle.naming_service.proofs.Calls.{received_is_kept, pending_is_kept}
use Rattle.naming_service.proofs.EndLaws.{waiting_is_kept}
use Rattle.naming_service.proofs.laws.no_call_is_lost.Goals as goal

pub returns-clause-received : goal.returns-clause-received
returns-clause-received c = received_is_kept

pub returns-clause-pending : goal.returns-clause-pending
returns-clause-pending c = pending_is_kept

pub returns-clause-waiting : goal.returns-clause-waiting
returns-clause-waiting c = waiting_is_kept
