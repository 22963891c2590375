use Rattle.naming_service.proofs.RegistrationLaws.{passes_pending_on, hands_over, services_differ}
use Rattle.naming_service.proofs.laws.registrations_lose_no_call.Goals as goal

pub returns-clause-pending : goal.returns-clause-pending
returns-clause-pending c = passes_pending_on

pub returns-clause-phones : goal.returns-clause-phones
returns-clause-phones c = hands_over

pub returns-clause-services : goal.returns-clause-services
returns-clause-services c = services_differ
