use Rattle.kernel_determined.proofs.Machines.{one_served, served_memory, served_phone, served_call, served_told}
use Rattle.kernel_determined.proofs.requests.changed_requests_break_a_law.Goals as goal

pub returns-clause-memory : goal.returns-clause-memory
returns-clause-memory c = served_memory

pub returns-clause-phone : goal.returns-clause-phone
returns-clause-phone c = served_phone

pub returns-clause-call : goal.returns-clause-call
returns-clause-call c = served_call

pub returns-clause-entries : goal.returns-clause-entries
returns-clause-entries c = served_told

pub returns-clause-one : goal.returns-clause-one
returns-clause-one c = one_served
