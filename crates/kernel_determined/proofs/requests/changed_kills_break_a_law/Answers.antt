use Rattle.kernel_determined.proofs.Machines.{one_killed, killed_memory, killed_phone, killed_call, killed_told}
use Rattle.kernel_determined.proofs.requests.changed_kills_break_a_law.Goals as goal

pub returns-clause-memory : goal.returns-clause-memory
returns-clause-memory c = killed_memory

pub returns-clause-phone : goal.returns-clause-phone
returns-clause-phone c = killed_phone

pub returns-clause-call : goal.returns-clause-call
returns-clause-call c = killed_call

pub returns-clause-entries : goal.returns-clause-entries
returns-clause-entries c = killed_told

pub returns-clause-one : goal.returns-clause-one
returns-clause-one c = one_killed
