use Rattle.kernel_laws.proofs.KillOrder.{kill_ends_waiting_first}
use Rattle.kernel_laws.proofs.KillLaws.{kill_ends_task, kill_leaves_nothing_of, kill_closes_phones, kill_closes_calls}
use Rattle.kernel_laws.proofs.KilledAreas.{kill_closes_areas}
use Rattle.kernel_laws.proofs.ToldHangups.{kill_tells_where_it_led}
use Rattle.kernel_laws.proofs.laws.kills_leave_nothing.Goals as goal

pub returns-clause-task : goal.returns-clause-task
returns-clause-task c = kill_ends_task

pub returns-clause-nothing : goal.returns-clause-nothing
returns-clause-nothing c = kill_leaves_nothing_of

pub returns-clause-order : goal.returns-clause-order
returns-clause-order c = kill_ends_waiting_first

pub returns-clause-phones : goal.returns-clause-phones
returns-clause-phones c = kill_closes_phones

pub returns-clause-calls : goal.returns-clause-calls
returns-clause-calls c = kill_closes_calls

pub returns-clause-areas : goal.returns-clause-areas
returns-clause-areas c = kill_closes_areas

pub returns-clause-told : goal.returns-clause-told
returns-clause-told c = kill_tells_where_it_led
