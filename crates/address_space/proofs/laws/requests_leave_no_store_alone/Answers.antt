use Rattle.address_space.proofs.Held.{held_none, held_task, held_make, held_drop, held_write, held_share}
use Rattle.address_space.proofs.laws.requests_leave_no_store_alone.Goals as goal

pub returns-clause-first : goal.returns-clause-first
returns-clause-first c = held_none

pub returns-clause-task : goal.returns-clause-task
returns-clause-task c = held_task

pub returns-clause-make : goal.returns-clause-make
returns-clause-make c = held_make

pub returns-clause-drop_area : goal.returns-clause-drop_area
returns-clause-drop_area c = held_drop

pub returns-clause-write : goal.returns-clause-write
returns-clause-write c = held_write

pub returns-clause-share : goal.returns-clause-share
returns-clause-share c = held_share
