use Rattle.std.proofs.Common.{refl}
use Rattle.async_task.proofs.machine.Machine.start_in.Goals as goal

pub returns-clause-state : goal.returns-clause-state
returns-clause-state c =
    rw (c.if-connection.false, c.add_fibril.ensures, c.new.ensures, c.reserve_fibril.ensures.state) refl
