use Rattle.run_laws.proofs.RunHistories.{start_told}
use Rattle.schedule_replay.proofs.machine.Replay.new.Goals as goal

pub returns-in-Ok-clause-history : goal.returns-in-Ok-clause-history
returns-in-Ok-clause-history c =
    rw
    (c.in-Ok.ensures.state, ← c.script.view_is)
    (start_told (record { tasks = c.script.inside.tasks; wires = c.script.inside.wires; templates = c.script.inside.templates }) c.script.invariant)
