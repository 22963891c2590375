use Rattle.async_task.proofs.Listed.{none_listed}
use Rattle.async_task.proofs.contexts.Contexts.new.Goals as goal

pub returns : goal.returns
returns c = record { kept = none_listed c.new.result.entries }
