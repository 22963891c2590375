use Rattle.std.proofs.Common.{None}
use Rattle.async_task.proofs.Listed.{listed_set}
use Rattle.async_task.proofs.contexts.Contexts.remove.Goals as goal

pub returns : goal.returns
returns c =
    let i = c.self.inside in
    record {
      kept =
          rw (← c.self.view_is)
          (listed_set i.made i.kept.entries c.swap_remove.new.self.entries c.args.place None
          (record { at = c.swap_remove.ensures.updates.0 }));
    }
