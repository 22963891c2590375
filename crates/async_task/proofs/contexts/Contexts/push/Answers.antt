use Rattle.async_task.proofs.Listed.{listed_push}
use Rattle.async_task.proofs.contexts.Contexts.push.Goals as goal

pub returns : goal.returns
returns c =
    let i = c.self.inside in
    record {
      kept =
          rw (← c.self.view_is)
          (listed_push i.made i.kept.entries c.insert.new.self.entries c.args.t (record { at = (rw c.unwrap.ensures at c.insert.ensures.updates).0 }));
    }
