use Rattle.async_task.proofs.machine.Machine.start_connection.Goals as goal

pub returns : goal.returns
returns c = record {
  state =
      rw (
        c.add_fibril.ensures,
        c.reach_holder.ensures.state,
        c.add_connection.ensures.state,
        c.received.ensures,
        c.new-t.ensures,
        c.holder-holder.ensures,
        c.next_number-f.ensures,
        ← c.self.view_is,
      );
  entries = rw (c.push.ensures.entries, c.next_number-f.ensures, ← c.self.view_is);
}
