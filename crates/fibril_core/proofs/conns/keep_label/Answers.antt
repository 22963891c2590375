use Rattle.fibril_core.proofs.conns.keep_label.Goals as goal

pub returns-clause-kept : goal.returns-clause-kept
returns-clause-kept c = record { at = (rw c.unwrap.ensures at c.insert.ensures.updates).0 }
