use Rattle.fibril_core.proofs.ConnIndex.{forgets_led, forgets_unled}
use Rattle.fibril_core.proofs.conns.forget_label.Goals as goal

pub returns-then-over-clause-forgotten : goal.returns-then-over-clause-forgotten
returns-then-over-clause-forgotten c =
    forgets_led c.args.over.now c.args.labels.now.entries c.swap_remove.new.self.entries c.if-over.true c.swap_remove.ensures.updates.0

pub returns-else-over-clause-forgotten : goal.returns-else-over-clause-forgotten
returns-else-over-clause-forgotten c = forgets_unled c.args.over.now c.args.labels.now.entries c.if-over.false
