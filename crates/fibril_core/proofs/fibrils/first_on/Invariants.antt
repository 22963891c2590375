use Rattle.fibril_core.proofs.Queues.{NoneBefore}
use Rattle.fibril_core.proofs.fibrils.first_on.Given as goal

-- none that the loop saw is blocked on that
abbrev pub invariant-loop-i : goal.invariant-loop-i
invariant-loop-i l = NoneBefore l.live.order l.why l.waiting.items l.i
