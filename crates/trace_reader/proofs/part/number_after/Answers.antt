use Rattle.std.proofs.Common.{◌∙◌}
use Rattle.trace_reader.proofs.Numbers.{pair_on}
use Rattle.trace_reader.proofs.part.number_after.Goals as goal

pub loop-rest-preserved : goal.loop-rest-preserved
loop-rest-preserved c =
    rw (c.from.ensures, c.from-in-len2-up.ensures)
    (pair_on c.loop-rest.number c.loop-rest.rest.now c.in-len2-up.len_at_least ∙ c.loop-rest.invariant)
