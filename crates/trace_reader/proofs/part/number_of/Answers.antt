use Rattle.std.proofs.Common.{◌∙◌}
use Rattle.trace_reader.proofs.Numbers.{four_on}
use Rattle.trace_reader.proofs.part.number_of.Goals as goal

pub loop-rest-preserved : goal.loop-rest-preserved
loop-rest-preserved c =
    rw (c.from.ensures, c.from-in-len4-up.ensures, c.from-in-len4-up-2.ensures, c.from-in-len4-up-3.ensures)
    (four_on c.loop-rest.number c.loop-rest.rest.now c.in-len4-up.len_at_least ∙ c.loop-rest.invariant)
