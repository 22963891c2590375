use Rattle.std.proofs.Common.{append_assoc, arith}
use Rattle.trace_print.proofs.Pairs.{pair_behind}
use Rattle.trace_print.proofs.number.push_short.Goals as goal

pub returns-else-number-lt100-clause-text : goal.returns-else-number-lt100-clause-text
returns-else-number-lt100-clause-text g c =
    rw (
      pair_behind c.args.number (omega arith) c.ranges.number.fits,
      c.push_pair.ensures.text,
      c.push_tens-else-number-lt100.ensures.text,
    ) (simp (append_assoc))
