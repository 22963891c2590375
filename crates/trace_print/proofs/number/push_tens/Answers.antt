use Rattle.std.proofs.Common.{arith}
use Rattle.std.proofs.lemmas.Fmt.{decimal_digit}
use Rattle.trace_print.proofs.Pairs.{tens}
use Rattle.trace_print.proofs.number.push_tens.Goals as goal

pub returns-then-number-lt10-clause-text : goal.returns-then-number-lt10-clause-text
returns-then-number-lt10-clause-text g c = rw (decimal_digit c.args.number (omega arith)) c.push.ensures.text

pub returns-else-number-lt10-clause-text : goal.returns-else-number-lt10-clause-text
returns-else-number-lt10-clause-text g c = rw (tens c.args.number (omega arith) c.requires.few) c.push_pair.ensures.text
