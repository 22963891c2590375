use Rattle.std.proofs.Common.{arith}
use Rattle.trace_print.proofs.Digits.{length_20, length_step, length_one}
use Rattle.trace_print.proofs.count.long_length.Goals as goal

pub overflow_add-length : goal.overflow_add-length
overflow_add-length c =
    omega (arith, length_20 c.args.number c.ranges.number.fits, c.loop-left.invariant)

pub loop-left-preserved : goal.loop-left-preserved
loop-left-preserved c =
    let l = c.loop-left in
    omega (arith, length_step l.left c.loop-left-test.true l.auto.left-fits.fits, l.invariant)

pub returns-clause-length : goal.returns-clause-length
returns-clause-length c =
    omega (arith, length_one c.loop-left.left c.loop-left-test.false, c.loop-left.invariant)

pub returns-clause-most : goal.returns-clause-most
returns-clause-most c =
    omega (
      arith,
      length_20 c.args.number c.ranges.number.fits,
      length_one c.loop-left.left c.loop-left-test.false,
      c.loop-left.invariant,
    )
