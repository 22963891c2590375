use Rattle.std.proofs.Common.{arith, ◌∙◌}
use Rattle.std.proofs.lemmas.List.{length-set}
use Rattle.trace_print.proofs.Pairs.{three_left, one_left, two_left, count_step, pair_step, last_pair, last_digit}
use Rattle.trace_print.proofs.number.digits_of.Goals as goal

pub overflow_sub-at : goal.overflow_sub-at
overflow_sub-at c =
    let l = c.loop-left in
    omega (arith, three_left c.args.number l.left l.at c.ranges.number.fits l.auto.left-fits.fits c.loop-left-test.true l.invariant.count)

pub loop-left-preserved : goal.loop-left-preserved
loop-left-preserved c =
    let l = c.loop-left in
    let some = three_left c.args.number l.left l.at c.ranges.number.fits l.auto.left-fits.fits c.loop-left-test.true l.invariant.count in
    record {
      inside = omega (arith, l.invariant.inside);
      whole = length-set _ _ _ ∙ length-set _ _ _ ∙ l.invariant.whole;
      count = count_step c.args.number l.left l.at c.loop-left-test.true l.auto.left-fits.fits some l.invariant.count;
      text = pair_step c.args.number l.left l.at l.digits l.auto.left-fits.fits c.loop-left-test.true (omega (arith, some)) (omega (arith, l.invariant.inside, l.invariant.whole)) l.invariant.text;
    }

pub overflow_sub-digits : goal.overflow_sub-digits
overflow_sub-digits c = one_left c.args.number c.loop-left.left c.loop-left.at c.ranges.number.fits c.loop-left.auto.left-fits.fits c.loop-left.invariant.count

pub overflow_sub-result : goal.overflow_sub-result
overflow_sub-result c = one_left c.args.number c.loop-left.left c.loop-left.at c.ranges.number.fits c.loop-left.auto.left-fits.fits c.loop-left.invariant.count

pub returns-then-left-lt10-clause-text : goal.returns-then-left-lt10-clause-text
returns-then-left-lt10-clause-text c =
    let l = c.loop-left in
    let some = one_left c.args.number l.left l.at c.ranges.number.fits l.auto.left-fits.fits l.invariant.count in
    last_digit c.args.number l.left l.at l.digits c.if-left-lt10.true some (omega (arith, l.invariant.inside, l.invariant.whole)) l.invariant.text

pub overflow_sub-digits-2 : goal.overflow_sub-digits-2
overflow_sub-digits-2 c = one_left c.args.number c.loop-left.left c.loop-left.at c.ranges.number.fits c.loop-left.auto.left-fits.fits c.loop-left.invariant.count

pub overflow_sub-digits-3 : goal.overflow_sub-digits-3
overflow_sub-digits-3 c =
    two_left c.args.number c.loop-left.left c.loop-left.at c.ranges.number.fits (omega (arith, c.if-left-lt10.false)) (omega (arith, c.loop-left-test.false)) c.loop-left.invariant.count

pub overflow_sub-result-2 : goal.overflow_sub-result-2
overflow_sub-result-2 c =
    two_left c.args.number c.loop-left.left c.loop-left.at c.ranges.number.fits (omega (arith, c.if-left-lt10.false)) (omega (arith, c.loop-left-test.false)) c.loop-left.invariant.count

pub returns-clause-text : goal.returns-clause-text
returns-clause-text c =
    let l = c.loop-left in
    let some = two_left c.args.number l.left l.at c.ranges.number.fits (omega (arith, c.if-left-lt10.false)) (omega (arith, c.loop-left-test.false)) l.invariant.count in
    last_pair c.args.number l.left l.at l.digits (omega (arith, c.if-left-lt10.false)) (omega (arith, c.loop-left-test.false)) some
    (omega (arith, l.invariant.inside, l.invariant.whole)) l.invariant.text
