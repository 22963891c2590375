use Rattle.std.proofs.Common.{arith}
use Rattle.script_reader.proofs.SpelledCounts.{none_spelled, one_more, no_more}
use Rattle.script_reader.proofs.step_line.cut_number.Goals as goal

pub loop-init : goal.loop-init
loop-init c = record {
  spelled = none_spelled c.args.text.now;
  small = omega arith;
}

pub returns-in_default : goal.returns-in_default
returns-in_default c = no_more c.loop.counter c.args.text.now c.loop.value c.loop.rest.now c.loop-test.true c.loop.invariant.spelled

pub loop-preserved : goal.loop-preserved
loop-preserved c =
    let small = c.if-value-le6553.true in
    let digit = c.from.ensures in
    record {
      spelled = rw digit (one_more c.loop.counter c.args.text.now c.loop.value c.loop.rest.now c.loop.invariant.spelled c.in-48-to-57.len_at_least (omega arith) (omega arith));
      small = omega (arith, small, digit);
    }
