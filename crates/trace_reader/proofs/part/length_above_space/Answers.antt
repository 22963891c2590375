use Rattle.std.proofs.Common.{drop, ◌∙◌, ap, arith}
use Rattle.std.proofs.lemmas.List.{take_rest, length-drop, drop-drop}
use Rattle.trace_reader.proofs.Lines.{pass_one, none_passed, pass_on}
use Rattle.trace_reader.proofs.part.length_above_space.Goals as goal

pub returns-then-b-le32-clause-skips : goal.returns-then-b-le32-clause-skips
returns-then-b-le32-clause-skips c =
    let rest = c.loop-rest.rest.now in
    let one = pass_one rest 0 (omega (arith, c.in-len4-up.len_at_least)) c.if-a-le32.false (none_passed rest) in
    pass_on c.args.text.now rest c.loop-rest.count 1 _ c.loop-rest.invariant.is one c.loop-rest.invariant.skips

pub returns-then-c-le32-clause-skips : goal.returns-then-c-le32-clause-skips
returns-then-c-le32-clause-skips c =
    let rest = c.loop-rest.rest.now in
    let one = pass_one rest 0 (omega (arith, c.in-len4-up.len_at_least)) c.if-a-le32.false (none_passed rest) in
    let two = pass_one rest 1 (omega (arith, c.in-len4-up.len_at_least)) c.if-b-le32.false one in
    pass_on c.args.text.now rest c.loop-rest.count 2 _ c.loop-rest.invariant.is two c.loop-rest.invariant.skips

pub returns-then-d-le32-clause-skips : goal.returns-then-d-le32-clause-skips
returns-then-d-le32-clause-skips c =
    let rest = c.loop-rest.rest.now in
    let one = pass_one rest 0 (omega (arith, c.in-len4-up.len_at_least)) c.if-a-le32.false (none_passed rest) in
    let two = pass_one rest 1 (omega (arith, c.in-len4-up.len_at_least)) c.if-b-le32.false one in
    let three = pass_one rest 2 (omega (arith, c.in-len4-up.len_at_least)) c.if-c-le32.false two in
    pass_on c.args.text.now rest c.loop-rest.count 3 _ c.loop-rest.invariant.is three c.loop-rest.invariant.skips

pub loop-rest-preserved : goal.loop-rest-preserved
loop-rest-preserved c =
    let rest = c.loop-rest.rest.now in
    let one = pass_one rest 0 (omega (arith, c.in-len4-up.len_at_least)) c.if-a-le32.false (none_passed rest) in
    let two = pass_one rest 1 (omega (arith, c.in-len4-up.len_at_least)) c.if-b-le32.false one in
    let three = pass_one rest 2 (omega (arith, c.in-len4-up.len_at_least)) c.if-c-le32.false two in
    let four = pass_one rest 3 (omega (arith, c.in-len4-up.len_at_least)) c.if-d-le32.false three in
    record {
      within = rw (take_rest) (omega (arith, length-drop 4 rest, c.loop-rest.invariant.within, c.in-len4-up.len_at_least));
      is = rw (take_rest) (ap (drop 4) c.loop-rest.invariant.is ∙ drop-drop 4 c.loop-rest.count c.args.text.now);
      skips = rw (take_rest) (omega (arith, four, c.loop-rest.invariant.skips));
    }
