use Rattle.std.proofs.Common.{◌≡◌, ◌≢◌, [], length, sym, ap, ◌∙◌, arith, false-eqb}
use Rattle.trace_print.proofs.Comparing.{no_items}
use Rattle.law_check.specs.Passing.{in_order}
use Rattle.law_check.proofs.Found.{reads_on, first_bad, bad_is_unlawful, is_trace, entries_are, is_lawful, is_unlawful}
use Rattle.law_check.proofs.finding.check_trace.Goals as goal

pub loop-reader-preserved : goal.loop-reader-preserved
loop-reader-preserved c =
    let to = c.loop-reader.invariant in
    reads_on c.args.bytes.now c.loop-reader.rest.now c.in-Some.behind.now c.in-Some.entry c.loop-reader.reading c.take.new.self to
    c.in-Some.ensures.some c.in-Some.ensures.built c.in-Some.ensures.shorter (c.in_ok-take-in-Some.ensures.read to.past to.read)
    c.in_ok-take-in-Some.ensures.more c.in_ok-take-in-Some.ensures.events

pub returns-in-None-clause-is : goal.returns-in-None-clause-is
returns-in-None-clause-is c =
    let rest = c.loop-reader.rest.now in
    let some : length rest ≢ 0 = false-eqb (length rest) 0 (sym c.loop-reader-test.true ∙ c.is_empty.ensures) in (
      omega (arith, c.if-bytes-gt-MOST.false),
      first_bad c.args.bytes.now rest c.loop-reader.reading c.loop-reader.invariant (λ e. some (ap length e)) c.in-None.ensures.none,
    )

pub returns-in-None-clause-lawful : goal.returns-in-None-clause-lawful
returns-in-None-clause-lawful c =
    let rest = c.loop-reader.rest.now in
    let some : length rest ≢ 0 = false-eqb (length rest) 0 (sym c.loop-reader-test.true ∙ c.is_empty.ensures) in (
      λ f. absurd f,
      λ l. bad_is_unlawful c.args.bytes.now rest c.loop-reader.reading c.loop-reader.invariant (λ e. some (ap length e)) c.in-None.ensures.none l,
    )

pub returns-in-Lawful-clause-is : goal.returns-in-Lawful-clause-is
returns-in-Lawful-clause-is c =
    let to = c.loop-reader.invariant in
    let none : c.loop-reader.rest.now ≡ [] = no_items c.loop-reader.rest.now (sym c.is_empty.ensures ∙ c.loop-reader-test.false) in (
      omega (arith, c.if-bytes-gt-MOST.false),
      in_order to.past [],
      is_trace c.args.bytes.now c.loop-reader.rest.now c.loop-reader.reading to none,
      rw (c.in-Lawful.is) at c.verdict.ensures to.past to.read.judges,
      entries_are c.args.bytes.now c.loop-reader.rest.now c.loop-reader.reading to,
    )

pub returns-in-Lawful-clause-lawful : goal.returns-in-Lawful-clause-lawful
returns-in-Lawful-clause-lawful c =
    let to = c.loop-reader.invariant in
    let none : c.loop-reader.rest.now ≡ [] = no_items c.loop-reader.rest.now (sym c.is_empty.ensures ∙ c.loop-reader-test.false) in
    let text = is_trace c.args.bytes.now c.loop-reader.rest.now c.loop-reader.reading to none in
    let verdict = rw (c.in-Lawful.is) at c.verdict.ensures to.past to.read.judges in (
      λ t. is_lawful c.args.bytes.now (in_order to.past []) c.in-Lawful.calls (omega (arith, c.if-bytes-gt-MOST.false)) text verdict,
      λ l. tt,
    )

pub returns-clause-is : goal.returns-clause-is
returns-clause-is c =
    let to = c.loop-reader.invariant in
    let none : c.loop-reader.rest.now ≡ [] = no_items c.loop-reader.rest.now (sym c.is_empty.ensures ∙ c.loop-reader-test.false) in (
      omega (arith, c.if-bytes-gt-MOST.false),
      in_order to.past [],
      is_trace c.args.bytes.now c.loop-reader.rest.now c.loop-reader.reading to none,
      rw (c.in-Breaks.is) at c.verdict.ensures to.past to.read.judges,
    )

pub returns-clause-lawful : goal.returns-clause-lawful
returns-clause-lawful c =
    let to = c.loop-reader.invariant in
    let none : c.loop-reader.rest.now ≡ [] = no_items c.loop-reader.rest.now (sym c.is_empty.ensures ∙ c.loop-reader-test.false) in
    let text = is_trace c.args.bytes.now c.loop-reader.rest.now c.loop-reader.reading to none in
    let verdict = rw (c.in-Breaks.is) at c.verdict.ensures to.past to.read.judges in (
      λ f. absurd f,
      λ l. is_unlawful c.args.bytes.now (in_order to.past []) c.in-Breaks.law text verdict l,
    )
