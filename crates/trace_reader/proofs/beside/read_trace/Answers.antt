use Rattle.std.proofs.Common.{ℕ, ◌≡◌, ◌≢◌, ◌++◌, List, [], length, sym, ap, ◌∙◌, arith, false-eqb}
use Rattle.std.proofs.lemmas.List.{append-nil}
use Rattle.trace_print.specs.Text.{text_of}
use Rattle.trace_print.proofs.Comparing.{no_items}
use Rattle.trace_reader.proofs.Only.{no_bad, one_list}
use Rattle.trace_reader.proofs.ReadAgain.{first_bad, read_on}
use Rattle.trace_reader.proofs.beside.read_trace.Goals as goal

pub returns-in-None-clause-bad : goal.returns-in-None-clause-bad
returns-in-None-clause-bad c =
    let rest = c.loop-reader.rest.now in
    let some : length rest ≢ 0 = false-eqb (length rest) 0 (sym c.loop-reader-test.true ∙ c.is_empty.ensures) in
    λ line e.
    first_bad c.args.bytes.now rest c.loop-reader.trace.entries line c.loop-reader.invariant.text c.loop-reader.invariant.built (omega (arith, some))
    c.in-None.ensures.none (rw (c.entries.ensures) at e)

pub loop-reader-preserved : goal.loop-reader-preserved
loop-reader-preserved c =
    let both = read_on c.loop-reader.trace.entries c.in-Some.entry c.args.bytes.now c.loop-reader.rest.now c.in-Some.behind.now c.loop-reader.invariant.text c.loop-reader.invariant.built
    c.in-Some.ensures.built c.in-Some.ensures.some in
    record {
      text = rw (c.push.ensures.entries, c.reserve.ensures.entries) both.0;
      built = rw (c.push.ensures.entries, c.reserve.ensures.entries) both.1;
    }

pub returns-in-None-clause-only : goal.returns-in-None-clause-only
returns-in-None-clause-only c =
    let rest = c.loop-reader.rest.now in
    let some : length rest ≢ 0 = false-eqb (length rest) 0 (sym c.loop-reader-test.true ∙ c.is_empty.ensures) in
    λ fs built text.
    no_bad c.loop-reader.trace.entries fs rest c.loop-reader.invariant.built built (λ e. some (ap length e)) c.in-None.ensures.none
    (c.loop-reader.invariant.text ∙ sym text)

pub returns-clause-only : goal.returns-clause-only
returns-clause-only c =
    let rest = c.loop-reader.rest.now in
    let none : rest ≡ [] = no_items rest (sym c.is_empty.ensures ∙ c.loop-reader-test.false) in
    λ fs built text.
    one_list c.loop-reader.trace.entries fs c.loop-reader.invariant.built built
    (sym (append-nil (text_of c.loop-reader.trace.entries)) ∙ ap (λ (r : List ℕ). text_of c.loop-reader.trace.entries ++ r) (sym none) ∙ c.loop-reader.invariant.text ∙ sym text)
