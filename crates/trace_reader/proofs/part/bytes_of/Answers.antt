use Rattle.std.proofs.Common.{refl, ◌≡◌, [], ◌∙◌, arith}
use Rattle.std.proofs.lemmas.List.{take_rest}
use Rattle.trace_reader.proofs.Again.{one_byte, no_byte, none_left, all_bytes}
use Rattle.trace_reader.specs.Words.{bytes_from}
use Rattle.trace_reader.proofs.part.bytes_of.Goals.{then-loop-left-test+else-rest-gt1, else-loop-left-test}
use Rattle.trace_reader.proofs.part.bytes_of.Goals as goal

pub loop-left-preserved : goal.loop-left-preserved
loop-left-preserved c =
    record {
      room = omega (arith, c.push.ensures.len, c.loop-left.invariant.room, c.loop-left-test.true);
      whole = rw (take_rest, c.push.ensures.items)
          (one_byte c.loop-left.bytes.items c.loop-left.rest.now _ c.loop-left.left _ (omega (arith, c.loop-left-test.true)) (omega (arith, c.if-rest-gt1.true))
          (rw (c.digit_of.ensures.value, c.digit_of-in-loop-left.ensures.value) refl) c.loop-left.invariant.whole);
    }

pub returns : goal.returns
returns c =
    let none : bytes_from c.loop-left.left c.loop-left.rest.now ≡ [] = elim c.loop-left-test.branch [
      | then-loop-left-test+else-rest-gt1 w ↦ no_byte c.loop-left.left c.loop-left.rest.now (omega (arith, w.if-rest-gt1))
      | else-loop-left-test w ↦ none_left c.loop-left.left c.loop-left.rest.now (omega (arith, w.loop-left-test))
    ] in
    rw (c.unwrap.ensures) at c.from_slice.ensures.bytes
    ∙ c.as_slice.ensures.value
    ∙ all_bytes c.loop-left.bytes.items (bytes_from c.loop-left.left c.loop-left.rest.now) (bytes_from 64 c.args.word.now) none c.loop-left.invariant.whole
