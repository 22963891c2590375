use Rattle.std.proofs.Common.{suc, ◌≡◌, ◌≢◌, ◌<◌, ◌+◌, ◌⊎◌, [], length, take, drop, refl, sym, ap, ◌∙◌, arith, add-one, false-eqb, inl, inr}
use Rattle.std.specs.Prelude.{slice_index}
use Rattle.std.proofs.lemmas.List.{take_rest, length-drop}
use Rattle.trace_reader.specs.Words.{before}
use Rattle.trace_reader.specs.Read.{parts, texts}
use Rattle.trace_reader.proofs.Parts.{word_on, all_words}
use Rattle.trace_reader.proofs.Lines.{first_word, take_word, is_last, last_length, goes_on, longer, ends_at}
use Rattle.trace_reader.proofs.part.first_line.Goals.{then-count-rest-2-via-then-count-rest-2, then-count-rest-2-via-else-count-rest-2+then-rest-count-eq10}
use Rattle.trace_reader.proofs.part.first_line.Goals as goal

-- a word behind which a space stands
pub loop-count-preserved-then-rest-count-eq32 : goal.loop-count-preserved-then-rest-count-eq32
loop-count-preserved-then-rest-count-eq32 c =
    let rest = c.loop-count.rest.now in
    let n = c.length_above_space-count.result in
    let same : n ≡ length (first_word rest) = ends_at rest n c.if-count-rest.true c.if-rest-count-eq32.true c.length_above_space-count.ensures.skips in
    let low : length (first_word rest) < length rest = omega (arith, same, c.if-count-rest.true) in
    let on : (slice_index rest (length (first_word rest)) ≡ 10 → ⊥) = λ e. absurd (omega (arith, c.if-rest-count-eq32.true, ap (slice_index rest) same, e)) in
    let is : drop (n + 1) rest ≡ drop (suc (length (first_word rest))) rest = rw (same, add-one) refl in
    let word_is : take n rest ≡ first_word rest = rw (same) (take_word rest) in
    let apart : length c.loop-count.words ≢ 13 = false-eqb (length c.loop-count.words) 13 (sym c.loop-count-test.true ∙ c.is_full.ensures.value) in
    let room : length c.loop-count.words < 13 = omega (arith, apart, c.is_full.ensures.fits) in
    record {
      within = rw (take_rest) (omega (arith, length-drop (n + 1) rest, c.loop-count.invariant.within));
      count = rw (take_rest, is) (omega (arith, longer rest low on, length-drop (suc (length (first_word rest))) rest, c.loop-count.invariant.count, low));
      whole = rw (take_rest, is)
          (word_on 13 c.loop-count.words c.push.new.self _ (before 10 rest) (before 10 (drop (suc (length (first_word rest))) rest)) (parts 13 0 (before 10 c.args.bytes.now))
          c.push.ensures word_is (goes_on rest low on) room c.loop-count.invariant.whole);
    }

-- any word but the last
pub loop-count-preserved : goal.loop-count-preserved
loop-count-preserved c =
    let rest = c.loop-count.rest.now in
    let n = c.length_above_space-count.result + c.length_of_word.result in
    let more : c.length_of_word.result ≡ length (first_word (drop c.length_above_space-count.result rest)) = rw (take_rest) at c.length_of_word.ensures.length in
    let same : n ≡ length (first_word rest) = omega (arith, more, c.length_above_space-count.ensures.skips) in
    let within : n < length rest = omega (arith, c.if-count-rest-2.false, c.length_above_space-count.ensures.within, length-drop c.length_above_space-count.result rest, rw (take_rest) at c.length_of_word.ensures.within) in
    let low : length (first_word rest) < length rest = omega (arith, same, within) in
    let on : (slice_index rest (length (first_word rest)) ≡ 10 → ⊥) = λ e. c.if-rest-count-eq10.false (ap (slice_index rest) same ∙ e) in
    let is : drop (n + 1) rest ≡ drop (suc (length (first_word rest))) rest = rw (same, add-one) refl in
    let word_is : take n rest ≡ first_word rest = rw (same) (take_word rest) in
    let apart : length c.loop-count.words ≢ 13 = false-eqb (length c.loop-count.words) 13 (sym c.loop-count-test.true ∙ c.is_full.ensures.value) in
    let room : length c.loop-count.words < 13 = omega (arith, apart, c.is_full.ensures.fits) in
    record {
      within = rw (take_rest) (omega (arith, length-drop (n + 1) rest, c.loop-count.invariant.within));
      count = rw (take_rest, is) (omega (arith, longer rest low on, length-drop (suc (length (first_word rest))) rest, c.loop-count.invariant.count, low));
      whole = rw (take_rest, is)
          (word_on 13 c.loop-count.words c.push-in-loop-count.new.self _ (before 10 rest) (before 10 (drop (suc (length (first_word rest))) rest)) (parts 13 0 (before 10 c.args.bytes.now))
          c.push-in-loop-count.ensures word_is (goes_on rest low on) room c.loop-count.invariant.whole);
    }

pub returns-then-count-rest-2-clause-words : goal.returns-then-count-rest-2-clause-words
returns-then-count-rest-2-clause-words c =
    let rest = c.loop-count.rest.now in
    let n = c.length_above_space-count.result + c.length_of_word.result in
    let more : c.length_of_word.result ≡ length (first_word (drop c.length_above_space-count.result rest)) = rw (take_rest) at c.length_of_word.ensures.length in
    let same : n ≡ length (first_word rest) = omega (arith, more, c.length_above_space-count.ensures.skips) in
    let ends : (length (first_word rest) ≡ length rest) ⊎ (slice_index rest (length (first_word rest)) ≡ 10) = elim c.then-count-rest-2.branch [
      | then-count-rest-2-via-then-count-rest-2 w ↦ inl (omega (arith, same, w.if-count-rest-2))
      | then-count-rest-2-via-else-count-rest-2+then-rest-count-eq10 w ↦ inr (omega (arith, ap (slice_index rest) same, w.if-rest-count-eq10))
    ] in
    let word_is : take n rest ≡ first_word rest = rw (same) (take_word rest) in
    let apart : length c.loop-count.words ≢ 13 = false-eqb (length c.loop-count.words) 13 (sym c.loop-count-test.true ∙ c.is_full.ensures.value) in
    let room : length c.loop-count.words < 13 = omega (arith, apart, c.is_full.ensures.fits) in
    all_words (texts c.push-in-loop-count.new.self) (parts 13 0 (before 10 c.args.bytes.now)) _ [] (inr refl)
    (word_on 13 c.loop-count.words c.push-in-loop-count.new.self _ (before 10 rest) [] (parts 13 0 (before 10 c.args.bytes.now))
    c.push-in-loop-count.ensures word_is (sym (is_last rest ends)) room c.loop-count.invariant.whole)

pub returns-then-count-rest-2-clause-length : goal.returns-then-count-rest-2-clause-length
returns-then-count-rest-2-clause-length c =
    let rest = c.loop-count.rest.now in
    let more : c.length_of_word.result ≡ length (first_word (drop c.length_above_space-count.result rest)) = rw (take_rest) at c.length_of_word.ensures.length in
    let same : c.length_above_space-count.result + c.length_of_word.result ≡ length (first_word rest) = omega (arith, more, c.length_above_space-count.ensures.skips) in
    let ends : (length (first_word rest) ≡ length rest) ⊎ (slice_index rest (length (first_word rest)) ≡ 10) = elim c.then-count-rest-2.branch [
      | then-count-rest-2-via-then-count-rest-2 w ↦ inl (omega (arith, same, w.if-count-rest-2))
      | then-count-rest-2-via-else-count-rest-2+then-rest-count-eq10 w ↦ inr (omega (arith, ap (slice_index rest) same, w.if-rest-count-eq10))
    ] in
    omega (arith, c.loop-count.invariant.count, c.loop-count.invariant.within, last_length rest ends, same)
