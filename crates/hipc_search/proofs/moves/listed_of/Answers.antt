use Rattle.std.proofs.Common.{◌+◌, ◌≤◌, ◌<◌, List, [], ◌∷◌, length, sym, ap, ◌∙◌, length-append, arith}
use Rattle.ipc_ids.specs.declared.message.Event.{Event}
use Rattle.script_lines.proofs.Lines.{here}
use Rattle.script_reader.specs.Reading.{lines_from}
use Rattle.hipc_search.specs.Moves.{with_listed, words_of, words_left, listed_of}
use Rattle.hipc_search.proofs.ListWords.{event_listed, fault_listed, one_too_many, less_left, first_of, others_of, cut_is}
use Rattle.hipc_search.proofs.moves.listed_of.Goals as goal

pub loop-left-smaller : goal.loop-left-smaller
loop-left-smaller c = rw c.in-Some.is (less_left c.in-Some.rest.now c.first_word.result.1 c.first_word.ensures.shorter)

pub loop-left-preserved : goal.loop-left-preserved
loop-left-preserved c =
    let kind = c.args.kind in
    let names = c.args.names.now in
    let so_far = c.loop-left.events.items in
    let told = rw c.in-Some.is at c.loop-left.invariant.told in
    let number = c.loop-left.invariant.number in
    let room : length so_far < 4096 = omega (arith, c.if-len-ge-MOST_LISTED.false) in
    let more = length-append so_far (c.in-Ok.event ∷ []) in
    let pushed = c.in_ok-push-in-Ok.ensures.items in
    record {
      told =
          ap (λ (es : List Event). lines_from (with_listed kind names) (c.loop-left.place + 1) es (words_left (here c.first_word.result.1))) pushed
          ∙ event_listed kind names c.loop-left.place so_far c.first_word.result.0.now (words_left (here c.first_word.result.1))
          (words_of c.in-Some.rest.now) (listed_of kind names c.args.text.now) c.first_word.ensures.cut told room c.in-Ok.event (sym c.event_in.ensures ∙ c.in-Ok.is);
      few = omega (arith, more, room, ap length pushed);
      number = omega (arith, more, number, ap length pushed);
    }

pub returns-then-len-ge-MOST_LISTED-clause-value : goal.returns-then-len-ge-MOST_LISTED-clause-value
returns-then-len-ge-MOST_LISTED-clause-value c =
    let kind = c.args.kind in
    let names = c.args.names.now in
    let told = rw c.in-Some.is at c.loop-left.invariant.told in
    let full : 4096 ≤ length c.loop-left.events.items = omega (arith, c.if-len-ge-MOST_LISTED.true) in
    one_too_many kind names c.loop-left.place c.loop-left.events.items (first_of c.in-Some.rest.now) (others_of c.in-Some.rest.now)
    (words_of c.in-Some.rest.now) (listed_of kind names c.args.text.now) (cut_is c.in-Some.rest.now) told full

pub returns-in-Err-clause-value : goal.returns-in-Err-clause-value
returns-in-Err-clause-value c =
    let kind = c.args.kind in
    let names = c.args.names.now in
    let told = rw c.in-Some.is at c.loop-left.invariant.told in
    let room : length c.loop-left.events.items < 4096 = omega (arith, c.if-len-ge-MOST_LISTED.false) in
    fault_listed kind names c.loop-left.place c.loop-left.events.items c.first_word.result.0.now (words_left (here c.first_word.result.1))
    (words_of c.in-Some.rest.now) (listed_of kind names c.args.text.now) c.first_word.ensures.cut told room c.in-Err.reason (sym c.event_in.ensures ∙ c.in-Err.is)
