use Rattle.std.proofs.Common.{List, ℕ, ap, ◌≡◌, ◌<◌, length, take, sym, ◌∙◌, arith, add-one}
use Rattle.std.proofs.lemmas.List.{take_rest}
use Rattle.trace_reader.specs.Words.{before}
use Rattle.trace_reader.specs.Read.{nth, parts}
use Rattle.trace_reader.proofs.Parts.{take_before, drop_behind}
use Rattle.trace_reader.proofs.Ranges.{read_is_built}
use Rattle.trace_reader.proofs.ReadAgain.{first_line, behind_is_shorter, no_feed, not_read, is_plain, unread}
use Rattle.trace_reader.proofs.Words.{same_entry}
use Rattle.trace_reader.proofs.trace.Reader.first_entry.Goals as goal

pub returns-then-count-bytes-clause-none : goal.returns-then-count-bytes-clause-none
returns-then-count-bytes-clause-none c =
    no_feed c.args.bytes.now (sym c.first_line-count.ensures.length ∙ c.if-count-bytes.true)

pub returns-then-is_of-clause-some : goal.returns-then-is_of-clause-some
returns-then-is_of-clause-some c =
    let bytes = c.args.bytes.now in
    let line_is : take c.first_line-count.result bytes ≡ before 10 bytes = rw (c.first_line-count.ensures.length) (take_before 10 bytes) in
    let within : length (before 10 bytes) < length bytes = omega (arith, c.first_line-count.ensures.length, c.first_line-count.ensures.within, c.if-count-bytes.false) in
    rw (take_rest, c.first_line-count.ensures.length, add-one, drop_behind 10 bytes)
    (first_line c.entry_in-entry.result bytes (take c.first_line-count.result bytes) line_is within (c.is_of.ensures.0 c.if-is_of.true))

pub returns-then-is_of-clause-built : goal.returns-then-is_of-clause-built
returns-then-is_of-clause-built c =
    let bytes = c.args.bytes.now in
    let line = take c.first_line-count.result bytes in
    let line_is : line ≡ before 10 bytes = rw (c.first_line-count.ensures.length) (take_before 10 bytes) in
    let e = c.entry_in-entry.ensures ∙ same_entry _ _ (λ i. c.first_line-count.ensures.words i ∙ ap (λ (l : List ℕ). nth (parts 13 0 l) i) (sym line_is)) in
    let text = rw (e) at c.is_of.ensures.0 c.if-is_of.true in
    rw (e) (read_is_built line (is_plain line text))

pub returns-then-is_of-clause-shorter : goal.returns-then-is_of-clause-shorter
returns-then-is_of-clause-shorter c =
    let bytes = c.args.bytes.now in
    let within : length (before 10 bytes) < length bytes = omega (arith, c.first_line-count.ensures.length, c.first_line-count.ensures.within, c.if-count-bytes.false) in
    rw (take_rest, c.first_line-count.ensures.length, add-one, drop_behind 10 bytes) (behind_is_shorter bytes within)

pub returns-else-is_of-clause-none : goal.returns-else-is_of-clause-none
returns-else-is_of-clause-none c =
    let bytes = c.args.bytes.now in
    let line = take c.first_line-count.result bytes in
    let line_is : line ≡ before 10 bytes = rw (c.first_line-count.ensures.length) (take_before 10 bytes) in
    let e = c.entry_in-entry.ensures ∙ same_entry _ _ (λ i. c.first_line-count.ensures.words i ∙ ap (λ (l : List ℕ). nth (parts 13 0 l) i) (sym line_is)) in
    let test = rw (e) at c.is_of.ensures.1 in
    not_read bytes line line_is (λ entry built text. unread entry line c.is_of.result test c.if-is_of.false built text)
