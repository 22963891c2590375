use Rattle.std.proofs.Common.{List, ℕ, arith}
use Rattle.hipc_search.specs.Told.{entry_of}
use Rattle.hipc_search.proofs.States.{name_at, line_more, lines_there}
use Rattle.hipc_search.proofs.listing.push_outcomes.Goals as goal

pub loop-place-preserved : goal.loop-place-preserved
loop-place-preserved c =
    let names : List (List ℕ) = c.args.names.now in
    let count = c.len-place-end.ensures.count in
    let within = c.loop-place-test.true in
    line_more names c.args.entries.now c.loop-place.place c.loop-place.text.items c.push_outcome.new.text.items _
    c.name_of.result.now (entry_of c.last_outcome-last.result) (omega (arith, count, within))
    (name_at names c.loop-place.place c.name_of.result.now c.name_of.ensures.1) c.last_outcome-last.ensures
    c.in_ok-push_outcome.ensures c.loop-place.invariant

pub returns : goal.returns
returns c =
    let count = c.len-place-end.ensures.count in
    let past = c.loop-place-test.false in
    lines_there c.args.names.now c.args.entries.now c.loop-place.place c.loop-place.text.items _ (omega (arith, count, past))
    c.loop-place.invariant
