use Rattle.std.proofs.Common.{arith}
use Rattle.hipc_search.specs.Asking.{said_first}
use Rattle.hipc_search.proofs.Following.{read_made, few_read}
use Rattle.hipc_search.proofs.goal.first_events.Goals as goal

pub returns-clause-spelled : goal.returns-clause-spelled
returns-clause-spelled c =
    read_made c.args.script.now c.args.bytes.now c.in_ok-events.events.items c.in_ok-names.names c.in_ok-events.ensures.value
    c.in_ok-names.ensures

pub returns-clause-value : goal.returns-clause-value
returns-clause-value c =
    let short = c.if-bytes-gt-MOST_FIRST_BYTES.false in
    let few = c.if-len-gt-MOST_FIRST_EVENTS.false in
    let count = c.len.ensures in
    few_read c.args.script.now c.args.bytes.now (said_first (c.in_ok-events.events, c.in_ok-names.names)) (omega (arith, short))
    (omega (arith, few, count))
    (read_made c.args.script.now c.args.bytes.now c.in_ok-events.events.items c.in_ok-names.names c.in_ok-events.ensures.value
    c.in_ok-names.ensures)
