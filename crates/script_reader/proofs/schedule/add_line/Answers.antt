use Rattle.std.proofs.Common.{rules, refl}
use Rattle.script_reader.proofs.schedule.add_line.Goals as goal

pub returns-in_err-add_events-in-Some-clause-value : goal.returns-in_err-add_events-in-Some-clause-value
returns-in_err-add_events-in-Some-clause-value c =
    let says = c.in-Some.ensures c.args.names.now c.requires in
    let said = says.said c.args.templates.now (record { events = c.args.events.now; names = c.args.names.now }) refl in
    search (rules, said)

pub returns-in_ok-add_events-in-Some-clause-value : goal.returns-in_ok-add_events-in-Some-clause-value
returns-in_ok-add_events-in-Some-clause-value c =
    let says = c.in-Some.ensures c.args.names.now c.requires in
    let said = says.said c.args.templates.now (record { events = c.args.events.now; names = c.args.names.now }) refl in
    search (rules, said)

pub returns-in_ok-add_events-in-Some-clause-behind : goal.returns-in_ok-add_events-in-Some-clause-behind
returns-in_ok-add_events-in-Some-clause-behind c =
    let says = c.in-Some.ensures c.args.names.now c.requires in
    let left = says.left in
    search (rules, left)
