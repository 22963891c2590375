use Rattle.std.proofs.Common.{rules, ◌≡◌, Some}
use Rattle.script_lines.specs.Names.{task_named}
use Rattle.script_reader.specs.Recent.{KnowsBoth}
use Rattle.script_reader.proofs.RecentSteps.{if_any}
use Rattle.script_reader.proofs.schedule.add_named_steps.Goals as goal

pub returns-clause-known : goal.returns-clause-known
returns-clause-known c =
    let has : task_named c.args.names.now c.args.name.now ≡ Some c.in-Some.task = search rules in
    let known = c.push.ensures c.args.names.now c.requires.known (c.requires.named, has) in
    if_any c.add_events.result (KnowsBoth c.args.names.now c.push.new.self) known
