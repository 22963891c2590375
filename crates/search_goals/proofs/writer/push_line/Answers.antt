use Rattle.std.proofs.Common.{subst}
use Rattle.ipc_ids.proofs.Common.{then_on_ok}
use Rattle.script_lines.specs.Names.{task_names}
use Rattle.search_goals.specs.Writing.{IsStep}
use Rattle.search_goals.proofs.Texts.{step_written, kill_written, hangup_written, made_written, once}
use Rattle.search_goals.proofs.writer.push_line.Goals as goal

pub returns-in-Step : goal.returns-in-Step
returns-in-Step c =
    then_on_ok c.push_step.result c.push_step.ensures
    (step_written (task_names c.args.script.now.templates) c.args.names.now c.in-Step.task c.name_of.result.now c.args.text.now.items
    c.push_step.new.text.items c.args.event c.args.count c.name_of.ensures c.in-Step.is c.requires.some
    c.requires.few)

pub returns-in-Kill : goal.returns-in-Kill
returns-in-Kill c =
    then_on_ok c.push_rest.result c.push_rest.ensures
    (kill_written (task_names c.args.script.now.templates) c.args.names.now c.in-Kill.task c.name_of-in-Kill.result.now
    c.args.text.now.items c.push_rest.new.text.items c.args.event c.args.count c.name_of-in-Kill.ensures
    c.in-Kill.is
    (once c.args.event c.args.count c.requires.times (λ step. subst IsStep c.in-Kill.is step)))

pub returns-in-Hangup : goal.returns-in-Hangup
returns-in-Hangup c =
    then_on_ok c.push_hangup.result c.push_hangup.ensures.text
    (hangup_written (task_names c.args.script.now.templates) c.args.names.now c.in-Hangup.task c.name_of-in-Hangup.result.now
    c.args.text.now.items c.push_hangup.new.text.items c.args.event c.args.count c.name_of-in-Hangup.ensures
    c.in-Hangup.phone c.in-Hangup.is
    (once c.args.event c.args.count c.requires.times (λ step. subst IsStep c.in-Hangup.is step))
    c.push_hangup.ensures.fits)

pub returns-in-Spawn : goal.returns-in-Spawn
returns-in-Spawn c =
    then_on_ok c.push_made.result c.push_made.ensures
    (made_written (task_names c.args.script.now.templates) c.args.names.now c.push_made.new.names c.in-Spawn.place
    c.args.text.now.items c.push_made.new.text.items c.args.event c.args.count c.in-Spawn.is
    (once c.args.event c.args.count c.requires.times (λ step. subst IsStep c.in-Spawn.is step)))
