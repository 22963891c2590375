use Rattle.std.proofs.Common.{rules, codes, subst}
use Rattle.script_lines.specs.Sound.{IsSound}
use Rattle.command_line.specs.Answer.{fault_line}
use Rattle.command_line.specs.Due.{DueForBytes, DueForSchedule}
use Rattle.command_line.specs.declared.status.Status.TheVariants.{BadScript}
use Rattle.command_line.proofs.Dues.{whole_on, part_on, kept_or_part_on}
use Rattle.command_line.proofs.Replaying.{read_first, lawful_of_read}
use Rattle.command_line.proofs.answer.replay_bytes.Goals as goal

pub returns-in-Err-Bad-clause-part : goal.returns-in-Err-Bad-clause-part
returns-in-Err-Bad-clause-part g c = λ w.
    let due : DueForBytes c.args.script.now c.args.schedule.now BadScript (fault_line (codes "script") (c.in-Err-Bad.line, c.in-Err-Bad.reason)) = search rules in
    (BadScript, fault_line (codes "script") (c.in-Err-Bad.line, c.in-Err-Bad.reason), due, c.tell_fault.ensures.part w)

pub returns-clause-whole : goal.returns-clause-whole
returns-clause-whole g c =
    whole_on (DueForSchedule c.in-Ok.script c.args.schedule.now) (DueForBytes c.args.script.now c.args.schedule.now) _ _ _
    (read_first c.args.script.now c.args.schedule.now c.in-Ok.script c.in-Ok.ensures.value) c.replay_schedule.ensures.whole

pub returns-clause-part : goal.returns-clause-part
returns-clause-part g c = λ w.
    part_on (DueForSchedule c.in-Ok.script c.args.schedule.now) (DueForBytes c.args.script.now c.args.schedule.now) _ _
    (read_first c.args.script.now c.args.schedule.now c.in-Ok.script c.in-Ok.ensures.value) (c.replay_schedule.ensures.part w)

pub returns-clause-memory : goal.returns-clause-memory
returns-clause-memory g c = λ m.
    kept_or_part_on (DueForSchedule c.in-Ok.script c.args.schedule.now) (DueForBytes c.args.script.now c.args.schedule.now) _ _
    (read_first c.args.script.now c.args.schedule.now c.in-Ok.script c.in-Ok.ensures.value) (c.replay_schedule.ensures.memory m)

pub returns-clause-laws : goal.returns-clause-laws
returns-clause-laws g c = λ done.
    lawful_of_read c.args.script.now c.args.schedule.now c.in-Ok.script _ _ (subst IsSound c.script.view_is c.script.invariant)
    c.in-Ok.ensures.value (c.replay_schedule.ensures.done done)
