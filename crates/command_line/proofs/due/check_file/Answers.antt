use Rattle.std.proofs.Common.{refl, ap, Err}
use Rattle.command_line.specs.Check.{DueForTrace}
use Rattle.command_line.specs.Due.{cannot_line}
use Rattle.command_line.specs.declared.status.Status.TheVariants.{CannotRead}
use Rattle.command_line.proofs.Lost.{lost_it, lost_none}
use Rattle.command_line.proofs.Dues.{whole_on, part_on}
use Rattle.command_line.proofs.Traces.{due_trace, lost_trace, lawful_file, no_lawful_file}
use Rattle.command_line.proofs.due.check_file.Goals as goal

pub returns-in-Ok-clause-whole : goal.returns-in-Ok-clause-whole
returns-in-Ok-clause-whole g c =
    let file = c.in-Ok.ensures in
    whole_on (DueForTrace c.deref.result.now) _ _ _ _
    (due_trace _ _ _ _ _ c.deref.ensures.value (lost_none _ _ _ file.ok) file.bytes)
    c.check_bytes.ensures.whole

pub returns-in-Ok-clause-part : goal.returns-in-Ok-clause-part
returns-in-Ok-clause-part g c = λ w.
    let file = c.in-Ok.ensures in
    part_on (DueForTrace c.deref.result.now) _ _ _
    (due_trace _ _ _ _ _ c.deref.ensures.value (lost_none _ _ _ file.ok) file.bytes)
    (c.check_bytes.ensures.part w)

pub returns-in-Ok-clause-done : goal.returns-in-Ok-clause-done
returns-in-Ok-clause-done g c = λ done.
    lawful_file _ _ _ _ c.deref.ensures.value c.in-Ok.ensures.bytes (c.check_bytes.ensures.done done)

pub returns-in-Ok-clause-bad : goal.returns-in-Ok-clause-bad
returns-in-Ok-clause-bad g c = λ bad.
    no_lawful_file _ _ _ _ c.deref.ensures.value c.in-Ok.ensures.bytes (c.check_bytes.ensures.bad bad)

pub returns-in-Err-Failed-clause-whole : goal.returns-in-Err-Failed-clause-whole
returns-in-Err-Failed-clause-whole g c = λ w m.
    let told = c.tell_cannot.ensures.ok w m in
    let added = c.in-Err-Failed.ensures.failed (ap (λ e. Err e) c.in-Err-Failed.field-0-is) in
    (cannot_line c.args.trace.now, lost_trace _ _ _ _ told.0 (lost_it _ _ _ added), told.1)

pub returns-in-Err-Failed-clause-part : goal.returns-in-Err-Failed-clause-part
returns-in-Err-Failed-clause-part g c = λ w.
    let added = c.in-Err-Failed.ensures.failed (ap (λ e. Err e) c.in-Err-Failed.field-0-is) in
    (CannotRead, cannot_line c.args.trace.now, lost_trace _ _ _ _ refl (lost_it _ _ _ added), c.tell_cannot.ensures.part w)
