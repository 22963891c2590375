use Rattle.std.proofs.Common.{ℕ, inl, inr, codes, refl}
use Rattle.script_lines.specs.declared.fault.Reason.{Reason}
use Rattle.trace_print.specs.Text.{text_of}
use Rattle.task_system.specs.Run.{run}
use Rattle.command_line.specs.Answer.{fault_line}
use Rattle.command_line.specs.declared.status.Status.TheVariants.{Done, BadSchedule}
use Rattle.command_line.proofs.LawfulTexts.{done_is_no_fault, done_is_no_want}
use Rattle.command_line.proofs.Replaying.{due_run, due_fault}
use Rattle.command_line.proofs.answer.replay_schedule.Goals as goal

pub returns-in-Ok-clause-whole : goal.returns-in-Ok-clause-whole
returns-in-Ok-clause-whole g c = λ w m.
    let told = c.replay_events.ensures.ok w m in
    (text_of (run c.args.script.now c.in-Ok.events), due_run c.args.script.now c.args.schedule.now c.in-Ok.events _ c.in-Ok.ensures.value told.0, told.1)

pub returns-in-Ok-clause-part : goal.returns-in-Ok-clause-part
returns-in-Ok-clause-part g c = λ w.
    (Done, text_of (run c.args.script.now c.in-Ok.events), due_run c.args.script.now c.args.schedule.now c.in-Ok.events Done c.in-Ok.ensures.value refl, c.replay_events.ensures.part (inl w))

pub returns-in-Ok-clause-memory : goal.returns-in-Ok-clause-memory
returns-in-Ok-clause-memory g c = λ m.
    inr (Done, text_of (run c.args.script.now c.in-Ok.events), due_run c.args.script.now c.args.schedule.now c.in-Ok.events Done c.in-Ok.ensures.value refl, c.replay_events.ensures.part (inr m))

pub returns-in-Ok-clause-done : goal.returns-in-Ok-clause-done
returns-in-Ok-clause-done g c = λ done.
    (c.in-Ok.events, c.in-Ok.ensures.value, (c.replay_events.ensures.ok (done_is_no_fault _ done) (done_is_no_want _ done)).1)

pub returns-in-Err-Bad-clause-whole : goal.returns-in-Err-Bad-clause-whole
returns-in-Err-Bad-clause-whole g c = λ w m.
    let fault : ℕ × Reason = (c.in-Err-Bad.line, c.in-Err-Bad.reason) in
    let told = c.tell_fault.ensures.ok w m in
    (fault_line (codes "schedule") fault, due_fault c.args.script.now c.args.schedule.now fault _ (rw c.in-Err-Bad.field-0-is at c.in-Err-Bad.ensures.value) told.0, told.1)

pub returns-in-Err-Bad-clause-part : goal.returns-in-Err-Bad-clause-part
returns-in-Err-Bad-clause-part g c = λ w.
    let fault : ℕ × Reason = (c.in-Err-Bad.line, c.in-Err-Bad.reason) in
    (BadSchedule, fault_line (codes "schedule") fault, due_fault c.args.script.now c.args.schedule.now fault BadSchedule (rw c.in-Err-Bad.field-0-is at c.in-Err-Bad.ensures.value) refl, c.tell_fault.ensures.part w)
