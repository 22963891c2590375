use Rattle.std.proofs.Common.{Some, None, refl, sym, ap, ◌∙◌}
use Rattle.command_line.specs.Command.{texts, said, Replay, Generate, Check}
use Rattle.command_line.specs.Due.{usage_line, lost, DueForFiles, DueForTraceFile}
use Rattle.command_line.specs.Summary.{summary_line}
use Rattle.command_line.specs.declared.status.Status.TheVariants.{Done, Usage}
use Rattle.command_line.proofs.Dues.{due_for, part_on, kept_or_part_on}
use Rattle.command_line.proofs.LawfulTexts.{summary_is_lawful, lawful_for, done_is_no_fault, done_is_no_want}
use Rattle.command_line.proofs.due.run.Goals as goal

pub returns-in-Some-Replay-clause-part : goal.returns-in-Some-Replay-clause-part
returns-in-Some-Replay-clause-part g c = λ w.
    let files = g.S.Shelf.files c.args.shelf.now in
    let before = g.S.Shelf.failed c.args.shelf.now in
    let after = g.S.Shelf.failed c.replay_files.new.shelf in
    let named = c.in-Some-Replay in
    let is = sym (ap (λ asked. Some (said asked)) named.field-0-is) ∙ named.ensures.command in
    part_on (DueForFiles files before after named.script.now named.schedule.now) _ _ _
    (due_for (texts c.args.words.now) files before after (Some (Replay named.script.now named.schedule.now)) is)
    (c.replay_files.ensures.part w)

pub returns-in-Some-Replay-clause-memory : goal.returns-in-Some-Replay-clause-memory
returns-in-Some-Replay-clause-memory g c = λ m.
    let files = g.S.Shelf.files c.args.shelf.now in
    let before = g.S.Shelf.failed c.args.shelf.now in
    let after = g.S.Shelf.failed c.replay_files.new.shelf in
    let named = c.in-Some-Replay in
    let is = sym (ap (λ asked. Some (said asked)) named.field-0-is) ∙ named.ensures.command in
    kept_or_part_on (DueForFiles files before after named.script.now named.schedule.now) _ _ _
    (due_for (texts c.args.words.now) files before after (Some (Replay named.script.now named.schedule.now)) is)
    (c.replay_files.ensures.memory m)

pub returns-in-Some-Generate-clause-part : goal.returns-in-Some-Generate-clause-part
returns-in-Some-Generate-clause-part g c = λ w.
    let files = g.S.Shelf.files c.args.shelf.now in
    let failed = g.S.Shelf.failed c.args.shelf.now in
    let asked = c.in-Some-Generate in
    let is = sym (ap (λ asked. Some (said asked)) asked.field-0-is) ∙ asked.ensures.command in
    let line = summary_line asked.seed asked.events in
    let due = due_for (texts c.args.words.now) files failed failed (Some (Generate asked.seed asked.events)) is Done line (refl, refl) in
    (Done, line, due, c.tell_summary.ensures.part w)

pub returns-in-Some-Generate-clause-laws : goal.returns-in-Some-Generate-clause-laws
returns-in-Some-Generate-clause-laws g c = λ done.
    let files = g.S.Shelf.files c.args.shelf.now in
    let asked = c.in-Some-Generate in
    let is = sym (ap (λ asked. Some (said asked)) asked.field-0-is) ∙ asked.ensures.command in
    let written = c.tell_summary.ensures.ok (done_is_no_fault _ done) (done_is_no_want _ done) in
    lawful_for (texts c.args.words.now) files (Some (Generate asked.seed asked.events)) _ _ is
    (summary_is_lawful asked.seed asked.events _ _ written.1)

pub returns-in-None-clause-part : goal.returns-in-None-clause-part
returns-in-None-clause-part g c = λ w.
    let files = g.S.Shelf.files c.args.shelf.now in
    let failed = g.S.Shelf.failed c.args.shelf.now in
    let due = due_for (texts c.args.words.now) files failed failed None c.in-None.ensures.command Usage usage_line (refl, refl) in
    (Usage, usage_line, due, c.tell.ensures.part w)

pub returns-in-Some-Check-clause-part : goal.returns-in-Some-Check-clause-part
returns-in-Some-Check-clause-part g c = λ w.
    let files = g.S.Shelf.files c.args.shelf.now in
    let before = g.S.Shelf.failed c.args.shelf.now in
    let after = g.S.Shelf.failed c.check_file.new.shelf in
    let named = c.in-Some-Check in
    let is = sym (ap (λ asked. Some (said asked)) named.field-0-is) ∙ named.ensures.command in
    part_on (DueForTraceFile files named.trace.now (lost before after named.trace.now)) _ _ _
    (due_for (texts c.args.words.now) files before after (Some (Check named.trace.now)) is)
    (c.check_file.ensures.part w)
