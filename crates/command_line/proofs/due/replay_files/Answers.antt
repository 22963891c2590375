use Rattle.std.proofs.Common.{refl, ◌∙◌, ap, ◌++◌, ◌∷◌, [], Err}
use Rattle.command_line.specs.Due.{cannot_line, DueForBytes}
use Rattle.command_line.specs.declared.status.Status.TheVariants.{CannotRead}
use Rattle.command_line.proofs.Lost.{lost_it, lost_only, lost_none}
use Rattle.command_line.proofs.Dues.{first_lost, second_lost, loaded, whole_on, part_on, kept_or_part_on}
use Rattle.command_line.proofs.LawfulTexts.{lawful_of_files}
use Rattle.command_line.proofs.due.replay_files.Goals as goal

pub returns-in-Err-Failed-clause-whole : goal.returns-in-Err-Failed-clause-whole
returns-in-Err-Failed-clause-whole g c = λ w m.
    let told = c.tell_cannot.ensures.ok w m in
    let added = c.in-Err-Failed.ensures.failed (ap (λ e. Err e) c.in-Err-Failed.field-0-is) in
    (cannot_line c.args.script.now, first_lost _ _ _ _ _ _ told.0 (lost_it _ _ _ added), told.1)

pub returns-in-Err-Failed-clause-part : goal.returns-in-Err-Failed-clause-part
returns-in-Err-Failed-clause-part g c = λ w.
    let told = c.tell_cannot.ensures.part w in
    let added = c.in-Err-Failed.ensures.failed (ap (λ e. Err e) c.in-Err-Failed.field-0-is) in
    let due = first_lost _ _ _ _ _ _ refl (lost_it _ _ _ added) in
    (CannotRead, cannot_line c.args.script.now, due, told)

pub returns-in-Err-Failed-load-clause-whole : goal.returns-in-Err-Failed-load-clause-whole
returns-in-Err-Failed-load-clause-whole g c = λ w m.
    let name = c.args.schedule.now in
    let told = c.tell_cannot-in-Err-Failed-load.ensures.ok w m in
    let failed = c.in-Err-Failed-load in
    let added = failed.ensures.failed (ap (λ e. Err e) failed.field-0-is) in
    let all = added ∙ ap (λ names. names ++ name ∷ []) c.in-Ok.ensures.ok in
    (cannot_line name, second_lost _ _ _ _ _ _ told.0 (lost_only _ _ _ _ all) (lost_it _ _ _ all), told.1)

pub returns-in-Err-Failed-load-clause-part : goal.returns-in-Err-Failed-load-clause-part
returns-in-Err-Failed-load-clause-part g c = λ w.
    let name = c.args.schedule.now in
    let told = c.tell_cannot-in-Err-Failed-load.ensures.part w in
    let failed = c.in-Err-Failed-load in
    let added = failed.ensures.failed (ap (λ e. Err e) failed.field-0-is) in
    let all = added ∙ ap (λ names. names ++ name ∷ []) c.in-Ok.ensures.ok in
    let due = second_lost _ _ _ _ _ _ refl (lost_only _ _ _ _ all) (lost_it _ _ _ all) in
    (CannotRead, cannot_line name, due, told)

pub returns-clause-whole : goal.returns-clause-whole
returns-clause-whole g c =
    let first = c.in-Ok.ensures in
    let second = c.in-Ok-load.ensures in
    let same = second.ok ∙ first.ok in
    whole_on (DueForBytes c.deref.result.now c.deref-2.result.now) _ _ _ _
    (loaded _ _ _ _ _ _ _ _ _ _ first.files c.deref.ensures.value c.deref-2.ensures.value
    first.bytes second.bytes (lost_none _ _ _ same) (lost_none _ _ _ same))
    c.replay_bytes.ensures.whole

pub returns-clause-part : goal.returns-clause-part
returns-clause-part g c = λ w.
    let first = c.in-Ok.ensures in
    let second = c.in-Ok-load.ensures in
    let same = second.ok ∙ first.ok in
    part_on (DueForBytes c.deref.result.now c.deref-2.result.now) _ _ _
    (loaded _ _ _ _ _ _ _ _ _ _ first.files c.deref.ensures.value c.deref-2.ensures.value
    first.bytes second.bytes (lost_none _ _ _ same) (lost_none _ _ _ same))
    (c.replay_bytes.ensures.part w)

pub returns-clause-memory : goal.returns-clause-memory
returns-clause-memory g c = λ m.
    let first = c.in-Ok.ensures in
    let second = c.in-Ok-load.ensures in
    let same = second.ok ∙ first.ok in
    kept_or_part_on (DueForBytes c.deref.result.now c.deref-2.result.now) _ _ _
    (loaded _ _ _ _ _ _ _ _ _ _ first.files c.deref.ensures.value c.deref-2.ensures.value
    first.bytes second.bytes (lost_none _ _ _ same) (lost_none _ _ _ same))
    (c.replay_bytes.ensures.memory m)

pub returns-clause-laws : goal.returns-clause-laws
returns-clause-laws g c = λ done.
    let first = c.in-Ok.ensures in
    let second = c.in-Ok-load.ensures in
    lawful_of_files _ _ _ _ _ _ _ _ _ _ first.files c.deref.ensures.value c.deref-2.ensures.value
    first.bytes second.bytes (c.replay_bytes.ensures.laws done)
