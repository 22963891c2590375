use Rattle.command_line.proofs.Checking.{checked_whole, checked_memory, checked_done, checked_bad, checked_part}
use Rattle.command_line.proofs.check.check_bytes.Goals as goal

pub returns-in-Ok-finding_text-clause-whole : goal.returns-in-Ok-finding_text-clause-whole
returns-in-Ok-finding_text-clause-whole g c =
    checked_whole c.args.bytes.now c.in-Ok.finding _ _ c.status_of.result c.tell.result c.in-Ok-finding_text.text.items c.deref.result.now
    c.status_of.ensures.value c.tell.ensures.ok c.in-Ok.ensures.is c.in-Ok-finding_text.ensures c.deref.ensures.value

pub returns-in-Ok-finding_text-clause-part : goal.returns-in-Ok-finding_text-clause-part
returns-in-Ok-finding_text-clause-part g c = λ w.
    checked_part c.args.bytes.now c.in-Ok.finding _ _ c.in-Ok-finding_text.text.items c.deref.result.now c.in-Ok.ensures.is
    c.in-Ok-finding_text.ensures c.deref.ensures.value (c.tell.ensures.part w)

pub returns-in-Ok-finding_text-clause-memory : goal.returns-in-Ok-finding_text-clause-memory
returns-in-Ok-finding_text-clause-memory g c =
    checked_memory c.args.bytes.now c.in-Ok.finding _ _ c.status_of.result c.tell.result c.in-Ok-finding_text.text.items
    c.deref.result.now c.status_of.ensures.value c.tell.ensures.ok c.status_of.ensures.found

pub returns-in-Ok-finding_text-clause-done : goal.returns-in-Ok-finding_text-clause-done
returns-in-Ok-finding_text-clause-done g c =
    checked_done c.args.bytes.now c.in-Ok.finding _ _ c.status_of.result c.tell.result c.in-Ok-finding_text.text.items
    c.deref.result.now c.status_of.ensures.value c.tell.ensures.ok c.in-Ok.ensures.lawful

pub returns-in-Ok-finding_text-clause-bad : goal.returns-in-Ok-finding_text-clause-bad
returns-in-Ok-finding_text-clause-bad g c =
    checked_bad c.args.bytes.now c.in-Ok.finding _ _ c.status_of.result c.tell.result c.in-Ok-finding_text.text.items
    c.deref.result.now c.status_of.ensures.value c.tell.ensures.ok c.in-Ok.ensures.lawful
