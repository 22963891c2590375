use Rattle.std.proofs.Common.{refl, ap, ◌∙◌}
use Rattle.ipc_ids.specs.declared.numbers.CallNo.{CallNo}
use Rattle.answerbox.specs.Calls.{call_at}
use Rattle.answerbox.proofs.Counts.{active-put_at}
use Rattle.forwarding.proofs.beside.route.Goals as goal

pub returns-in-Ok-clause-calls : goal.returns-in-Ok-clause-calls
returns-in-Ok-clause-calls c =
    rw (c.go_uncounted.ensures.calls, c.msg_after-msg.ensures, c.label_after-label.ensures, c.read-record.ensures.call) refl

-- neither the caller nor its phone changes
pub returns-in-Ok-clause-active : goal.returns-in-Ok-clause-active
returns-in-Ok-clause-active c phone =
    let found = c.read-record.ensures.call in
    let number = ap (λ (n : CallNo). n.0) c.read-record.ensures.number in
    rw (c.go_uncounted.ensures.calls, found) (active-put_at c.args.boxes.now.calls c.read-record.result.now (record c.read-record.result.now { msg = c.msg_after-msg.result; label = c.label_after-label.result }) _ phone (ap (call_at c.args.boxes.now.calls) number ∙ found) refl)
