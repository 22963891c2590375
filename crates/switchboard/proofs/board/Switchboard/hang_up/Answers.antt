use Rattle.std.proofs.Common.{refl, append_assoc, ◌∙◌}
use Rattle.switchboard.specs.State.{phone_at}
use Rattle.switchboard.proofs.Endings.{sent_to}
use Rattle.switchboard.proofs.board.Switchboard.hang_up.Goals as goal

pub returns-in-Ok-Sent-clause-step : goal.returns-in-Ok-Sent-clause-step
returns-in-Ok-Sent-clause-step c =
    let leads = sent_to (phone_at c.args.self.now.state c.args.from.task c.args.from.phone.0) c.in-Ok-Sent.to (rw c.in-Ok-Sent.field-0-is at c.in-Ok-Sent.ensures.answer) in
    rw leads (record {
      state = c.enqueue.ensures.state ∙ rw (c.new_call-call.ensures.call, c.bare.ensures, c.in-Ok-Sent.ensures.state) refl;
      entries = c.tell_hung_up-in-Ok-Sent.ensures.entries ∙ rw (c.push.ensures.entries, append_assoc, c.new_call-call.ensures.call, c.in-Ok-Sent.ensures.state) refl;
    })
