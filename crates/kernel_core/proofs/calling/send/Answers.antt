use Rattle.kernel_core.specs.Moments.{before_send}
use Rattle.kernel_core.proofs.Sending.{room_kept, sent_new, sent_served, unsent_new, unsent_served, uses_after}
use Rattle.kernel_core.proofs.calling.send.Goals as goal

pub accept-requires-clause-new_call : goal.accept-requires-clause-new_call
accept-requires-clause-new_call c = sent_new c.args.board.now c.before_send.new.board c.args.call c.before_send.new.call c.in-Ok.note (before_send c.args.board.now.state c.args.call) c.in-Ok.ensures.sent

pub answer_at_once-requires-clause-new_call : goal.answer_at_once-requires-clause-new_call
answer_at_once-requires-clause-new_call c = unsent_new c.args.board.now c.before_send.new.board c.args.call c.before_send.new.call c.in-Err-Refused.code (before_send c.args.board.now.state c.args.call) c.requires.new_call c.requires.unreserved c.requires.added (rw c.in-Err-Refused.field-0-is at c.in-Err-Refused.ensures.sent)

pub accept-requires-clause-room : goal.accept-requires-clause-room
accept-requires-clause-room c = room_kept c.before_send.ensures.keeps c.requires.room

pub returns-in-Ok-clause-served : goal.returns-in-Ok-clause-served
returns-in-Ok-clause-served c =
    sent_served c.args.board.now c.before_send.new.board c.accept.new.self c.args.call c.before_send.new.call c.in-Ok.note c.args.to c.accept.result c.args.out.now c.accept.new.out (before_send c.args.board.now.state c.args.call) c.in-Ok.ensures.sent c.accept.ensures.served

pub returns-in-Ok-clause-room : goal.returns-in-Ok-clause-room
returns-in-Ok-clause-room c = uses_after c.before_send.ensures.keeps c.accept.ensures.room

pub returns-in-Err-Refused-clause-served : goal.returns-in-Err-Refused-clause-served
returns-in-Err-Refused-clause-served c =
    unsent_served c.args.board.now c.before_send.new.board c.answer_at_once.new.self c.args.call c.before_send.new.call c.in-Err-Refused.code c.args.to c.answer_at_once.result c.args.out.now c.answer_at_once.new.out (before_send c.args.board.now.state c.args.call) (rw c.in-Err-Refused.field-0-is at c.in-Err-Refused.ensures.sent) (rw c.in-Err-Refused.field-0-is at c.answer_at_once.ensures.served)
