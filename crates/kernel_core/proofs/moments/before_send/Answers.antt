use Rattle.std.proofs.Common.{sym}
use Rattle.switchboard.specs.Kept.{first_usable_of}
use Rattle.kernel_core.proofs.Sending.{found_phone, sent_keeping}
use Rattle.kernel_core.proofs.moments.before_send.Goals as goal

pub returns-in-Ok-clause-sent : goal.returns-in-Ok-clause-sent
returns-in-Ok-clause-sent c =
    let l = c.in-Ok.kept in
    let first = found_phone (first_usable_of c.args.board.now.state c.args.call.now.from.task) l c.in-Ok.ensures.answer in
    rw (c.with_fifth-call.ensures, c.from.ensures)
    (sent_keeping c.args.board.now c.keep_to_send.new.self c.args.call.now c.kept_note.result l c.requires.new_call first (sym c.in-ConnectMeTo.ensures) (rw first at c.in-Ok.ensures.state) (rw first at c.in-Ok.ensures.loose) c.kept_note.ensures)
