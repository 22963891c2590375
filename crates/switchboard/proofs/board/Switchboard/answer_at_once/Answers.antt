use Rattle.switchboard.proofs.KeptCalls.{unreserved_loose}
use Rattle.switchboard.proofs.board.Switchboard.answer_at_once.Goals as goal

pub enqueue-requires-clause-new_call : goal.enqueue-requires-clause-new_call
enqueue-requires-clause-new_call c =
    let new = c.requires.new_call in
    record {
      number = new.number;
      caller = new.caller;
      phone = new.phone;
      place = new.place;
      few = new.few;
      bytes = new.bytes;
      kept = unreserved_loose c.args.self.now.state (record c.args.call { reply = c.bare-reply.result }) c.requires.unreserved;
    }
