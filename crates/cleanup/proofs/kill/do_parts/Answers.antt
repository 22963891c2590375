use Rattle.std.proofs.Common.{ap, ◌∙◌, arith}
use Rattle.address_space.specs.Memory.{Memory, count_areas}
use Rattle.switchboard.specs.State.{KernelState}
use Rattle.cleanup.proofs.Killing.{calls_steady}
use Rattle.switchboard.proofs.Turns.{uses_both, uses_less, room_left}
use Rattle.cleanup.proofs.kill.do_parts.Goals as goal

pub drop_areas-requires-clause-room : goal.drop_areas-requires-clause-room
drop_areas-requires-clause-room c =
    let same = ap (λ (k : KernelState). count_areas k.memory c.args.who) c.end_phones_and_calls.ensures.step.state ∙ ap (λ (m : Memory). count_areas m c.args.who) (calls_steady c.args.who c.args.board.now.state).memory in
    room_left c.requires.room c.end_phones_and_calls.ensures.room (omega arith) (omega arith) (omega (arith, same))

pub returns-clause-room : goal.returns-clause-room
returns-clause-room c =
    let same = ap (λ (k : KernelState). count_areas k.memory c.args.who) c.end_phones_and_calls.ensures.step.state ∙ ap (λ (m : Memory). count_areas m c.args.who) (calls_steady c.args.who c.args.board.now.state).memory in
    uses_less (uses_both c.end_phones_and_calls.ensures.room c.drop_areas.ensures.room) (omega arith) (omega arith) (omega (arith, same))
