use Rattle.std.proofs.Common.{ap, arith}
use Rattle.switchboard.specs.State.{KernelState}
use Rattle.cleanup.specs.KillRoom.{kill_calls, kill_moves, kill_entries}
use Rattle.cleanup.proofs.KillRoom.{few_moves}
use Rattle.cleanup.proofs.kill.end.Goals as goal

pub end_reserved-requires-clause-room : goal.end_reserved-requires-clause-room
end_reserved-requires-clause-room c =
    let same = c.reserve.ensures.state in
    let calls = ap (λ (k : KernelState). kill_calls k c.args.who) same in
    let moves = ap (λ (k : KernelState). kill_moves k c.args.who) same in
    let entries = ap (λ (k : KernelState). kill_entries k c.args.who) same in
    let number = ap (λ (k : KernelState). k.calls.next_number) same in
    let stamp = ap (λ (k : KernelState). k.calls.next_stamp) same in
    let few = few_moves c.args.board.now.state c.args.who in
    let counted = c.kill_calls-calls.ensures in
    record {
      numbers = omega (arith, number, calls, counted.calls, counted.few, c.requires.few_calls);
      stamps = omega (arith, stamp, moves, few, counted.calls, counted.few, c.requires.few_calls, c.requires.few_stamps, c.check_numbers.ensures.few);
      calls = omega (arith, calls, counted.calls, c.in_ok-reserve.ensures.room);
      entries = omega (arith, entries, c.in_ok-entries.ensures, c.in_ok-reserve-2.ensures.room);
    }
