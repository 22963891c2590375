use Rattle.std.proofs.Common.{◌∙◌, arith}
use Rattle.answerbox.specs.Calls.{call_at}
use Rattle.cleanup.specs.Kill.{first_at, settle_call}
use Rattle.switchboard.proofs.Lookups.{record_of}
use Rattle.cleanup.proofs.KillRoom.{settled_moves, settled_entries}
use Rattle.switchboard.proofs.Turns.{drained, uses_both, uses_less, room_left}
use Rattle.cleanup.proofs.kill.settle_calls_at.Goals as goal

pub settle-requires-clause-room : goal.settle-requires-clause-room
settle-requires-clause-room c =
    let found = record_of (call_at c.loop.board.state.calls c.in-Some.found.number.0) c.in-Some.ensures.live in
    let moves = settled_moves c.loop.board.state c.args.place found.0 c.requires.pending c.check_numbers.ensures.numbered (c.in-Some.ensures.some ∙ found.1) in
    let entries = settled_entries c.loop.board.state c.args.place found.0 c.requires.pending c.check_numbers.ensures.numbered (c.in-Some.ensures.some ∙ found.1) in
    rw found.1 (room_left c.requires.room c.loop.invariant.room (omega arith) (omega (arith, moves, c.loop.invariant.moves)) (omega (arith, entries, c.loop.invariant.entries)))

pub loop-preserved : goal.loop-preserved
loop-preserved c =
    let found = record_of (call_at c.loop.board.state.calls c.in-Some.found.number.0) c.in-Some.ensures.live in
    let moves = settled_moves c.loop.board.state c.args.place found.0 c.requires.pending c.check_numbers.ensures.numbered (c.in-Some.ensures.some ∙ found.1) in
    let entries = settled_entries c.loop.board.state c.args.place found.0 c.requires.pending c.check_numbers.ensures.numbered (c.in-Some.ensures.some ∙ found.1) in
    let did = rw (found.1, c.bare.ensures) at c.settle.ensures.step in
    let used = rw found.1 at c.settle.ensures.room in
    record {
      step = drained (first_at c.args.place) settle_call found.0 (omega arith) (c.in-Some.ensures.some ∙ found.1) did c.loop.invariant.step;
      moves = rw did.state (omega (arith, moves, c.loop.invariant.moves));
      entries = rw did.state (omega (arith, entries, c.loop.invariant.entries));
      room = uses_less (uses_both c.loop.invariant.room used) (omega arith) (rw did.state (omega (arith, moves, c.loop.invariant.moves))) (rw did.state (omega (arith, entries, c.loop.invariant.entries)));
    }
