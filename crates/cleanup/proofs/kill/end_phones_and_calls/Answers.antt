use Rattle.std.proofs.Common.{◌∙◌, arith}
use Rattle.cleanup.proofs.KillRoom.{some_at, second_moves, second_entries, second_made, finds_third, third_made, finds_fourth, finds_fifth, same_slams}
use Rattle.call_slab.specs.declared.call.Place.TheVariants.{Dispatched}
use Rattle.switchboard.specs.Joins.{lives}
use Rattle.switchboard.specs.Rooms.{tells_two}
use Rattle.switchboard.proofs.Turns.{uses_both, uses_less, room_left}
use Rattle.cleanup.proofs.kill.end_phones_and_calls.Goals as goal

pub slam_phones_to-requires : goal.slam_phones_to-requires
slam_phones_to-requires c = record {
  room =
      let slams = same_slams c.args.who c.args.board.now.state c.hang_up_own_phones.new.board.state c.hang_up_own_phones.ensures.step.state in
      room_left c.requires.room c.hang_up_own_phones.ensures.room (omega arith) (omega arith) (omega (arith, slams));
}

pub settle_calls_at-requires-clause-room : goal.settle_calls_at-requires-clause-room
settle_calls_at-requires-clause-room c =
    let slams = same_slams c.args.who c.args.board.now.state c.hang_up_own_phones.new.board.state c.hang_up_own_phones.ensures.step.state in
    let alive = c.slam_phones_to.ensures.room.alive ∙ c.hang_up_own_phones.ensures.room.alive in
    let moves = second_moves c.args.who c.args.board.now.state c.hang_up_own_phones.new.board.state c.slam_phones_to.new.board.state c.hang_up_own_phones.ensures.step.state c.slam_phones_to.ensures.step.state c.check_numbers.ensures.numbered c.requires.ended alive in
    let entries = second_entries c.args.who c.args.board.now.state c.hang_up_own_phones.new.board.state c.slam_phones_to.new.board.state c.hang_up_own_phones.ensures.step.state c.slam_phones_to.ensures.step.state c.check_numbers.ensures.numbered c.requires.ended alive in
    let below = second_made c.args.who c.args.board.now.state c.hang_up_own_phones.new.board.state c.slam_phones_to.new.board.state c.hang_up_own_phones.ensures.step.state c.slam_phones_to.ensures.step.state c.check_numbers.ensures.numbered c.requires.ended in
    room_left c.requires.room (uses_both c.hang_up_own_phones.ensures.room c.slam_phones_to.ensures.room) (omega (arith)) (omega (arith, moves)) (omega (arith, slams, entries, below))

pub settle_calls_at-requires-2-clause-room : goal.settle_calls_at-requires-2-clause-room
settle_calls_at-requires-2-clause-room c =
    let slams = same_slams c.args.who c.args.board.now.state c.hang_up_own_phones.new.board.state c.hang_up_own_phones.ensures.step.state in
    let alive = c.slam_phones_to.ensures.room.alive ∙ c.hang_up_own_phones.ensures.room.alive in
    let moves = second_moves c.args.who c.args.board.now.state c.hang_up_own_phones.new.board.state c.slam_phones_to.new.board.state c.hang_up_own_phones.ensures.step.state c.slam_phones_to.ensures.step.state c.check_numbers.ensures.numbered c.requires.ended alive in
    let entries = second_entries c.args.who c.args.board.now.state c.hang_up_own_phones.new.board.state c.slam_phones_to.new.board.state c.hang_up_own_phones.ensures.step.state c.slam_phones_to.ensures.step.state c.check_numbers.ensures.numbered c.requires.ended alive in
    let third = finds_third c.args.who c.args.board.now.state c.hang_up_own_phones.new.board.state c.slam_phones_to.new.board.state c.hang_up_own_phones.ensures.step.state c.slam_phones_to.ensures.step.state c.check_numbers.ensures.numbered c.requires.ended c.settle_calls_at.new.board.state c.settle_calls_at.ensures.step.state in
    let made = third_made c.args.who c.args.board.now.state c.hang_up_own_phones.new.board.state c.slam_phones_to.new.board.state c.hang_up_own_phones.ensures.step.state c.slam_phones_to.ensures.step.state c.check_numbers.ensures.numbered c.requires.ended c.settle_calls_at.new.board.state c.settle_calls_at.ensures.step.state in
    let held = some_at (λ d. lives c.settle_calls_at.new.board.state d.caller) c.settle_calls_at.new.board.state (Dispatched c.args.who) in
    let two = some_at (tells_two c.settle_calls_at.new.board.state) c.settle_calls_at.new.board.state (Dispatched c.args.who) in
    room_left c.requires.room (uses_both (uses_both c.hang_up_own_phones.ensures.room c.slam_phones_to.ensures.room) c.settle_calls_at.ensures.room) (omega (arith)) (omega (arith, moves, held, third.holds)) (omega (arith, slams, entries, held, two, made, moves, third.holds))

pub drop_answers-requires-clause-room : goal.drop_answers-requires-clause-room
drop_answers-requires-clause-room c =
    let slams = same_slams c.args.who c.args.board.now.state c.hang_up_own_phones.new.board.state c.hang_up_own_phones.ensures.step.state in
    let alive = c.slam_phones_to.ensures.room.alive ∙ c.hang_up_own_phones.ensures.room.alive in
    let moves = second_moves c.args.who c.args.board.now.state c.hang_up_own_phones.new.board.state c.slam_phones_to.new.board.state c.hang_up_own_phones.ensures.step.state c.slam_phones_to.ensures.step.state c.check_numbers.ensures.numbered c.requires.ended alive in
    let entries = second_entries c.args.who c.args.board.now.state c.hang_up_own_phones.new.board.state c.slam_phones_to.new.board.state c.hang_up_own_phones.ensures.step.state c.slam_phones_to.ensures.step.state c.check_numbers.ensures.numbered c.requires.ended alive in
    let third = finds_third c.args.who c.args.board.now.state c.hang_up_own_phones.new.board.state c.slam_phones_to.new.board.state c.hang_up_own_phones.ensures.step.state c.slam_phones_to.ensures.step.state c.check_numbers.ensures.numbered c.requires.ended c.settle_calls_at.new.board.state c.settle_calls_at.ensures.step.state in
    let made = third_made c.args.who c.args.board.now.state c.hang_up_own_phones.new.board.state c.slam_phones_to.new.board.state c.hang_up_own_phones.ensures.step.state c.slam_phones_to.ensures.step.state c.check_numbers.ensures.numbered c.requires.ended c.settle_calls_at.new.board.state c.settle_calls_at.ensures.step.state in
    let held = some_at (λ d. lives c.settle_calls_at.new.board.state d.caller) c.settle_calls_at.new.board.state (Dispatched c.args.who) in
    let two = some_at (tells_two c.settle_calls_at.new.board.state) c.settle_calls_at.new.board.state (Dispatched c.args.who) in
    let fourth = finds_fourth c.args.who c.args.board.now.state c.hang_up_own_phones.new.board.state c.slam_phones_to.new.board.state c.hang_up_own_phones.ensures.step.state c.slam_phones_to.ensures.step.state c.check_numbers.ensures.numbered c.requires.ended c.settle_calls_at.new.board.state c.settle_calls_at.ensures.step.state c.settle_calls_at-2.new.board.state c.settle_calls_at-2.ensures.step.state in
    room_left c.requires.room (uses_both (uses_both (uses_both c.hang_up_own_phones.ensures.room c.slam_phones_to.ensures.room) c.settle_calls_at.ensures.room) c.settle_calls_at-2.ensures.room) (omega (arith)) (omega (arith, moves, held, third.holds)) (omega (arith, slams, entries, held, two, made, moves, third.holds, fourth.answers))

pub forget_calls_elsewhere-requires-clause-room : goal.forget_calls_elsewhere-requires-clause-room
forget_calls_elsewhere-requires-clause-room c =
    let slams = same_slams c.args.who c.args.board.now.state c.hang_up_own_phones.new.board.state c.hang_up_own_phones.ensures.step.state in
    let alive = c.slam_phones_to.ensures.room.alive ∙ c.hang_up_own_phones.ensures.room.alive in
    let moves = second_moves c.args.who c.args.board.now.state c.hang_up_own_phones.new.board.state c.slam_phones_to.new.board.state c.hang_up_own_phones.ensures.step.state c.slam_phones_to.ensures.step.state c.check_numbers.ensures.numbered c.requires.ended alive in
    let entries = second_entries c.args.who c.args.board.now.state c.hang_up_own_phones.new.board.state c.slam_phones_to.new.board.state c.hang_up_own_phones.ensures.step.state c.slam_phones_to.ensures.step.state c.check_numbers.ensures.numbered c.requires.ended alive in
    let third = finds_third c.args.who c.args.board.now.state c.hang_up_own_phones.new.board.state c.slam_phones_to.new.board.state c.hang_up_own_phones.ensures.step.state c.slam_phones_to.ensures.step.state c.check_numbers.ensures.numbered c.requires.ended c.settle_calls_at.new.board.state c.settle_calls_at.ensures.step.state in
    let made = third_made c.args.who c.args.board.now.state c.hang_up_own_phones.new.board.state c.slam_phones_to.new.board.state c.hang_up_own_phones.ensures.step.state c.slam_phones_to.ensures.step.state c.check_numbers.ensures.numbered c.requires.ended c.settle_calls_at.new.board.state c.settle_calls_at.ensures.step.state in
    let held = some_at (λ d. lives c.settle_calls_at.new.board.state d.caller) c.settle_calls_at.new.board.state (Dispatched c.args.who) in
    let two = some_at (tells_two c.settle_calls_at.new.board.state) c.settle_calls_at.new.board.state (Dispatched c.args.who) in
    let fourth = finds_fourth c.args.who c.args.board.now.state c.hang_up_own_phones.new.board.state c.slam_phones_to.new.board.state c.hang_up_own_phones.ensures.step.state c.slam_phones_to.ensures.step.state c.check_numbers.ensures.numbered c.requires.ended c.settle_calls_at.new.board.state c.settle_calls_at.ensures.step.state c.settle_calls_at-2.new.board.state c.settle_calls_at-2.ensures.step.state in
    let fifth = finds_fifth c.args.who c.args.board.now.state c.hang_up_own_phones.new.board.state c.slam_phones_to.new.board.state c.hang_up_own_phones.ensures.step.state c.slam_phones_to.ensures.step.state c.check_numbers.ensures.numbered c.requires.ended c.settle_calls_at.new.board.state c.settle_calls_at.ensures.step.state c.settle_calls_at-2.new.board.state c.settle_calls_at-2.ensures.step.state c.drop_answers.new.board.state c.drop_answers.ensures.step.state in
    room_left c.requires.room (uses_both (uses_both (uses_both (uses_both c.hang_up_own_phones.ensures.room c.slam_phones_to.ensures.room) c.settle_calls_at.ensures.room) c.settle_calls_at-2.ensures.room) c.drop_answers.ensures.room) (omega (arith)) (omega (arith, moves, held, third.holds)) (omega (arith, slams, entries, held, two, made, moves, third.holds, fourth.answers, fifth.made))

pub returns-clause-room : goal.returns-clause-room
returns-clause-room c =
    let slams = same_slams c.args.who c.args.board.now.state c.hang_up_own_phones.new.board.state c.hang_up_own_phones.ensures.step.state in
    let alive = c.slam_phones_to.ensures.room.alive ∙ c.hang_up_own_phones.ensures.room.alive in
    let moves = second_moves c.args.who c.args.board.now.state c.hang_up_own_phones.new.board.state c.slam_phones_to.new.board.state c.hang_up_own_phones.ensures.step.state c.slam_phones_to.ensures.step.state c.check_numbers.ensures.numbered c.requires.ended alive in
    let entries = second_entries c.args.who c.args.board.now.state c.hang_up_own_phones.new.board.state c.slam_phones_to.new.board.state c.hang_up_own_phones.ensures.step.state c.slam_phones_to.ensures.step.state c.check_numbers.ensures.numbered c.requires.ended alive in
    let third = finds_third c.args.who c.args.board.now.state c.hang_up_own_phones.new.board.state c.slam_phones_to.new.board.state c.hang_up_own_phones.ensures.step.state c.slam_phones_to.ensures.step.state c.check_numbers.ensures.numbered c.requires.ended c.settle_calls_at.new.board.state c.settle_calls_at.ensures.step.state in
    let made = third_made c.args.who c.args.board.now.state c.hang_up_own_phones.new.board.state c.slam_phones_to.new.board.state c.hang_up_own_phones.ensures.step.state c.slam_phones_to.ensures.step.state c.check_numbers.ensures.numbered c.requires.ended c.settle_calls_at.new.board.state c.settle_calls_at.ensures.step.state in
    let held = some_at (λ d. lives c.settle_calls_at.new.board.state d.caller) c.settle_calls_at.new.board.state (Dispatched c.args.who) in
    let two = some_at (tells_two c.settle_calls_at.new.board.state) c.settle_calls_at.new.board.state (Dispatched c.args.who) in
    let fourth = finds_fourth c.args.who c.args.board.now.state c.hang_up_own_phones.new.board.state c.slam_phones_to.new.board.state c.hang_up_own_phones.ensures.step.state c.slam_phones_to.ensures.step.state c.check_numbers.ensures.numbered c.requires.ended c.settle_calls_at.new.board.state c.settle_calls_at.ensures.step.state c.settle_calls_at-2.new.board.state c.settle_calls_at-2.ensures.step.state in
    let fifth = finds_fifth c.args.who c.args.board.now.state c.hang_up_own_phones.new.board.state c.slam_phones_to.new.board.state c.hang_up_own_phones.ensures.step.state c.slam_phones_to.ensures.step.state c.check_numbers.ensures.numbered c.requires.ended c.settle_calls_at.new.board.state c.settle_calls_at.ensures.step.state c.settle_calls_at-2.new.board.state c.settle_calls_at-2.ensures.step.state c.drop_answers.new.board.state c.drop_answers.ensures.step.state in
    uses_less (uses_both (uses_both (uses_both (uses_both (uses_both c.hang_up_own_phones.ensures.room c.slam_phones_to.ensures.room) c.settle_calls_at.ensures.room) c.settle_calls_at-2.ensures.room) c.drop_answers.ensures.room) c.forget_calls_elsewhere.ensures.room) (omega (arith)) (omega (arith, moves, held, third.holds)) (omega (arith, slams, entries, held, two, made, moves, third.holds, fourth.answers, fifth.made))
