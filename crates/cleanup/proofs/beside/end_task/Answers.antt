use Rattle.std.proofs.Common.{◌≡◌, true, length, ap, refl, sym, ◌∙◌, ◌++◌, arith}
use Rattle.std.proofs.lemmas.List.{length-replicate}
use Rattle.answerbox.specs.Calls.{CallTable, BoxesState}
use Rattle.switchboard.specs.State.{KernelState, Transition, state_from}
use Rattle.cleanup.specs.Kill.{end_parts, kill}
use Rattle.cleanup.specs.KillRoom.{kill_calls, kill_moves, kill_entries}
use Rattle.cleanup.proofs.KillRoom.{few_moves}
use Rattle.cleanup.proofs.Marks.{remarked}
use Rattle.cleanup.proofs.SoundBoards.{same_end, switched, few_from, areas_paired, whole}
use Rattle.cleanup.proofs.beside.end_task.Given as given
use Rattle.cleanup.proofs.beside.end_task.Goals as goal

pub of-board-requires : goal.of-board-requires
of-board-requires g c =
    let phones = c.args.phones.now in
    let boxes = c.args.boxes.now in
    record {
      switched = rw (c.in_ok-marks.ensures.marks, c.replace.ensures.value, c.replace-2.ensures.value, c.in_ok-marks.ensures.calls, c.in_ok-marks.ensures.places)
          (switched g.alive c.args.who phones.states boxes.calls c.args.spaces.now c.requires.0 c.requires.1.0 phones.counts boxes.tasks c.requires.1.1.0.counted c.check_counts.ensures c.next_number-next.ensures.few c.requires.1.1.1.1);
      areas = rw (c.in_ok-marks.ensures.marks, c.replace-3.ensures.value) (areas_paired g.alive c.args.who phones.states boxes.calls c.args.spaces.now c.requires.0 c.requires.1.0 ∙ sym (length-replicate (length phones.states) true));
    }

pub end_reserved-requires-clause-few_active : goal.end_reserved-requires-clause-few_active
end_reserved-requires-clause-few_active g c =
    let phones = c.args.phones.now in
    rw (c.of-board.ensures.state, c.replace-2.ensures.value, c.in_ok-marks.ensures.calls)
    (few_from g.alive c.args.who phones.states c.args.boxes.now.calls c.args.spaces.now c.requires.0 c.requires.1.0 phones.counts c.requires.1.1.0 c.check_counts.ensures)

pub end_reserved-requires-clause-room : goal.end_reserved-requires-clause-room
end_reserved-requires-clause-room g c =
    let phones = c.args.phones.now.states in
    let boxes = c.args.boxes.now in
    let k = whole g.alive c.args.who phones boxes.calls c.args.spaces.now c.requires.0 c.requires.1.0 in
    let same : c.of-board.result.state ≡ k = rw (c.of-board.ensures.state, c.in_ok-marks.ensures.marks, c.replace.ensures.value, c.replace-2.ensures.value, c.replace-3.ensures.value, c.in_ok-marks.ensures.calls) refl in
    let calls = ap (λ (j : KernelState). kill_calls j c.args.who) same in
    let moves = ap (λ (j : KernelState). kill_moves j c.args.who) same in
    let entries = ap (λ (j : KernelState). kill_entries j c.args.who) same in
    let number = ap (λ (j : KernelState). j.calls.next_number) same in
    let stamp = ap (λ (j : KernelState). j.calls.next_stamp) same in
    let spare = c.of-board.ensures.spare ∙ ap (λ (b : BoxesState). b.spare) c.replace-2.ensures.value in
    let few = few_moves k c.args.who in
    let room = c.in_ok-marks.ensures in
    let most = c.requires.1.1.1.0 in
    record {
      numbers = omega (arith, number, calls, room.few, most.numbers);
      stamps = omega (arith, stamp, moves, few, room.few, most.numbers, most.stamps, c.next_number-next.ensures.few);
      calls = omega (arith, calls, spare, room.calls_room);
      entries = omega (arith, entries, room.entries_room);
    }

module _ (g : given.Over) (c : goal.After-drop-spaces-2 g) where
  board : c.of-board.result.state ≡ whole g.alive c.args.who c.args.phones.now.states c.args.boxes.now.calls c.args.spaces.now c.requires.0 c.requires.1.0
  board = rw (c.of-board.ensures.state, c.in_ok-marks.ensures.marks, c.replace.ensures.value, c.replace-2.ensures.value, c.replace-3.ensures.value, c.in_ok-marks.ensures.calls) refl

  same : remarked g.alive (kill c.of-board.result.state c.args.who) ≡ end_parts c.args.who (state_from g.alive c.args.phones.now.states c.args.boxes.now.calls c.args.spaces.now 0)
  same = same_end g.alive c.args.who c.args.phones.now.states c.args.boxes.now.calls c.args.spaces.now c.requires.0 c.requires.1.0 c.of-board.result.state board

pub returns-clause-calls : goal.returns-clause-calls
returns-clause-calls g c =
    c.into_parts-rows.ensures.calls ∙ ap (λ (k : KernelState). k.calls) c.end_reserved.ensures.step.state ∙ ap (λ (s : Transition). s.state.calls) (same g c)

pub returns-clause-phones : goal.returns-clause-phones
returns-clause-phones g c =
    c.into_parts-rows.ensures.phones ∙ ap (λ (k : KernelState). k.tasks.phones) c.end_reserved.ensures.step.state ∙ ap (λ (s : Transition). s.state.tasks.phones) (same g c)

pub returns-clause-areas : goal.returns-clause-areas
returns-clause-areas g c =
    c.into_parts-rows.ensures.areas ∙ ap (λ (k : KernelState). k.memory) c.end_reserved.ensures.step.state ∙ ap (λ (s : Transition). s.state.memory) (same g c)

pub returns-clause-entries : goal.returns-clause-entries
returns-clause-entries g c =
    rw (c.end_reserved.ensures.step.entries, c.in_ok-marks.ensures.entries) (ap (λ (s : Transition). c.args.out.now.entries ++ s.entries) (same g c))

pub returns-clause-used : goal.returns-clause-used
returns-clause-used g c =
    let used = c.end_reserved.ensures in
    let calls = c.into_parts-rows.ensures.calls in
    let numbers = ap (λ (q : CallTable). q.next_number) calls in
    let stamps = ap (λ (q : CallTable). q.next_stamp) calls in
    record {
      places = rw (c.into_parts-rows.ensures.places, used.places, c.of-board.ensures.places, c.replace-2.ensures.value, c.in_ok-marks.ensures.places) refl;
      few = c.in_ok-marks.ensures.few;
      numbers = rw (numbers) (rw (board g c) at used.numbers);
      stamps = rw (stamps) (rw (board g c) at used.stamps);
    }
