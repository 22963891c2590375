-- What holds of the calls at a task, by the marks from before, when the parts of its kill on phones are done, and then
-- each part on calls.
use Rattle.std.proofs.Common.{◌≡◌, true, List, Bool}
use Rattle.ipc_ids.specs.declared.numbers.TaskNo.{TaskNo}
use Rattle.switchboard.specs.State.{KernelState, is_alive, mark_ended}
use Rattle.switchboard.specs.Sound.{IsSound}
use Rattle.cleanup.proofs.Silence.{IsAlone, own_phones_hung_up, phones_slammed}
use Rattle.cleanup.proofs.Queues.{IsUncalled, IsIdle, IsUnanswered, incoming_settled, dispatched_settled, answers_dropped}
use Rattle.cleanup.proofs.Killing.{after_hangups, after_slams, after_incoming, after_dispatched, after_answers}

module _ (k : KernelState) (t : TaskNo) (sound : IsSound k) (alive : is_alive k t ≡ true) where
  abbrev marks : List Bool
  marks = k.tasks.alive

  -- its phones are silent, and none leads to it
  pub alone_then : IsAlone marks t (after_slams t k)
  alone_then =
      phones_slammed marks t (after_hangups t k)
      (own_phones_hung_up marks t (mark_ended k t) alive (record { sound = sound }))

  -- and no call waits at it
  pub uncalled_then : IsUncalled marks t (after_incoming t k)
  uncalled_then = incoming_settled marks t (after_slams t k) alone_then

  -- and it holds none
  pub idle_then : IsIdle marks t (after_dispatched t k)
  idle_then = dispatched_settled marks t (after_incoming t k) uncalled_then

  -- and no answer waits for it
  pub unanswered_then : IsUnanswered marks t (after_answers t k)
  unanswered_then = answers_dropped marks t (after_dispatched t k) idle_then
