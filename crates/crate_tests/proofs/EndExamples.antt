-- What the test of `end_task` starts from is sound.
use Rattle.std.proofs.Common.{◌<◌, ◌^◌, ℕ, List, [], ◌∷◌, true, false, refl, arith}
use Rattle.std.specs.Ordering.{nat_cmp}
use Rattle.std.specs.FinMap.{len, len-empty}
use Rattle.answerbox.specs.Calls.{CallTable, no_calls}
use Rattle.answerbox.proofs.Counts.{active-len}
use Rattle.switchboard.specs.State.{start, state_from, with_task}
use Rattle.switchboard.specs.Sound.{IsSound}
use Rattle.switchboard.specs.Counts.{IsCounted, label_at}
use Rattle.cleanup.specs.Ending.{IsJustEnded, HasFewActive}
use Rattle.crate_tests.specs.EndStart.{one, own_phones, no_counts, own_area}
use Rattle.switchboard.proofs.SoundMemory.{memory_make}
use Rattle.switchboard.proofs.SoundStates.{kept_wired, kept_task, sound_start}
use Rattle.switchboard.proofs.Counting.{counted_none, counted_task}

few_active : (counts : List (List ℕ)) (calls : CallTable) → IsCounted counts calls → len calls.records < 2 ^ 31 → HasFewActive counts calls
few_active counts calls s few = record { counted = s; few = λ t p n is. let same = s t p n is in let most = active-len calls (label_at t p) in omega (arith, same, most, few) }

pub alone_ended : IsJustEnded (false ∷ []) one
alone_ended = record { marked = refl; from_one = omega arith; task = omega arith }

pub alone_sound : IsSound (state_from (true ∷ []) own_phones no_calls own_area 0)
alone_sound =
    let s = kept_wired (with_task start 2) one 0 one (kept_task start 2 sound_start) refl refl refl in
    record { calls = s.calls; tasks = s.tasks; kept = s.kept; keepers = s.keepers; memory = memory_make one 4096 1 3 refl s.memory }

pub alone_few : HasFewActive no_counts no_calls
alone_few = few_active no_counts no_calls (counted_task [] no_calls 2 counted_none (rw (len-empty nat_cmp) refl)) (rw (len-empty nat_cmp) (omega arith))
