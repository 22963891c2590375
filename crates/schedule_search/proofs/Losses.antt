-- What the code learns of a call behind events: that it is lost, or not.
use Rattle.std.proofs.Common.{ℕ, ◌≡◌, ◌⊎◌, ◌≤◌, ◌<◌, ◌+◌, Bool, true, false, List, [], length, refl, sym, subst, inl, inr, arith}
use Rattle.std.specs.Prelude.{None, Some, not}
use Rattle.std.proofs.lemmas.Bool.{both_ways, cases_lt, false≢true}
use Rattle.std.proofs.lemmas.Option.{same_Some}
use Rattle.ipc_ids.specs.declared.message.Event.{Event}
use Rattle.answerbox.specs.Calls.{call_at}
use Rattle.run_words.specs.Reached.{IsReached}
use Rattle.task_system.specs.Run.{RunState}
use Rattle.search_core.specs.Moves.{AreMoves}
use Rattle.schedule_search.specs.Search.{Search, state_behind}
use Rattle.schedule_search.specs.OpenCalls.{is_open}
use Rattle.schedule_search.specs.Lost.{IsLost, HasLostCall}
use Rattle.schedule_search.specs.Problem.{CanDo}
use Rattle.schedule_search.specs.Ahead.{IsClosed, FitsAhead}
use Rattle.schedule_search.proofs.Words.{WordsTell, words_tell}
use Rattle.schedule_search.proofs.Behind.{spawned_by, reached}
use Rattle.schedule_search.proofs.Steps.{may_ahead, words_go_on, closed_alike, closed_not_lost, none_closed}

-- ---- a search for steps that close it

-- behind events that can be done
pub fits_ahead : (s : Search) (es : List Event) (tasks n : ℕ) → CanDo s es
    → tasks ≡ length (state_behind s es).kernel.tasks.alive → FitsAhead s es tasks n
fits_ahead s es tasks n can count =
    let spawned : List ℕ = spawned_by s es in
    let tell : WordsTell s.plan (spawned_by s es) = words_tell s.plan (spawned_by s es) can.sound.script in
    let here : IsReached s.plan (spawned_by s es) (state_behind s es) = reached s can.sound es can.tried in
    record {
      can = can;
      count = count;
      may = may_ahead s.plan spawned tell (state_behind s es) here tasks count;
      words_go_on = words_go_on s.plan spawned tell (state_behind s es) here tasks count;
      goal_goes_on = closed_alike s.plan spawned tell (state_behind s es) here tasks count n;
    }

-- where steps close the call it is not lost, and where none do it is
module _ (s : Search) (es : List Event) (tasks n : ℕ) (fits : FitsAhead s es tasks n) where
  abbrev here : IsReached s.plan (spawned_by s es) (state_behind s es)
  here = reached s fits.can.sound es fits.can.tried

  pub closed_answers : (p : List ℕ) → AreMoves tasks p → IsClosed (state_behind s es) n p
      → IsLost (state_behind s es) n → ⊥
  closed_answers =
      closed_not_lost s.plan (spawned_by s es) (words_tell s.plan (spawned_by s es) fits.can.sound.script)
      (state_behind s es) here tasks fits.count n

  pub none_answers : ((p : List ℕ) → AreMoves tasks p → IsClosed (state_behind s es) n p → ⊥)
      → IsLost (state_behind s es) n
  none_answers =
      none_closed s.plan (spawned_by s es) (words_tell s.plan (spawned_by s es) fits.can.sound.script)
      (state_behind s es) here tasks fits.count n

-- ---- one call after the other

-- a call of this number is not open, so it is not lost
pub closed_now : (now : RunState) (n : ℕ) → is_open None (call_at now.kernel.calls n) ≡ false → IsLost now n → ⊥
closed_now now n closed lost = both_ways (is_open None (call_at now.kernel.calls n)) closed (lost [] tt)

pub closed_told : (b : Bool) → Some (not b) ≡ Some true → b ≡ false
closed_told true e = absurd (false≢true (same_Some false true e))
closed_told false e = refl

pub open_told : (b : Bool) → Some (not b) ≡ Some false → b ≡ true
open_told true e = refl
open_told false e = absurd (false≢true (sym (same_Some true false e)))

-- one call more is not lost
pub one_more : (now : RunState) (n : ℕ) → ((k : ℕ) → k < n → IsLost now k → ⊥) → (IsLost now n → ⊥) → (k : ℕ)
    → k < n + 1 → IsLost now k → ⊥
one_more now n before here k l = by_place (cases_lt k n)
  where
    by_place : (k < n) ⊎ (n ≤ k) → IsLost now k → ⊥
    by_place (inl b) = before k b
    by_place (inr b) = let same : n ≡ k = omega arith in subst (λ (z : ℕ). IsLost now z → ⊥) same here

pub none_of_all : (now : RunState) (n : ℕ) → now.kernel.calls.next_number ≤ n
    → ((k : ℕ) → k < n → IsLost now k → ⊥) → HasLostCall now → ⊥
none_of_all now n all none lost =
    let l : lost.0 < now.kernel.calls.next_number = lost.1 in
    none lost.0 (omega arith) lost.2
