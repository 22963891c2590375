-- A state that is stuck has lost a call.
use Rattle.std.proofs.Common.{ℕ, zero, suc, ◌≡◌, ◌<◌, ◌+◌, Bool, true, false, ◌&&◌, Option, None, Some, List, refl, sym, ◌∙◌, ap, arith}
use Rattle.std.specs.Prelude.{◌||◌, not}
use Rattle.std.specs.List.{list_any, range_with_len}
use Rattle.std.proofs.lemmas.Bool.{false≢true, and_parts}
use Rattle.ipc_ids.specs.declared.numbers.TaskNo.{TaskNo}
use Rattle.ipc_ids.specs.declared.entry.Entry.{Entry}
use Rattle.call_slab.specs.declared.call.Call.{Call}
use Rattle.answerbox.specs.Calls.{call_at}
use Rattle.script_lines.specs.Plan.{Plan}
use Rattle.script_lines.specs.Sound.{IsSound}
use Rattle.task_system.specs.Run.{RunState}
use Rattle.run_words.specs.Reached.{IsReached}
use Rattle.search_goals.specs.GoalText.{LosesCall, IsStuck}
use Rattle.schedule_search.specs.OpenCalls.{is_waiting, is_asked, is_open, has_open_call}
use Rattle.schedule_search.specs.Meeting.{is_at_rest, IsMet}
use Rattle.schedule_search.proofs.Words.{words_tell}
use Rattle.schedule_search.proofs.Steps.{open_at_rest}

-- a test holds of one number of a range
record OneOf (f : ℕ → Bool) (a n : ℕ) : Type 0 where
  pub number : ℕ
  pub below : number < a + n
  pub holds : f number ≡ true

one_of : (f : ℕ → Bool) (a n : ℕ) → list_any f (range_with_len a n) ≡ true → OneOf f a n
one_of f a zero e = absurd (false≢true e)
one_of f a (suc n) e =
    by_first (f a) refl
    (λ (fails : f a ≡ false).
    one_of f (a + 1) n (ap (λ (b : Bool). b || list_any f (range_with_len (a + 1) n)) (sym fails) ∙ e))
  where
    by_first : (b : Bool) → f a ≡ b → (f a ≡ false → OneOf f (a + 1) n) → OneOf f a (suc n)
    by_first true holds later = record { number = a; below = omega arith; holds = holds }
    by_first false fails later =
        let one : OneOf f (a + 1) n = later fails in
        let l : one.number < a + 1 + n = one.below in
        record { number = one.number; below = omega arith; holds = one.holds }

asked_of_any : (asked caller : Option TaskNo) → is_asked asked caller ≡ true → is_asked None caller ≡ true
asked_of_any None None e = e
asked_of_any (Some t) None e = e
asked_of_any None (Some u) e = refl
asked_of_any (Some t) (Some u) e = refl

-- what is open of a task is open
open_of_any : (asked : Option TaskNo) (call : Option Call) → is_open asked call ≡ true → is_open None call ≡ true
open_of_any asked None e = e
open_of_any asked (Some c) e =
    let live : (not c.discard ≡ true) × ((is_waiting c.place && is_asked asked c.caller) ≡ true) =
    and_parts (not c.discard) (is_waiting c.place && is_asked asked c.caller) e in
    let waits : (is_waiting c.place ≡ true) × (is_asked asked c.caller ≡ true) =
    and_parts (is_waiting c.place) (is_asked asked c.caller) live.1 in
    ap (λ (b : Bool). b && (is_waiting c.place && is_asked None c.caller)) live.0
    ∙ ap (λ (b : Bool). b && is_asked None c.caller) waits.0
    ∙ asked_of_any asked c.caller waits.1

pub stuck_has_lost : (plan : Plan) (spawned : List ℕ) (now : RunState) (told : List Entry) (task : Option TaskNo)
    → IsSound plan → IsReached plan spawned now → IsMet (IsStuck task) now told → IsMet LosesCall now told
stuck_has_lost plan spawned now told task sound r stuck =
    let parts : (has_open_call task now.kernel.calls ≡ true) × (is_at_rest now ≡ true) =
    and_parts (has_open_call task now.kernel.calls) (is_at_rest now) stuck in
    let one : OneOf (λ (n : ℕ). is_open task (call_at now.kernel.calls n)) 0 now.kernel.calls.next_number =
    one_of (λ (n : ℕ). is_open task (call_at now.kernel.calls n)) 0 now.kernel.calls.next_number parts.0 in
    let l : one.number < 0 + now.kernel.calls.next_number = one.below in (
      one.number,
      omega arith,
      open_at_rest plan spawned (words_tell plan spawned sound) now one.number r parts.1
          (open_of_any task (call_at now.kernel.calls one.number) one.holds),
    )
