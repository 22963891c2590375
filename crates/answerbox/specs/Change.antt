-- What a call is given as it goes to a place, and what is left where one leaves.
use Rattle.std.specs.Prelude.{◌≡◌, ◌+◌, ◌<◌, ◌≤◌, ◌^◌, ⊤, ℕ, Some, IsSome, length}
use Rattle.std.specs.Option.{option_map_or}
use Rattle.ipc_ids.specs.declared.numbers.CallNo.{CallNo}
use Rattle.call_slab.specs.Change.{changed}
use Rattle.call_slab.specs.declared.call.Call.{Call}
use Rattle.call_slab.specs.declared.call.Place.{Place}
use Rattle.call_slab.specs.declared.change.Change.{Change}
use Rattle.call_slab.specs.declared.change.Change.TheVariants.{AnswerWith, Bytes}
use Rattle.answerbox.specs.Calls.{BoxesState, CallTable, call_at, put_at, task_of, used, without_call}

-- the live call with this number takes what it is given to the end of that place
abbrev pub gone : CallTable → ℕ → (Call → Call) → Place → CallTable
gone calls n change place = option_map_or (λ c. put_at calls (change c) place) (call_at calls n) calls

-- the bytes that it brings, where it brings any, are few beside so many
abbrev pub MayBring : ℕ → Change → Type 0
MayBring used (AnswerWith reply bytes) = used + length bytes < 2 ^ 63
MayBring used (Bytes bytes) = used + length bytes < 2 ^ 63
MayBring used _ = ⊤

-- the call is live, and may take this to the end of that place
pub record MayGo (b : BoxesState) (n : CallNo) (change : Change) (place : Place) : Type 0 where
  pub live : IsSome (call_at b.calls n.0)
  pub task : task_of place ≤ b.tasks
  pub few_bytes : MayBring (used b.calls) change
  pub few_stamps : b.calls.next_stamp < 2 ^ 63

-- the call takes this to the end of that place
pub record Goes (old new : BoxesState) (n : CallNo) (change : Change) (place : Place) : Type 0 where
  pub calls : new.calls ≡ gone old.calls n.0 (changed change) place
  pub tasks : new.tasks ≡ old.tasks
  pub spare : new.spare ≡ old.spare

-- the call is over, which had this record
pub record Leaves (old new : BoxesState) (n : CallNo) (c : Call) : Type 0 where
  pub call : call_at old.calls n.0 ≡ Some c
  pub number : c.number ≡ n
  pub calls : new.calls ≡ without_call old.calls n.0
  pub tasks : new.tasks ≡ old.tasks
  pub spare : old.spare ≤ new.spare

-- the call is live, and may go to the end of that place with what is decided of its record
pub record MayGoBy {R : Type 0} (decides : Call → Change × R → Type 0) (b : BoxesState) (n : CallNo) (place : Place) : Type 0 where
  pub live : IsSome (call_at b.calls n.0)
  pub task : task_of place ≤ b.tasks
  pub few_bytes : (c : Call) (change : Change) (told : R) → call_at b.calls n.0 ≡ Some c → decides c (change, told) → MayBring (used b.calls) change
  pub few_stamps : b.calls.next_stamp < 2 ^ 63

-- the call goes there with what was decided of its record
pub record GoesBy {R : Type 0} (decides : Call → Change × R → Type 0) (old new : BoxesState) (n : CallNo) (place : Place) (told : R) : Type 0 where
  pub record_was : Call
  pub change : Change
  pub there : call_at old.calls n.0 ≡ Some record_was
  pub decided : decides record_was (change, told)
  pub goes : Goes old new n change place
