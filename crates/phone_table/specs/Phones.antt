-- The states of phones, with the numbers of their active calls, and what may be done with them.
use Rattle.std.specs.Prelude.{ℕ, ◌≡◌, ◌≤◌, ◌+◌, ◌-◌, ◌==◌, Bool, true, false, if◌then◌else◌, List, [], ◌∷◌, ◌++◌, Option, None, Some, IsSome, Result, Ok, Err, slice_get, slice_set, length, option_and_then, replicate}
use Rattle.ipc_ids.specs.declared.numbers.Code.{Code}
use Rattle.ipc_ids.specs.declared.message.PhoneState.{PhoneState}
use Rattle.ipc_ids.specs.declared.message.PhoneState.TheVariants.{Free, Connecting, Connected, HungUp, Slammed}
use Rattle.ipc_ids.specs.Codes.{enoent, einval}
use Rattle.phone_table.specs.declared.hung.Hung.{Hung}
use Rattle.phone_table.specs.declared.hung.Hung.TheVariants.{Sent, Silent}

-- the phones of a task: their states, and how many active calls each has
pub record Row : Type 0 where
  pub states : List PhoneState
  pub counts : List ℕ

-- 1 to 64 phones, each with its count
pub record IsRow (states : List PhoneState) (counts : List ℕ) : Type 0 where
  pub some : 1 ≤ length states
  pub few : length states ≤ 64
  pub same : length counts ≡ length states

-- the phones of all tasks
pub record Rows : Type 0 where
  pub states : List (List PhoneState)
  pub counts : List (List ℕ)

-- so many free phones
abbrev pub free_row : ℕ → Row
free_row limit = record { states = replicate limit Free; counts = replicate limit 0 }

-- the phone has this state
abbrev pub with_phone : Row → ℕ → PhoneState → Row
with_phone row p state = record { states = slice_set row.states p state; counts = row.counts }

-- the phone has so many active calls
abbrev pub with_count : Row → ℕ → ℕ → Row
with_count row p count = record { states = row.states; counts = slice_set row.counts p count }

-- a phone may be handed out where it is free, or hung up without an active call
abbrev pub is_usable : PhoneState → ℕ → Bool
is_usable Free count = true
is_usable Connecting count = false
is_usable (Connected _) count = false
is_usable HungUp count = count == 0
is_usable Slammed count = false

-- the least index, from i on, of a usable phone
abbrev pub first_usable_from : ℕ → List PhoneState → List ℕ → Option ℕ
first_usable_from i [] counts = None
first_usable_from i (state ∷ states) [] = None
first_usable_from i (state ∷ states) (count ∷ counts) = if is_usable state count then Some i else first_usable_from (i + 1) states counts

abbrev pub first_usable : Row → Option ℕ
first_usable row = first_usable_from 0 row.states row.counts

-- what a hangup of a phone in this state answers: whom to tell, or the refusal
abbrev pub hangup_answer : Option PhoneState → Result Hung Code
hangup_answer None = Err enoent
hangup_answer (Some Free) = Err einval
hangup_answer (Some Connecting) = Err einval
hangup_answer (Some (Connected u)) = Ok (Sent u)
hangup_answer (Some HungUp) = Err einval
hangup_answer (Some Slammed) = Ok Silent

-- the phones after that answer
abbrev pub after_hangup : Row → ℕ → Result Hung Code → Row
after_hangup row p (Ok _) = with_phone row p HungUp
after_hangup row p (Err _) = row

-- tasks are numbered from 1
abbrev pub row_at : {A : Type 0} → List A → ℕ → Option A
row_at rows t = if t == 0 then None else slice_get rows (t - 1)

-- the state of phone p of task t, where t has it
abbrev pub state_at : List (List PhoneState) → ℕ → ℕ → Option PhoneState
state_at rows t p = option_and_then (λ row. slice_get row p) (row_at rows t)

-- how many active calls are counted on phone p of task t, where t has it
abbrev pub count_at : List (List ℕ) → ℕ → ℕ → Option ℕ
count_at rows t p = option_and_then (λ row. slice_get row p) (row_at rows t)

-- each phone has its count
abbrev pub AreCounted : Rows → Type 0
AreCounted rows = (t p : ℕ) → IsSome (state_at rows.states t p) → IsSome (count_at rows.counts t p)

-- the phones of task t are these
abbrev pub with_row : Rows → ℕ → Row → Rows
with_row rows t row = record { states = slice_set rows.states (t - 1) row.states; counts = slice_set rows.counts (t - 1) row.counts }

-- one task more
abbrev pub and_row : Rows → Row → Rows
and_row rows row = record { states = rows.states ++ row.states ∷ []; counts = rows.counts ++ row.counts ∷ [] }

abbrev pub no_rows : Rows
no_rows = record { states = []; counts = [] }
