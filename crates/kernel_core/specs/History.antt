-- What a list of entries, the history so far, tells of the state of the kernel between two events.
use Rattle.std.specs.Prelude.{ℕ, suc, length, ◌-◌, ◌==◌, ◌≡◌, ⊤, Bool, true, false, not, if◌then◌else◌, is_none, slice_get, List, [], ◌∷◌, ◌++◌, Option, None, Some}
use Rattle.std.specs.Option.{option_map_or}
use Rattle.ipc_ids.specs.declared.numbers.TaskNo.{TaskNo}
use Rattle.ipc_ids.specs.declared.message.Request.{Request}
use Rattle.ipc_ids.specs.declared.entry.Entry.{Entry}
use Rattle.ipc_ids.specs.declared.entry.Entry.TheVariants as entry
use Rattle.ipc_ids.specs.Tales.{Tale, past}
use Rattle.ipc_ids.specs.Life.{Life, Nowhere, Back, Incoming, Dispatched, Answers, Over, life, is_killed, last_number}
use Rattle.ipc_ids.specs.Lawful.{Lawful, IsRound, IsCleared}
use Rattle.ipc_ids.specs.Origins.{origin, is_forgotten}
use Rattle.ipc_ids.specs.Holdings.{newest_first}
use Rattle.ipc_ids.specs.Actors.{AreOfTasks}
use Rattle.call_slab.specs.declared.call.Call.{Call}
use Rattle.call_slab.specs.declared.call.Place.{Place}
use Rattle.call_slab.specs.declared.call.Place.TheVariants as place
use Rattle.answerbox.specs.Calls.{call_at}
use Rattle.switchboard.specs.State.{KernelState, Transition}
use Rattle.switchboard.specs.Sound.{IsSound}
use Rattle.cleanup.specs.Limits.{IsWithinLimits}
use Rattle.switchboard.specs.Serving.{Served}
use Rattle.kernel_core.specs.AreaHistory.{AreasFit}

-- whether this is the number of a task that has ended; tasks are numbered from 1
abbrev pub is_ended : List Bool → ℕ → Bool
is_ended alive t = if t == 0 then false else option_map_or not (slice_get alive (t - 1)) false

-- the life of a call of this caller whose record stands there
abbrev pub life_at : ℕ → Place → Life
life_at caller (place.Incoming t) = Incoming caller t.0
life_at caller (place.Dispatched t) = Dispatched caller t.0
life_at caller (place.Answers t) = Answers caller

-- a call that was not accepted yet, or that is over
abbrev pub IsGone : Life → Type 0
IsGone Nowhere = ⊤
IsGone (Back caller) = ⊥
IsGone (Incoming caller holder) = ⊥
IsGone (Dispatched caller holder) = ⊥
IsGone (Answers caller) = ⊥
IsGone Over = ⊤

-- the past p tells of call n what its record c says
pub record IsTold (p : List Tale) (n : ℕ) (c : Call) : Type 0 where
  pub place : life n p ≡ life_at c.from.task.0 c.place
  pub origin : origin n p ≡ Some (record { phone = c.from.phone.0; method = c.request.method })
  pub forgotten : is_forgotten n p ≡ is_none c.caller
  -- a call without its caller is one of a task that was killed
  pub caller : c.caller ≡ None → is_killed c.from.task.0 p ≡ true

-- a call has a record just while its life lasts
abbrev pub TellsOf : List Tale → ℕ → Option Call → Type 0
TellsOf p n None = IsGone (life n p)
TellsOf p n (Some c) = IsTold p n c

-- the past p, the newest entry first, fits the state
pub record PastFits (p : List Tale) (k : KernelState) : Type 0 where
  -- each entry was lawful as it came, and no event is open
  pub lawful : Lawful p
  pub round : IsRound p
  pub cleared : IsCleared p
  -- the next call has the number after the last accepted one
  pub number : suc (last_number p) ≡ k.calls.next_number
  -- the tasks that were killed have ended, and no other
  pub ended : (t : ℕ) → is_killed t p ≡ is_ended k.tasks.alive t
  pub calls : (n : ℕ) → TellsOf p n (call_at k.calls n)

-- the state is sound, its phones are within their limits, and the entries so far fit it and are of its tasks
pub record HistoryFits (h : List Entry) (k : KernelState) : Type 0 where
  pub sound : IsSound k
  pub limits : IsWithinLimits k
  pub told : PastFits (past h) k
  pub areas : AreasFit (newest_first h) k
  pub known : AreOfTasks (length k.tasks.alive) h

-- the entries of a request: its head, what it did, and its outcome
abbrev pub served_entries : TaskNo → Request → Served → List Entry
served_entries t request served = entry.Head t request ∷ served.entries ++ entry.Outcome served.outcome ∷ []

-- the entries of a kill: its head, and what it did
abbrev pub killed_entries : TaskNo → Transition → List Entry
killed_entries t done = entry.Kill t ∷ done.entries

-- the entry of an event that names a task that has ended
abbrev pub gone_entries : TaskNo → List Entry
gone_entries t = entry.Gone t ∷ []
