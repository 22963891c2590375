-- What a task was told last in a run.
use Rattle.std.specs.Prelude.{ℕ, ◌==◌, ◌++◌, Bool, if◌then◌else◌, List, [], ◌∷◌, drop, codes, Option, Some, None}
use Rattle.std.specs.Borrow.{Bor}
use Rattle.std.specs.Option.{option_map}
use Rattle.ipc_ids.specs.declared.message.Outcome.{Outcome}
use Rattle.ipc_ids.specs.declared.entry.Entry.{Entry}
use Rattle.ipc_ids.specs.declared.entry.Entry.TheVariants as entry
use Rattle.ipc_ids.specs.Doings.{Doing, Asks, Told, doings}
use Rattle.trace_print.specs.Text.{text_of_entry}

-- the newest outcome among what a task did, the newest first
abbrev pub newest_outcome : List Doing → Option Outcome
newest_outcome [] = None
newest_outcome (Told outcome ∷ p) = Some outcome
newest_outcome (Asks request ∷ p) = newest_outcome p

-- the last outcome of task t in these entries
abbrev pub last_outcome : ℕ → List Entry → Option Outcome
last_outcome t told = newest_outcome (doings t told)

-- ---- one entry after the other

-- the event of an entry is one of task t; `own` says it of the entry before
abbrev pub own_with : (t : ℕ) → (own : Bool) → Entry → Bool
own_with t own (entry.Head u asked) = u.0 == t
own_with t own (entry.Kill u) = u.0 == t
own_with t own (entry.Gone u) = u.0 == t
own_with t own (entry.Spawn u) = u.0 == t
own_with t own _ = own

-- the entry of the last outcome, with one entry more, whose event is one of the task or is not
abbrev pub last_with : (own : Bool) → Entry → (before : Option Entry) → Option Entry
last_with own (entry.Outcome outcome) before = if own then Some (entry.Outcome outcome) else before
last_with own _ before = before

-- the entry that is referred to
abbrev pub entry_of : Option (Bor Entry) → Option Entry
entry_of lent = option_map (λ e. e.now) lent

-- the entry of an outcome
abbrev pub entry_with : Option Outcome → Option Entry
entry_with told = option_map (λ outcome. entry.Outcome outcome) told

-- what stands behind the name of a task: the line of an entry without its first byte
abbrev pub told_text : Option Entry → List ℕ
told_text None = codes ": no outcome\n"
told_text (Some told) = codes ":" ++ drop 1 (text_of_entry told)
