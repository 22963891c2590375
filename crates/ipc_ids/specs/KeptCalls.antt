-- A call that came to a task, and that the task has not passed on, does not come to it again: the
-- task holds it, or it was answered, or it is over.
use Rattle.std.specs.Prelude.{ℕ, ◌≡◌, ◌++◌, ◌==◌, Bool, true, false, if◌then◌else◌, List, [], ◌∷◌, ⊤}
use Rattle.std.specs.List.{list_any}
use Rattle.ipc_ids.specs.declared.numbers.TaskNo.{TaskNo}
use Rattle.ipc_ids.specs.declared.message.Request.{Request}
use Rattle.ipc_ids.specs.declared.message.Outcome.{Outcome}
use Rattle.ipc_ids.specs.declared.message.Outcome.TheVariants as outcome
use Rattle.ipc_ids.specs.declared.entry.Entry.{Entry}
use Rattle.ipc_ids.specs.declared.entry.Entry.TheVariants as entry
use Rattle.ipc_ids.specs.Tales.{past}
use Rattle.ipc_ids.specs.Life.{Life, Nowhere, Back, Incoming, Dispatched, Answers, Over, life}
use Rattle.ipc_ids.specs.Doings.{Doing, Asks, Told, doings, is_kept}

-- task t holds the call, or it was answered, or it is over
abbrev pub IsSettled : ℕ → Life → Type 0
IsSettled t Nowhere = ⊥
IsSettled t (Back u) = ⊥
IsSettled t (Incoming u s) = ⊥
IsSettled t (Dispatched u s) = s ≡ t
IsSettled t (Answers u) = ⊤
IsSettled t Over = ⊤

-- each call that came to task t, and was not passed on, is settled
abbrev pub KeepsCalls : List Entry → ℕ → Type 0
KeepsCalls h t = (n : ℕ) → is_kept n (doings t h) ≡ true → IsSettled t (life n (past h))

-- an entry within an event, that is no outcome
abbrev pub is_within : Entry → Bool
is_within (entry.Head t asked) = false
is_within (entry.Kill t) = false
is_within (entry.Gone t) = false
is_within (entry.Spawn t) = false
is_within (entry.Outcome o) = false
is_within _ = true

abbrev pub AreWithin : List Entry → Type 0
AreWithin [] = ⊤
AreWithin (e ∷ es) = (is_within e ≡ true) × AreWithin es

-- one of these entries says that call n was received
abbrev pub is_receipt_of : ℕ → Entry → Bool
is_receipt_of n (entry.Received m t) = m.0 == n
is_receipt_of n _ = false

abbrev pub has_receipt : ℕ → List Entry → Bool
has_receipt n es = list_any (is_receipt_of n) es

-- an outcome that is a receipt has its entry among the effects
abbrev pub TellsReceipt : List Entry → Outcome → Type 0
TellsReceipt es (outcome.Received n msg label) = has_receipt n.0 es ≡ true
TellsReceipt es _ = ⊤

-- the entries of a request that is served, with those of its program
abbrev pub served : TaskNo → Request → List Entry → Outcome → List Entry → List Entry
served u asked es o own = entry.Head u asked ∷ (es ++ (entry.Outcome o ∷ own))

-- what a task did once a request of its own, or of another, was served
abbrev pub did : Bool → Request → Outcome → List Doing → List Doing
did mine asked o p = if mine then Told o ∷ (Asks asked ∷ p) else p
