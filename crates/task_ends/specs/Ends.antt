-- The introduced tasks and the calls that wait for their ends: what each request makes of them.
use Rattle.std.specs.Prelude.{ℕ, ◌==◌, ◌&&◌, Bool, true, false, not, if◌then◌else◌, is_some, List, [], ◌∷◌, ◌++◌, map, filter, Option, Some, None, ◌≡◌, ⊤}
use Rattle.ipc_ids.specs.declared.numbers.CallNo.{CallNo}
use Rattle.ipc_ids.specs.declared.numbers.Label.{Label}
use Rattle.ipc_ids.specs.Labels.{same_label}
use Rattle.task_ends.specs.declared.introduced.End.{End}
use Rattle.task_ends.specs.declared.introduced.Introduced.{Introduced}
use Rattle.task_ends.specs.declared.introduced.Wait.{Wait}
use Rattle.task_ends.specs.declared.ends.Waited.{Waited}
use Rattle.task_ends.specs.declared.ends.Waited.TheVariants.{Ended, Pending, Unknown}

-- the introduced tasks, and the calls that wait, each in the order in which they came
pub record EndsState : Type 0 where
  pub introduced : List Introduced
  pub waits : List Wait

-- nobody introduced itself
abbrev pub nobody : EndsState
nobody = record { introduced = []; waits = [] }

-- no value is left
abbrev pub no_end : End
no_end = record { has = false; value = 0 }

-- it was introduced with this label, and has not ended
abbrev pub is_open : Label → Introduced → Bool
is_open label x = same_label x.label label && not x.ended

-- it is task w
abbrev pub is_task : ℕ → Introduced → Bool
is_task w x = x.label.task.0 == w

-- the entry of task w
abbrev pub entry_of : ℕ → List Introduced → Option Introduced
entry_of w [] = None
entry_of w (x ∷ xs) = if is_task w x then Some x else entry_of w xs

-- the entry that was introduced with this label and has not ended
abbrev pub open_entry : Label → List Introduced → Option Introduced
open_entry label [] = None
open_entry label (x ∷ xs) = if is_open label x then Some x else open_entry label xs

-- a task that has just introduced itself
abbrev pub newcomer : Label → Introduced
newcomer label = record { label = label; end = no_end; ended = false }

-- a task introduces itself, where its task is not in the list
abbrev pub introduce_by : Bool → Label → List Introduced → List Introduced
introduce_by true label xs = xs
introduce_by false label xs = xs ++ newcomer label ∷ []

abbrev pub is_known : ℕ → List Introduced → Bool
is_known w xs = is_some (entry_of w xs)

abbrev pub introduce : Label → List Introduced → List Introduced
introduce label xs = introduce_by (is_known label.task.0 xs) label xs

-- it leaves this value
abbrev pub leaving : Label → ℕ → Introduced → Introduced
leaving label value x =
    if is_open label x then record x { end = record { has = true; value = value } } else x

abbrev pub leave : Label → ℕ → List Introduced → List Introduced
leave label value xs = map (leaving label value) xs

-- it ends
abbrev pub ending : Label → Introduced → Introduced
ending label x = if is_open label x then record x { ended = true } else x

abbrev pub end_all : Label → List Introduced → List Introduced
end_all label xs = map (ending label) xs

-- the calls that wait for task w, in their order, and the waits for others
abbrev pub waits_for : ℕ → List Wait → List CallNo
waits_for w [] = []
waits_for w (x ∷ xs) = if x.task == w then x.call ∷ waits_for w xs else waits_for w xs

abbrev pub waits_for_another : ℕ → Wait → Bool
waits_for_another w x = not (x.task == w)

abbrev pub other_waits : ℕ → List Wait → List Wait
other_waits w xs = filter (waits_for_another w) xs

-- a task introduces itself
abbrev pub introduced : Label → EndsState → EndsState
introduced label e = record e { introduced = introduce label e.introduced }

-- it leaves a value
abbrev pub left : Label → ℕ → EndsState → EndsState
left label value e = record e { introduced = leave label value e.introduced }

-- what a call learns that asks for the end of a task with this entry
abbrev pub waited_by_end : Introduced → Bool → Waited
waited_by_end x true = Ended x.end
waited_by_end x false = Pending

abbrev pub waited_by : Option Introduced → Waited
waited_by None = Unknown
waited_by (Some x) = waited_by_end x x.ended

-- it waits, where the task is there and has not ended
abbrev pub with_wait : CallNo → ℕ → EndsState → Waited → EndsState
with_wait call w e (Ended end) = e
with_wait call w e Pending = record e { waits = e.waits ++ record { call = call; task = w } ∷ [] }
with_wait call w e Unknown = e

abbrev pub waited : CallNo → ℕ → EndsState → EndsState
waited call w e = with_wait call w e (waited_by (entry_of w e.introduced))

-- a task ends, where it was introduced with this label and has not ended: what it left, the calls
-- that waited for it, and what is left
abbrev pub freed_end_by : Option Introduced → End
freed_end_by None = no_end
freed_end_by (Some x) = x.end

abbrev pub freed_waits_by : Label → EndsState → Option Introduced → List CallNo
freed_waits_by label e None = []
freed_waits_by label e (Some x) = waits_for label.task.0 e.waits

abbrev pub ended_by : Label → EndsState → Option Introduced → EndsState
ended_by label e None = e
ended_by label e (Some x) =
    record { introduced = end_all label e.introduced; waits = other_waits label.task.0 e.waits }

abbrev pub freed_end : Label → EndsState → End
freed_end label e = freed_end_by (open_entry label e.introduced)

abbrev pub freed_waits : Label → EndsState → List CallNo
freed_waits label e = freed_waits_by label e (open_entry label e.introduced)

abbrev pub ended : Label → EndsState → EndsState
ended label e = ended_by label e (open_entry label e.introduced)

-- no two entries are of one task
abbrev pub AreApart : List Introduced → Type 0
AreApart [] = ⊤
AreApart (x ∷ xs) = (entry_of x.label.task.0 xs ≡ None) × AreApart xs
