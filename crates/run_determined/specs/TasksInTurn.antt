-- Tasks come in turn, in a list of entries: each entry is of a task of the script or of one that was made before it,
-- and a task that is made has the next number. Each entry is read with those before it, the newest first.
use Rattle.std.specs.Prelude.{ℕ, suc, ◌≡◌, ◌≤◌, ◌++◌, Option, None, Some, List, [], ◌∷◌, ⊤}
use Rattle.ipc_ids.specs.declared.numbers.TaskNo.{TaskNo}
use Rattle.ipc_ids.specs.declared.entry.Entry.{Entry}
use Rattle.ipc_ids.specs.declared.entry.Entry.TheVariants as entry

-- where a task is given, it is task t
abbrev pub IsTask : ℕ → Option TaskNo → Type 0
IsTask t None = ⊥
IsTask t (Some u) = u.0 ≡ t

-- the entry is one of task t: an event of it, what it does with a call, a state of its phone, or what its fibril does
abbrev pub IsOf : ℕ → Entry → Type 0
IsOf t (entry.Head u asked) = u.0 ≡ t
IsOf t (entry.Kill u) = u.0 ≡ t
IsOf t (entry.Gone u) = u.0 ≡ t
IsOf t (entry.Spawn u) = u.0 ≡ t
IsOf t (entry.Accepted n from method to) = from.task.0 ≡ t
IsOf t (entry.Received n u) = u.0 ≡ t
IsOf t (entry.Forwarded n u to label) = u.0 ≡ t
IsOf t (entry.Answered n reply by) = IsTask t by
IsOf t (entry.Delivered n u) = u.0 ≡ t
IsOf t (entry.Dropped n u) = u.0 ≡ t
IsOf t (entry.PhoneIs l s) = l.task.0 ≡ t
IsOf t (entry.Sent u f n slot) = u.0 ≡ t
IsOf t (entry.Gets u f n slot reply) = u.0 ≡ t
IsOf t (entry.Blocks u f why) = u.0 ≡ t
IsOf t (entry.Starts u f label) = u.0 ≡ t
IsOf t (entry.Ends u f) = u.0 ≡ t
IsOf t (entry.Begins u f e mode session phone) = u.0 ≡ t
IsOf t (entry.ExchangeEnds u f e) = u.0 ≡ t
IsOf t (entry.Drops u f e) = u.0 ≡ t
IsOf t (entry.RefusedOp u f code) = u.0 ≡ t
IsOf t _ = ⊥

-- how many tasks there are after these entries, of so many at first
abbrev pub count_after : ℕ → List Entry → ℕ
count_after n [] = n
count_after n (entry.Spawn t ∷ q) = suc (count_after n q)
count_after n (_ ∷ q) = count_after n q

-- a number of a task, of so many
abbrev pub IsOneOf : ℕ → ℕ → Type 0
IsOneOf n t = (1 ≤ t) × (t ≤ n)

-- after these entries this one comes in turn
abbrev pub IsInTurn : ℕ → List Entry → Entry → Type 0
IsInTurn n q (entry.Spawn t) = t.0 ≡ suc (count_after n q)
IsInTurn n q e = (t : ℕ) → IsOf t e → IsOneOf (count_after n q) t

abbrev pub AllInTurn : ℕ → List Entry → List Entry → Type 0
AllInTurn n q [] = ⊤
AllInTurn n q (e ∷ es) = IsInTurn n q e × AllInTurn n (e ∷ q) es

-- the law of turns, in a list of a run that began with so many tasks
abbrev pub TasksComeInTurn : ℕ → List Entry → Type 0
TasksComeInTurn n h = AllInTurn n [] h

-- no entry of these is of task t
abbrev pub NoneIsOf : ℕ → List Entry → Type 0
NoneIsOf t [] = ⊤
NoneIsOf t (e ∷ es) = (IsOf t e → ⊥) × NoneIsOf t es

-- no entry of a task stands before the one that makes it
abbrev pub NothingComesBeforeItsSpawn : List Entry → Type 0
NothingComesBeforeItsSpawn h =
    (before later : List Entry) (t : TaskNo) → h ≡ before ++ entry.Spawn t ∷ later → NoneIsOf t.0 before

-- each of the entries, the newest first, came in turn
abbrev pub CameInTurn : ℕ → List Entry → Type 0
CameInTurn n [] = ⊤
CameInTurn n (e ∷ q) = CameInTurn n q × IsInTurn n q e
