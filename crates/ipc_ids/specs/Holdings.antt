-- What a list of entries, the newest first, tells of areas: which areas a task holds, the stores so
-- far, the present event, and how a call was made.
use Rattle.std.specs.Prelude.{ℕ, ◌==◌, ◌&&◌, max, if◌then◌else◌, Option, Some, None, List, [], ◌∷◌}
use Rattle.ipc_ids.specs.declared.entry.Entry.{Entry}
use Rattle.ipc_ids.specs.declared.entry.Entry.TheVariants as entry

-- these entries, the oldest first, on top of earlier ones, the newest first
abbrev pub on_top : List Entry → List Entry → List Entry
on_top [] p = p
on_top (e ∷ es) p = on_top es (e ∷ p)

-- the entries of a list, the newest first
abbrev pub newest_first : List Entry → List Entry
newest_first h = on_top h []

-- an area, as the entry tells of it by which a task got it
pub record Holding : Type 0 where
  pub pages : ℕ
  pub rights : ℕ
  pub store : ℕ

-- the area with this base that task t holds: the last that it got there, unless that is gone
abbrev pub held : ℕ → ℕ → List Entry → Option Holding
held t base [] = None
held t base (entry.AreaMade u b pages rights store ∷ p) =
    if (u.0 == t) && (b == base) then Some (record { pages = pages; rights = rights; store = store.0 }) else held t base p
held t base (entry.AreaGone u b ∷ p) = if (u.0 == t) && (b == base) then None else held t base p
held t base (_ ∷ p) = held t base p

-- the greatest store of an area so far, 0 at first
abbrev pub last_store : List Entry → ℕ
last_store [] = 0
last_store (entry.AreaMade t base pages rights store ∷ p) = max store.0 (last_store p)
last_store (_ ∷ p) = last_store p

-- the head of the present event
abbrev pub present : List Entry → Option Entry
present [] = None
present (entry.Head t asked ∷ p) = Some (entry.Head t asked)
present (entry.Kill t ∷ p) = Some (entry.Kill t)
present (entry.Gone t ∷ p) = Some (entry.Gone t)
present (entry.Spawn t ∷ p) = Some (entry.Spawn t)
present (_ ∷ p) = present p

-- how a call was made: by which task, with which method, and in the event with which head
pub record Making : Type 0 where
  pub caller : ℕ
  pub method : ℕ
  pub asked : Option Entry

abbrev pub making : ℕ → List Entry → Option Making
making n [] = None
making n (entry.Accepted m from method to ∷ p) =
    if m.0 == n then Some (record { caller = from.task.0; method = method; asked = present p }) else making n p
making n (_ ∷ p) = making n p
