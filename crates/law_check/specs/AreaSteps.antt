-- The law of shared areas, read entry by entry: a write in an event that receives is tested at the
-- end of the event.
use Rattle.std.specs.Prelude.{ℕ, ◌≡◌, ◌≤◌, ◌⊎◌, Option, Some, None, List, [], ◌∷◌, ⊤}
use Rattle.ipc_ids.specs.declared.numbers.TaskNo.{TaskNo}
use Rattle.ipc_ids.specs.declared.message.Request.TheVariants as request
use Rattle.ipc_ids.specs.declared.entry.Entry.{Entry}
use Rattle.ipc_ids.specs.declared.entry.Entry.TheVariants as entry
use Rattle.ipc_ids.specs.Methods.{data_read}
use Rattle.ipc_ids.specs.Tales.{tales}
use Rattle.ipc_ids.specs.Life.{last_number}
use Rattle.ipc_ids.specs.Holdings.{present, making}
use Rattle.ipc_ids.specs.AreaLaw.{IsMade, IsShared, HasMethod, Delivers, Pokes, AcceptsWrite, HoldsAround}

-- in an event that receives, the number of calls that were accepted before its first write
abbrev pub first_of : Option ℕ → ℕ → Option ℕ
first_of None now = Some now
first_of (Some m) now = Some m

-- the same after one more write in the event with this head
abbrev pub wants_in : Option Entry → Option ℕ → ℕ → Option ℕ
wants_in (Some (entry.Head t request.Receive)) before now = first_of before now
wants_in _ before now = before

-- the same of a past, in its present event
abbrev pub wants : List Entry → Option ℕ
wants [] = None
wants (entry.Head t asked ∷ p) = None
wants (entry.Kill t ∷ p) = None
wants (entry.Gone t ∷ p) = None
wants (entry.Spawn t ∷ p) = None
wants (entry.Wrote t at count store ∷ p) = wants_in (present p) (wants p) (last_number (tales p))
wants (_ ∷ p) = wants p

-- one of the first m calls is a DATA_READ that this event delivers, before or later
abbrev pub Reads : ℕ → List Entry → List Entry → Type 0
Reads m p later = (n : ℕ) × (n ≤ m) × HasMethod data_read (making n p) × (Delivers n p ⊎ Delivers n later)

-- where the event wrote as it received, one of the calls before that write is read in it
abbrev pub IsServed : Option ℕ → List Entry → List Entry → Type 0
IsServed None p later = ⊤
IsServed (Some m) p later = Reads m p later

-- task t receives in the present event
abbrev pub Receives : TaskNo → Option Entry → Type 0
Receives t e = e ≡ Some (entry.Head t request.Receive)

-- what an entry must be, but for what comes later
abbrev pub MayCome : List Entry → Entry → Type 0
MayCome p (entry.Head t asked) = IsServed (wants p) p []
MayCome p (entry.Kill t) = IsServed (wants p) p []
MayCome p (entry.Gone t) = IsServed (wants p) p []
MayCome p (entry.Spawn t) = IsServed (wants p) p []
MayCome p (entry.AreaMade t base pages rights store) =
    IsMade p t base (record { pages = pages; rights = rights; store = store.0 })
    ⊎ IsShared p t.0 base (record { pages = pages; rights = rights; store = store.0 })
MayCome p (entry.Wrote t at count store) =
    (Pokes t (present p) ⊎ AcceptsWrite t p (present p) ⊎ Receives t (present p))
    × HoldsAround p t.0 at count store.0
MayCome p _ = ⊤

-- the law of shared areas, for these entries after that past
abbrev pub AreasFrom : List Entry → List Entry → Type 0
AreasFrom p [] = IsServed (wants p) p []
AreasFrom p (e ∷ es) = MayCome p e × AreasFrom (e ∷ p) es
