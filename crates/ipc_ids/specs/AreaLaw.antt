-- The law of shared areas.
use Rattle.std.specs.Prelude.{ℕ, suc, ◌≡◌, ◌≤◌, ◌+◌, ◌*◌, ◌⊎◌, bit_and, slice_index, Option, Some, None, List, [], ◌∷◌, ⊤}
use Rattle.ipc_ids.specs.declared.numbers.TaskNo.{TaskNo}
use Rattle.ipc_ids.specs.declared.message.Request.TheVariants as request
use Rattle.ipc_ids.specs.declared.entry.Entry.{Entry}
use Rattle.ipc_ids.specs.declared.entry.Entry.TheVariants as entry
use Rattle.ipc_ids.specs.Codes.{eok}
use Rattle.ipc_ids.specs.Methods.{data_write, data_read, share_out, share_in}
use Rattle.ipc_ids.specs.Holdings.{Holding, held, last_store, present, Making, making}

-- these rights, as bits, are all among those
abbrev pub IsPartOf : ℕ → ℕ → Type 0
IsPartOf rights all = bit_and rights all ≡ rights

-- task t makes the area itself, in its event, over the store after the greatest so far
pub record IsMade (p : List Entry) (t : TaskNo) (base : ℕ) (got : Holding) : Type 0 where
  pub asked : present p ≡ Some (entry.Head t (request.AreaMake base got.pages got.rights))
  pub fresh : got.store ≡ suc (last_store p)

-- the area stands over the store of the one that is held, and has no right that this has not
abbrev pub SharesFrom : Option Holding → Holding → Type 0
SharesFrom None got = ⊥
SharesFrom (Some source) got = (got.store ≡ source.store) × IsPartOf got.rights source.rights

-- task v accepts with these arguments a call of task u with those: by SHARE_OUT task v gets an area
-- where it says, over the one of u that the call names, and by SHARE_IN task u gets an area where
-- its call says, over the one of v that the answer names
abbrev pub Shares : List Entry → Making → List ℕ → ℕ → List ℕ → ℕ → ℕ → Holding → Type 0
Shares p made called v answered t base got =
    ((made.method ≡ share_out) × (t ≡ v) × (base ≡ slice_index answered 0)
    × SharesFrom (held made.caller (slice_index called 0) p) got)
    ⊎ ((made.method ≡ share_in) × (t ≡ made.caller) × (base ≡ slice_index called 0)
    × SharesFrom (held v (slice_index answered 0) p) got)

-- the head of the event in which the call was accepted is a call, which asks for these pages and
-- these rights
abbrev pub SharesAsked : List Entry → Making → Option Entry → ℕ → List ℕ → ℕ → ℕ → Holding → Type 0
SharesAsked p made (Some (entry.Head asker (request.Call phone msg))) v answered t base got =
    (got.pages ≡ slice_index msg.args 1) × (got.rights ≡ slice_index msg.args 2)
    × Shares p made msg.args v answered t base got
SharesAsked p made _ v answered t base got = ⊥

abbrev pub SharesMade : List Entry → Option Making → ℕ → List ℕ → ℕ → ℕ → Holding → Type 0
SharesMade p None v answered t base got = ⊥
SharesMade p (Some made) v answered t base got = SharesAsked p made made.asked v answered t base got

-- task t gets the area by the entry before this one, with which a task accepts a share call
abbrev pub IsShared : List Entry → ℕ → ℕ → Holding → Type 0
IsShared (entry.Answered n reply (Some v) ∷ p) t base got =
    (reply.code ≡ eok) × SharesMade p (making n.0 p) v.0 reply.args t base got
IsShared _ t base got = ⊥

-- the call was made with this method
abbrev pub HasMethod : ℕ → Option Making → Type 0
HasMethod method None = ⊥
HasMethod method (Some made) = made.method ≡ method

-- one of these entries, before the first head, delivers call n
abbrev pub Delivers : ℕ → List Entry → Type 0
Delivers n [] = ⊥
Delivers n (entry.Delivered m t ∷ es) = (m.0 ≡ n) ⊎ Delivers n es
Delivers n (entry.Head t asked ∷ es) = ⊥
Delivers n (entry.Kill t ∷ es) = ⊥
Delivers n (entry.Gone t ∷ es) = ⊥
Delivers n (entry.Spawn t ∷ es) = ⊥
Delivers n (_ ∷ es) = Delivers n es

-- task t pokes
abbrev pub Pokes : TaskNo → Option Entry → Type 0
Pokes t (Some (entry.Head u (request.Poke at bytes))) = u ≡ t
Pokes t _ = ⊥

-- task t answers a DATA_WRITE with EOK
abbrev pub AcceptsWrite : TaskNo → List Entry → Option Entry → Type 0
AcceptsWrite t p (Some (entry.Head u (request.Answer n reply))) =
    (u ≡ t) × (reply.code ≡ eok) × HasMethod data_write (making n p)
AcceptsWrite t p _ = ⊥

-- task t receives, and the answer of a DATA_READ is delivered in this event, before or later
abbrev pub TakesRead : TaskNo → List Entry → List Entry → Type 0
TakesRead t p later =
    (present p ≡ Some (entry.Head t request.Receive))
    × (n : ℕ) × HasMethod data_read (making n p) × (Delivers n p ⊎ Delivers n later)

-- task t holds an area over this store, with the write right, around so many bytes from there on
pub record HoldsAround (p : List Entry) (t at count store : ℕ) : Type 0 where
  pub base : ℕ
  pub area : Holding
  pub held_there : held t base p ≡ Some area
  pub same_store : area.store ≡ store
  pub writable : IsPartOf 2 area.rights
  pub begins : base ≤ at
  pub ends : at + count ≤ base + area.pages * 4096

-- between these earlier entries, the newest first, and those later ones the entry is lawful, if it
-- tells of an area that a task gets, or of a write
abbrev pub IsLawfulEntry : List Entry → Entry → List Entry → Type 0
IsLawfulEntry p (entry.AreaMade t base pages rights store) later =
    IsMade p t base (record { pages = pages; rights = rights; store = store.0 })
    ⊎ IsShared p t.0 base (record { pages = pages; rights = rights; store = store.0 })
IsLawfulEntry p (entry.Wrote t at count store) later =
    (Pokes t (present p) ⊎ AcceptsWrite t p (present p) ⊎ TakesRead t p later)
    × HoldsAround p t.0 at count store.0
IsLawfulEntry p _ later = ⊤

abbrev pub AllLawful : List Entry → List Entry → Type 0
AllLawful p [] = ⊤
AllLawful p (e ∷ es) = IsLawfulEntry p e es × AllLawful (e ∷ p) es

-- the law of shared areas: each area that a task gets is one that it makes over a new store, or one
-- that an accepted share call gives it over the store of a held area, without further rights; and
-- each write is its task's own, into an area that the task holds and may write
abbrev pub AreasAreLawful : List Entry → Type 0
AreasAreLawful h = AllLawful [] h

-- each of the entries, the newest first, was lawful as it came
abbrev pub WereLawful : List Entry → Type 0
WereLawful [] = ⊤
WereLawful (e ∷ p) = WereLawful p × IsLawfulEntry p e []
