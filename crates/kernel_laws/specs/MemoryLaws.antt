-- What a task may do with its memory, in the words of areas, addresses and the bytes of stores.
use Rattle.std.specs.Prelude.{◌≡◌, ℕ, ◌+◌, ◌*◌, ◌^◌, ◌<◌, ◌≤◌, ◌⊎◌, ◌↔◌, List, [], ◌∷◌, ◌++◌, length, slice_get, Option, None, Some, Result, Ok, Err}
use Rattle.std.specs.FinMap.{get}
use Rattle.ipc_ids.specs.declared.numbers.Code.{Code}
use Rattle.ipc_ids.specs.declared.numbers.TaskNo.{TaskNo}
use Rattle.ipc_ids.specs.declared.numbers.StoreNo.{StoreNo}
use Rattle.ipc_ids.specs.Codes.{enoent, eperm, eexist, einval, elimit}
use Rattle.address_space.specs.Areas.{Area}
use Rattle.address_space.specs.Memory.{Memory, Step, areas_of}

-- task t has this area
abbrev pub Has : Memory → TaskNo → Area → Type 0
Has m t a = (i : ℕ) × (slice_get (areas_of m t) i ≡ Some a)

-- task t has this area, and it begins at this base
pub record HasAt (m : Memory) (t : TaskNo) (base : ℕ) (a : Area) : Type 0 where
  pub has : Has m t a
  pub begins : a.base ≡ base

-- an address lies within so many pages from a base on
pub record IsIn (base pages x : ℕ) : Type 0 where
  pub from : base ≤ x
  pub to : x < base + pages * 4096

-- so many bytes from an address on lie in the area, all of them
pub record Spans (a : Area) (at count : ℕ) : Type 0 where
  pub from : a.base ≤ at
  pub to : at + count ≤ a.base + a.pages * 4096

-- an area of task t that may be read, by its rights 1 or 3, has all these bytes
pub record IsReadable (m : Memory) (t : TaskNo) (at count : ℕ) (a : Area) : Type 0 where
  pub has : Has m t a
  pub right : (a.rights ≡ 1) ⊎ (a.rights ≡ 3)
  pub spans : Spans a at count

-- an area of task t that may be written, by its rights 2 or 3, has all these bytes
pub record IsWritable (m : Memory) (t : TaskNo) (at count : ℕ) (a : Area) : Type 0 where
  pub has : Has m t a
  pub right : (a.rights ≡ 2) ⊎ (a.rights ≡ 3)
  pub spans : Spans a at count

-- no area does
abbrev pub NoArea : (Area → Type 0) → Type 0
NoArea IsSo = (a : Area) → IsSo a → ⊥

-- byte n of a store, where there is one
abbrev pub byte_in : Option (List ℕ) → ℕ → Option ℕ
byte_in None n = None
byte_in (Some bytes) n = slice_get bytes n

abbrev pub byte_at : Memory → ℕ → ℕ → Option ℕ
byte_at m store n = byte_in (get m.stores store) n

-- So many bytes from an address on: each is the byte of the area's store that lies as far behind its first as the
-- address lies behind the area's base.
pub record AreBytesOf (m : Memory) (a : Area) (at count : ℕ) (bytes : List ℕ) : Type 0 where
  pub many : length bytes ≡ count
  pub each : (i n : ℕ) → i < count → a.base + n ≡ at + i → slice_get bytes i ≡ byte_at m a.store n

-- so they are told
abbrev pub TellsBytesOf : Memory → Area → ℕ → ℕ → Result (List ℕ) Code → Type 0
TellsBytesOf m a at count (Ok bytes) = AreBytesOf m a at count bytes
TellsBytesOf m a at count (Err code) = ⊥

-- what task t is told of so many bytes from an address on
pub record IsLawfulRead (m : Memory) (t : TaskNo) (at count : ℕ) (told : Result (List ℕ) Code) : Type 0 where
  -- no bytes may be read anywhere
  pub none : count ≡ 0 → told ≡ Ok []
  -- bytes in one area of the task that may be read are told
  pub bytes : (a : Area) → 1 ≤ count → IsReadable m t at count a → TellsBytesOf m a at count told
  -- and all others are refused
  pub refused : 1 ≤ count → NoArea (IsReadable m t at count) → told ≡ Err eperm

-- what is told where a task may ask for so many bytes at most
pub record IsLawfulPeek (m : Memory) (t : TaskNo) (at count : ℕ) (told : Result (List ℕ) Code) : Type 0 where
  pub many : 64 < count → told ≡ Err einval
  pub few : count ≤ 64 → IsLawfulRead m t at count told

-- these bytes, and no others of any store, change through the area
pub record Writes (m : Memory) (a : Area) (at : ℕ) (new : List ℕ) (after : Memory) : Type 0 where
  pub named : (i n b : ℕ) → slice_get new i ≡ Some b → a.base + n ≡ at + i → byte_at after a.store n ≡ Some b
  -- a byte of another store, or before or behind them
  pub others : (store n : ℕ) →
      (store ≡ a.store → (a.base + n < at) ⊎ (at + length new ≤ a.base + n)) →
      byte_at after store n ≡ byte_at m store n
  pub areas : after.areas ≡ m.areas
  pub next : after.next_store ≡ m.next_store

-- what a write of these bytes by task t comes to, from an address on
pub record IsLawfulWrite (m : Memory) (t : TaskNo) (at : ℕ) (new : List ℕ) (done : Step (Option StoreNo)) : Type 0 where
  -- no bytes may be written anywhere, and into no store
  pub none : length new ≡ 0 → (done.told ≡ Ok None) × (done.memory ≡ m)
  -- bytes in one area of the task that may be written are written
  pub bytes : (a : Area) → 1 ≤ length new → IsWritable m t at (length new) a →
      (done.told ≡ Ok (Some (record { 0 = a.store }))) × Writes m a at new done.memory
  -- and all others are refused; then nothing changes
  pub refused : 1 ≤ length new → NoArea (IsWritable m t at (length new)) →
      (done.told ≡ Err eperm) × (done.memory ≡ m)

-- there can be an area with this base, these pages and these rights
pub record IsPossible (base pages rights : ℕ) : Type 0 where
  pub begins : (q : ℕ) × (base ≡ q * 4096)
  pub some : 1 ≤ pages
  pub few : pages ≤ 16
  pub lowest : 1 ≤ rights
  pub highest : rights ≤ 3
  pub ends : base + pages * 4096 ≤ 2 ^ 32

-- an area of task t has an address of such an area
abbrev pub IsTaken : Memory → TaskNo → ℕ → ℕ → Type 0
IsTaken m t base pages = (a : Area) × Has m t a × (x : ℕ) × IsIn a.base a.pages x × IsIn base pages x

-- whether task t gets such an area, and with which code not: each comes exactly where it is the first cause
pub record IsFirstCause (m : Memory) (t : TaskNo) (base pages rights store : ℕ) (told : Result StoreNo Code) : Type 0 where
  pub impossible : told ≡ Err einval ↔ (IsPossible base pages rights → ⊥)
  pub taken : told ≡ Err eexist ↔ IsPossible base pages rights × IsTaken m t base pages
  pub full : told ≡ Err elimit ↔
      IsPossible base pages rights × (IsTaken m t base pages → ⊥) × (16 ≤ length (areas_of m t))
  pub given : told ≡ Ok (record { 0 = store }) ↔
      IsPossible base pages rights × (IsTaken m t base pages → ⊥) × (length (areas_of m t) < 16)

-- task t has one area more, behind its others, and no other task's areas change
pub record Gives (m : Memory) (t : TaskNo) (a : Area) (after : Memory) : Type 0 where
  pub area : areas_of after t ≡ areas_of m t ++ a ∷ []
  pub others : (u : TaskNo) → 1 ≤ u.0 → (u.0 ≡ t.0 → ⊥) → areas_of after u ≡ areas_of m u

-- what comes of task t making an area: it gets the next store, with a zero for each address, and no other byte changes
pub record IsLawfulMake (m : Memory) (t : TaskNo) (base pages rights : ℕ) (done : Step StoreNo) : Type 0 where
  pub cause : IsFirstCause m t base pages rights m.next_store done.told
  pub refused : (code : Code) → done.told ≡ Err code → done.memory ≡ m
  pub gives : (store : StoreNo) → done.told ≡ Ok store →
      Gives m t (record { base = base; pages = pages; rights = rights; store = store.0 }) done.memory
  pub zeros : (store : StoreNo) → done.told ≡ Ok store → (n : ℕ) →
      (n < pages * 4096 → byte_at done.memory store.0 n ≡ Some 0) ×
      (pages * 4096 ≤ n → byte_at done.memory store.0 n ≡ None)
  pub others : (store n : ℕ) → (store ≡ m.next_store → ⊥) → byte_at done.memory store n ≡ byte_at m store n

-- no right is among these that is not among those: 1 is to read, 2 to write, 3 both, and 0 none
abbrev pub AreAmong : ℕ → ℕ → Type 0
AreAmong rights all = (rights ≡ 0) ⊎ ((rights ≡ all) ⊎ ((all ≡ 3) × ((rights ≡ 1) ⊎ (rights ≡ 2))))

-- an area of task t with this base has these pages and these rights
pub record IsSharable (m : Memory) (t : TaskNo) (base pages rights : ℕ) (a : Area) : Type 0 where
  pub has : HasAt m t base a
  pub wide : a.pages ≡ pages
  pub rightful : AreAmong rights a.rights

-- what comes of giving task `to` an area over the store of an area of task `from`: no byte changes
pub record IsLawfulShare (m : Memory) (from : TaskNo) (base : ℕ) (to : TaskNo) (target pages rights : ℕ) (done : Step StoreNo) : Type 0 where
  pub gone : done.told ≡ Err enoent ↔ NoArea (HasAt m from base)
  pub unlike : done.told ≡ Err eperm ↔
      ((a : Area) × HasAt m from base a) × NoArea (IsSharable m from base pages rights)
  pub cause : (a : Area) → IsSharable m from base pages rights a → IsFirstCause m to target pages rights a.store done.told
  pub refused : (code : Code) → done.told ≡ Err code → done.memory ≡ m
  pub gives : (store : StoreNo) → done.told ≡ Ok store →
      Gives m to (record { base = target; pages = pages; rights = rights; store = store.0 }) done.memory
  pub bytes : done.memory.stores ≡ m.stores

-- this area of task t goes, and no other area of any task
pub record Drops (m : Memory) (t : TaskNo) (a : Area) (after : Memory) : Type 0 where
  pub place : ℕ
  pub there : slice_get (areas_of m t) place ≡ Some a
  -- those before it stand where they stood, and those behind it one place nearer
  pub before : (i : ℕ) → i < place → slice_get (areas_of after t) i ≡ slice_get (areas_of m t) i
  pub behind : (i : ℕ) → place ≤ i → slice_get (areas_of after t) i ≡ slice_get (areas_of m t) (i + 1)
  pub others : (u : TaskNo) → 1 ≤ u.0 → (u.0 ≡ t.0 → ⊥) → areas_of after u ≡ areas_of m u
  -- its store is gone exactly where no area stands over it any more, and no other store changes
  pub used : (u : TaskNo) (b : Area) → 1 ≤ u.0 → Has after u b → b.store ≡ a.store →
      get after.stores a.store ≡ get m.stores a.store
  pub unused : ((u : TaskNo) (b : Area) → 1 ≤ u.0 → Has after u b → b.store ≡ a.store → ⊥) →
      get after.stores a.store ≡ None
  pub stores : (n : ℕ) → (n ≡ a.store → ⊥) → get after.stores n ≡ get m.stores n
  pub next : after.next_store ≡ m.next_store

-- what task t is told as it drops the area with this base, and that it is this one that goes
pub record IsLawfulDrop (m : Memory) (t : TaskNo) (base : ℕ) (done : Step Unit) : Type 0 where
  pub gone : done.told ≡ Err enoent ↔ NoArea (HasAt m t base)
  pub dropped : done.told ≡ Ok tt ↔ (a : Area) × HasAt m t base a
  pub refused : (code : Code) → done.told ≡ Err code → done.memory ≡ m
  pub goes : 1 ≤ t.0 → done.told ≡ Ok tt → (a : Area) × HasAt m t base a × Drops m t a done.memory
