-- The areas of all tasks over the stores, and what a task may do with them.
use Rattle.std.specs.Prelude.{◌≡◌, ℕ, ◌+◌, ◌-◌, ◌*◌, ◌≤◌, ◌==◌, Bool, ◌&&◌, if◌then◌else◌, List, [], ◌∷◌, ◌++◌, length, Option, None, Some, Result, Ok, Err, OnErr, nat_lt, refl, slice_get, slice_set, take, replicate, remove, unwrap_or}
use Rattle.std.specs.List.{list_any}
use Rattle.std.specs.Coded.{Coded, code_by, coded×, coded_ℕ, coded_list}
use Rattle.std.specs.Ordering.{nat_cmp}
use Rattle.std.specs.FinMap.{FinMap, code, empty, get, insert}
use Rattle.std.specs.FinMap as map
use Rattle.ipc_ids.specs.declared.numbers.Code.{Code}
use Rattle.ipc_ids.specs.declared.numbers.TaskNo.{TaskNo}
use Rattle.ipc_ids.specs.Codes.{enoent, eperm, einval}
use Rattle.address_space.specs.declared.area.Right.{Right}
use Rattle.address_space.specs.declared.area.Right.TheVariants.{Read, Write}
use Rattle.ipc_ids.specs.declared.numbers.StoreNo.{StoreNo}
use Rattle.address_space.specs.declared.spaces.Spot.{Spot}
use Rattle.address_space.specs.declared.spaces.SpaceFault.{SpaceFault}
use Rattle.address_space.specs.declared.spaces.SpaceFault.TheVariants.{Refused, NoMemory}
use Rattle.address_space.specs.declared.facts.Area as facts
use Rattle.address_space.specs.Areas.{Area, area_code, holder, place_of, area_in, stands_over, least_base, is_subset, refusal}
use Rattle.address_space.specs.Stores.{bytes_from, write_at}

-- the areas of each task, from 1 on, the bytes of the stores, and the next store number
pub record Memory : Type 0 where
  pub areas : List (List Area)
  pub stores : FinMap nat_cmp (List ℕ)
  pub next_store : ℕ

-- how memories are told apart
abbrev pub memory_code : Coded Memory
memory_code =
    code_by (List (List Area) × (FinMap nat_cmp (List ℕ) × ℕ)) (coded× (coded_list (coded_list area_code)) (coded× (code coded_ℕ (coded_list coded_ℕ)) coded_ℕ)) (λ m. (m.areas, (m.stores, m.next_store))) (λ p. record { areas = p.0; stores = p.1.0; next_store = p.1.1 }) (λ _. refl)

-- the memory after a request, and what is told
pub record Step (A : Type 0) : Type 0 where
  pub memory : Memory
  pub told : Result A Code

-- the code did just this
pub record Did {A : Type 0} (new : Memory) (result : Result A Code) (step : Step A) : Type 0 where
  pub memory : new ≡ step.memory
  pub told : result ≡ step.told

-- what is told is this; memory may be wanting only where nothing is refused
abbrev pub Tells : {A : Type 0} → Result A SpaceFault → Result A Code → Type 0
Tells (Ok x) told = told ≡ Ok x
Tells (Err (Refused code)) told = told ≡ Err code
Tells (Err NoMemory) told = OnErr told ⊥

-- refused; nothing changes
abbrev pub refused : {A : Type 0} → Memory → Code → Step A
refused m code = record { memory = m; told = Err code }

-- no task and no store
abbrev pub no_memory : Memory
no_memory = record { areas = []; stores = empty; next_store = 1 }

-- one task more, without areas
abbrev pub with_task : Memory → Memory
with_task m = record { areas = m.areas ++ [] ∷ []; stores = m.stores; next_store = m.next_store }

-- the task that was added last is gone
abbrev pub without_last : Memory → Memory
without_last m = record { areas = take (length m.areas - 1) m.areas; stores = m.stores; next_store = m.next_store }

-- the task was added; tasks are numbered from 1
pub record IsAdded (m : Memory) (t : TaskNo) : Type 0 where
  pub from_one : 1 ≤ t.0
  pub in_range : t.0 ≤ length m.areas

-- the areas of a task, in the order in which they were made
abbrev pub areas_of : Memory → TaskNo → List Area
areas_of m t = unwrap_or (slice_get m.areas (t.0 - 1)) []

-- how many they are
abbrev pub count_areas : Memory → TaskNo → ℕ
count_areas m t = length (areas_of m t)

-- the areas of a task are these
abbrev pub with_areas : Memory → TaskNo → List Area → Memory
with_areas m t areas = record { areas = slice_set m.areas (t.0 - 1) areas; stores = m.stores; next_store = m.next_store }

-- a new store of so many zeros
abbrev pub with_store : Memory → ℕ → Memory
with_store m count = record { areas = m.areas; stores = insert m.stores m.next_store (replicate count 0); next_store = m.next_store + 1 }

-- a task's new area over a new store
abbrev pub made_area : Memory → TaskNo → Area → Memory
made_area m t a = with_areas (with_store m (a.pages * 4096)) t (areas_of m t ++ a ∷ [])

-- the area is made where there is no cause against it
abbrev pub make_unless : Memory → TaskNo → Area → Option Code → Step StoreNo
make_unless m t a (Some code) = refused m code
make_unless m t a None = record { memory = made_area m t a; told = Ok (record { 0 = m.next_store }) }

-- a task makes an area
abbrev pub make : Memory → TaskNo → ℕ → ℕ → ℕ → Step StoreNo
make m t base pages rights = make_unless m t (record { base = base; pages = pages; rights = rights; store = m.next_store }) (refusal base pages rights (areas_of m t))

-- whether an area of some task stands over that store
abbrev pub is_used : ℕ → List (List Area) → Bool
is_used store areas = list_any (list_any (stands_over store)) areas

-- a store that no area stands over goes
abbrev pub release : Memory → ℕ → Memory
release m store = record { areas = m.areas; stores = if is_used store m.areas then m.stores else map.remove m.stores store; next_store = m.next_store }

-- the area at a place of the list goes
abbrev pub drop_place : Memory → TaskNo → ℕ → Option Area → Memory
drop_place m t i None = m
drop_place m t i (Some a) = release (with_areas m t (remove (areas_of m t) i)) a.store

-- it goes where there is such a place
abbrev pub drop_at : Memory → TaskNo → Option ℕ → Step Unit
drop_at m t None = refused m enoent
drop_at m t (Some i) = record { memory = drop_place m t i (slice_get (areas_of m t) i); told = Ok tt }

-- a task drops the area with this base
abbrev pub drop_area : Memory → TaskNo → ℕ → Step Unit
drop_area m t base = drop_at m t (place_of base (areas_of m t))

-- where in its store a byte of an area lies
abbrev pub spot_in : ℕ → Option Area → Option Spot
spot_in at None = None
spot_in at (Some a) = Some (record { store = a.store; offset = at - a.base })

-- where these bytes of a task lie, if one area with that right holds them all
abbrev pub spot_of : Memory → TaskNo → ℕ → ℕ → Right → Option Spot
spot_of m t at count right = spot_in at (holder at count right (areas_of m t))

-- so many bytes of a store, from a spot on
abbrev pub bytes_at : Memory → Spot → ℕ → List ℕ
bytes_at m s count = bytes_from (unwrap_or (get m.stores s.store) []) s.offset count

-- they are told where there is such a spot
abbrev pub read_at : Memory → ℕ → Option Spot → Result (List ℕ) Code
read_at m count None = Err eperm
read_at m count (Some s) = Ok (bytes_at m s count)

-- a task's bytes are read; 0 bytes are read anywhere
abbrev pub read : Memory → TaskNo → ℕ → ℕ → Result (List ℕ) Code
read m t at count = if count == 0 then Ok [] else read_at m count (spot_of m t at count Read)

-- whether they may be read
abbrev pub tested : Result (List ℕ) Code → Result Unit Code
tested (Ok bytes) = Ok tt
tested (Err code) = Err code

-- likewise up to 64 bytes
abbrev pub peek : Memory → TaskNo → ℕ → ℕ → Result (List ℕ) Code
peek m t at count = if nat_lt 64 count then Err einval else read m t at count

-- bytes are written from a spot on, where there is one
abbrev pub write_spot : Memory → List ℕ → Option Spot → Step (Option StoreNo)
write_spot m new None = refused m eperm
write_spot m new (Some s) =
    record {
      memory = record { areas = m.areas; stores = write_at m.stores s.store s.offset new; next_store = m.next_store };
      told = Ok (Some (record { 0 = s.store }));
    }

-- a task's bytes are written; 0 bytes are written anywhere, and into no store
abbrev pub write : Memory → TaskNo → ℕ → List ℕ → Step (Option StoreNo)
write m t at new = if length new == 0 then record { memory = m; told = Ok None } else write_spot m new (spot_of m t at (length new) Write)

-- the least base of a task's areas
abbrev pub first_area : Memory → TaskNo → Option ℕ
first_area m t = least_base (areas_of m t)

-- the area of a task with this base
abbrev pub area_at : Memory → TaskNo → ℕ → Option Area
area_at m t base = area_in (areas_of m t) (place_of base (areas_of m t))

-- what is told of an area
abbrev pub facts_of : Option Area → Option facts.Area
facts_of None = None
facts_of (Some a) = Some (record { pages = a.pages; rights = a.rights; store = record { 0 = a.store } })

-- what is told of the area of a task with this base
abbrev pub area : Memory → TaskNo → ℕ → Option facts.Area
area m t base = facts_of (area_at m t base)

-- a task's new area over a store that is there, where there is no cause against it
abbrev pub share_unless : Memory → TaskNo → Area → Option Code → Step StoreNo
share_unless m to a (Some code) = refused m code
share_unless m to a None = record { memory = with_areas m to (areas_of m to ++ a ∷ []); told = Ok (record { 0 = a.store }) }

-- it has as many pages as the area that is shared, and no right that this has not
abbrev pub share_area : Memory → TaskNo → ℕ → ℕ → ℕ → Option Area → Step StoreNo
share_area m to target pages rights None = refused m enoent
share_area m to target pages rights (Some a) =
    if (a.pages == pages) && is_subset rights a.rights then share_unless m to (record { base = target; pages = pages; rights = rights; store = a.store }) (refusal target pages rights (areas_of m to)) else refused m eperm

-- a task gets an area over the store of an area of a task
abbrev pub share : Memory → TaskNo → ℕ → TaskNo → ℕ → ℕ → ℕ → Step StoreNo
share m from base to target pages rights = share_area m to target pages rights (area_at m from base)
