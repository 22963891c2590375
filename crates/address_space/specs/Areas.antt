-- The areas of one task: which bytes an area holds, and which areas a task may have.
use Rattle.std.specs.Prelude.{◌≡◌, ℕ, ◌+◌, ◌*◌, ◌^◌, ◌%◌, ◌≤◌, ◌==◌, Bool, true, ◌&&◌, ◌||◌, if◌then◌else◌, List, [], ◌∷◌, length, fold, slice_get, bit_and, Option, None, Some, nat_lt, nat_le, refl, position}
use Rattle.std.specs.List.{list_any}
use Rattle.std.specs.Coded.{Coded, code_by, coded×, coded_ℕ}
use Rattle.ipc_ids.specs.declared.numbers.Code.{Code}
use Rattle.ipc_ids.specs.Codes.{eexist, einval, elimit}
use Rattle.address_space.specs.declared.area.Right.{Right}
use Rattle.address_space.specs.declared.area.Right.TheVariants.{Read, Write}

-- a range of a task's addresses over a store of bytes; rights are 1 to read, 2 to write, 3 for both
pub record Area : Type 0 where
  pub base : ℕ
  pub pages : ℕ
  pub rights : ℕ
  pub store : ℕ

-- how areas are told apart
abbrev pub area_code : Coded Area
area_code = code_by (ℕ × (ℕ × (ℕ × ℕ))) (coded× coded_ℕ (coded× coded_ℕ (coded× coded_ℕ coded_ℕ))) (λ a. (a.base, (a.pages, (a.rights, a.store)))) (λ p. record { base = p.0; pages = p.1.0; rights = p.1.1.0; store = p.1.1.1 }) (λ _. refl)

-- an area begins at a page, has 1 to 16 pages and rights 1 to 3, and ends within the address range
pub record IsInRange (base pages rights : ℕ) : Type 0 where
  pub aligned : base % 4096 ≡ 0
  pub some : 1 ≤ pages
  pub few : pages ≤ 16
  pub lawful : (1 ≤ rights) × (rights ≤ 3)
  pub fits : base + pages * 4096 ≤ 2 ^ 32

-- the first address behind an area
abbrev pub end_of : Area → ℕ
end_of a = a.base + a.pages * 4096

-- whether these rights have that one
abbrev pub allows : ℕ → Right → Bool
allows rights Read = (rights == 1) || (rights == 3)
allows rights Write = (rights == 2) || (rights == 3)

-- whether these rights, as bits, are all among those
abbrev pub is_subset : ℕ → ℕ → Bool
is_subset rights all = bit_and rights all == rights

-- whether so many bytes from an address on lie in the area, and it has that right
abbrev pub holds : ℕ → ℕ → Right → Area → Bool
holds at count right a = allows a.rights right && (nat_le a.base at && nat_le (at + count) (end_of a))

-- the area that holds these bytes with that right
abbrev pub holder : ℕ → ℕ → Right → List Area → Option Area
holder at count right [] = None
holder at count right (a ∷ areas) = if holds at count right a then Some a else holder at count right areas

-- whether an area has a byte of those from base to end
abbrev pub overlaps : ℕ → ℕ → Area → Bool
overlaps base end a = nat_lt a.base end && nat_lt base (end_of a)

-- whether an area stands over that store
abbrev pub stands_over : ℕ → Area → Bool
stands_over store a = a.store == store

-- at which place in the list the area with this base stands
abbrev pub place_of : ℕ → List Area → Option ℕ
place_of base areas = position (λ a. a.base == base) areas

-- the area at a place, where there is one
abbrev pub area_in : List Area → Option ℕ → Option Area
area_in areas None = None
area_in areas (Some i) = slice_get areas i

-- the lower of two bases
abbrev pub lower : Option ℕ → ℕ → Option ℕ
lower None base = Some base
lower (Some least) base = if nat_lt base least then Some base else Some least

-- the least base of these areas
abbrev pub least_base : List Area → Option ℕ
least_base areas = fold (λ least a. lower least a.base) None areas

-- whether there can be no such area, in any task
abbrev pub is_malformed : ℕ → ℕ → ℕ → Bool
is_malformed base pages rights =
    if base % 4096 == 0 then (if nat_lt pages 1 then true else (if nat_lt 16 pages then true else (if nat_lt rights 1 then true else (if nat_lt 3 rights then true else nat_lt (2 ^ 32) (base + pages * 4096))))) else true

-- whether one of these areas has a byte of such an area
abbrev pub is_taken : ℕ → ℕ → List Area → Bool
is_taken base pages areas = list_any (overlaps base (base + pages * 4096)) areas

-- whether a task with these areas can have no more of them
abbrev pub is_full : List Area → Bool
is_full areas = nat_le 16 (length areas)

-- why a task with these areas can have no such area: the first cause
abbrev pub refusal : ℕ → ℕ → ℕ → List Area → Option Code
refusal base pages rights areas =
    if is_malformed base pages rights then Some einval else (if is_taken base pages areas then Some eexist else (if is_full areas then Some elimit else None))
