-- The keys by number as they stand in pages of eight numbers.
use Rattle.std.specs.Prelude.{◌≡◌, ℕ, zero, suc, ◌+◌, ◌*◌, false, nat_eq, cond, List, [], ◌∷◌, ◌++◌, Option, None, Some, replicate, slice_index_or, refl}
use Rattle.std.specs.Coded.{Coded, code_by, coded×, coded_ℕ}
use Rattle.std.specs.Ordering.{nat_cmp}
use Rattle.std.specs.FinMap.{FinMap, code, from_entries}
use Rattle.std.specs.List.{IsDistinct}
use Rattle.std.specs.Map.{keys_of, lookup}
use Rattle.call_slab.specs.declared.index.Page.{Page}
use Rattle.call_slab.specs.Links.{key_held}

-- the keys by number, and for how many more there is room
pub record IndexState : Type 0 where
  pub keys : FinMap nat_cmp ℕ
  pub spare : ℕ

-- how such a state is told from others
abbrev pub index_code : Coded IndexState
index_code =
    code_by (FinMap nat_cmp ℕ × ℕ) (coded× (code coded_ℕ coded_ℕ) coded_ℕ) (λ a. (a.keys, a.spare)) (λ p. record { keys = p.0; spare = p.1 }) (λ _. refl)

-- the key in a lane of a page
abbrev pub key_in : Page → ℕ → Option ℕ
key_in page lane = key_held (slice_index_or page.keys lane 4294967295)

-- the key in a lane of a page that may be there
abbrev pub key_at : Option Page → ℕ → Option ℕ
key_at None lane = None
key_at (Some page) lane = key_in page lane

-- the page of no calls
abbrev pub no_calls : Page
no_calls = record { keys = replicate 8 4294967295 }

-- the lane has this key, and the others keep theirs
abbrev pub SetsLane : ℕ → Option ℕ → Page → Page → Type 0
SetsLane lane key old new = (n : ℕ) → key_in new n ≡ cond (nat_eq lane n) key (key_in old n)

-- the lanes of this page that may be there have the keys of that one
abbrev pub HoldsPage : Option Page → Page → Type 0
HoldsPage found page = (lane : ℕ) → key_at found lane ≡ key_in page lane

-- and the other way round
abbrev pub IsPageOf : Page → Option Page → Type 0
IsPageOf page found = (lane : ℕ) → key_in page lane ≡ key_at found lane

-- no lane has a key
abbrev pub HasNoCalls : Option Page → Type 0
HasNoCalls found = (lane : ℕ) → key_at found lane ≡ None

-- the other lanes keep their keys
abbrev pub LanesStay : ℕ → Option Page → Option Page → Type 0
LanesStay lane old new = (n : ℕ) → nat_eq lane n ≡ false → key_at new n ≡ key_at old n

-- the pages under the other numbers stay
abbrev pub PagesStay : ℕ → (ℕ → Option Page) → (ℕ → Option Page) → Type 0
PagesStay number old new = (n : ℕ) → nat_eq number n ≡ false → new n ≡ old n

-- the pages without the one under this number
abbrev pub without : ℕ → (ℕ → Option Page) → ℕ → Option Page
without number pages n = cond (nat_eq number n) None (pages n)

-- these pages are those
abbrev pub AreThose : (ℕ → Option Page) → (ℕ → Option Page) → Type 0
AreThose pages others = (n : ℕ) → pages n ≡ others n

-- the entries with one more, if there is a key
abbrev pub with_key : ℕ → Option ℕ → List (ℕ × ℕ) → List (ℕ × ℕ)
with_key number None entries = entries
with_key number (Some key) entries = (number, key) ∷ entries

-- the keys of a page's lanes below this one, whose numbers begin with the first
unfoldable pub keys_below : Page → ℕ → ℕ → List (ℕ × ℕ)
keys_below page first zero = []
keys_below page first (suc lane) = with_key (first + lane) (key_in page lane) (keys_below page first lane)

-- the keys of all pages
unfoldable pub keys_of_pages : List (ℕ × Page) → List (ℕ × ℕ)
keys_of_pages [] = []
keys_of_pages (p ∷ ps) = keys_below p.1 (8 * p.0) 8 ++ keys_of_pages ps

-- the same as a map
abbrev pub keys_in : List (ℕ × Page) → FinMap nat_cmp ℕ
keys_in pages = from_entries (keys_of_pages pages)

-- each page has a number of its own, the open one too
pub record IsPaged (open_page : ℕ) (pages : List (ℕ × Page)) : Type 0 where
  pub apart : lookup (nat_eq open_page) pages ≡ None
  pub unique : IsDistinct nat_eq (keys_of pages)
