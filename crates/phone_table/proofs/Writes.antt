-- What a row is after one phone of it was written, and what a pass over its phones finds.
use Rattle.std.proofs.Common.{◌≡◌, ℕ, ◌-◌, ◌≤◌, List, [], ◌∷◌, length, get_or, map, replicate, take, Some, refl, ap, arith, zero, suc}
use Rattle.std.specs.Prelude.{slice_get, slice_index}
use Rattle.std.proofs.Math.ListN.{set}
use Rattle.std.specs.List.{refill}
use Rattle.std.proofs.lemmas.List.{map-set, take-replicate, append-nil, length-set}
use Rattle.std.proofs.Math.Seq.{map-set_same, take-length, drop-length}
use Rattle.std.proofs.lemmas.Option.{slice_get_read, slice_get-map}
use Rattle.std.proofs.lemmas.Bool.{ne_eqb}
use Rattle.ipc_ids.specs.declared.message.PhoneState.{PhoneState}
use Rattle.phone_table.specs.declared.phones.Phone.{Phone}
use Rattle.phone_table.specs.Phones.{Row, with_phone, with_count, row_at}
use Rattle.phone_table.specs.Views.{row_of, rows_of}

refilled : (phones written : List Phone) → length written ≡ length phones → refill (length phones) phones written ≡ written
refilled phones written same = rw (same, drop-length phones, append-nil written, ← same) (take-length written)

pub state_written : (phones : List Phone) (p : ℕ) (blank : Phone) (state : PhoneState) → row_of (refill (length phones) phones (set phones p (record { state = state; count = (get_or phones p blank).count }))) ≡ with_phone (row_of phones) p state
state_written phones p blank state =
    let written : Phone = record { state = state; count = (get_or phones p blank).count } in
    rw (refilled phones (set phones p written) (length-set phones p written), map-set (λ (x : Phone). x.state) phones p written, map-set_same (λ (x : Phone). x.count) phones p written blank refl) refl

pub count_written : (phones : List Phone) (p : ℕ) (blank : Phone) (count : ℕ) → row_of (refill (length phones) phones (set phones p (record { state = (get_or phones p blank).state; count = count }))) ≡ with_count (row_of phones) p count
count_written phones p blank count =
    let written : Phone = record { state = (get_or phones p blank).state; count = count } in
    rw (refilled phones (set phones p written) (length-set phones p written), map-set (λ (x : Phone). x.count) phones p written, map-set_same (λ (x : Phone). x.state) phones p written blank refl) refl

pub counted : (counts : List ℕ) (p count : ℕ) → slice_get counts p ≡ Some count → slice_index counts p ≡ count
counted [] p count h = absurd (cc h)
counted (x ∷ counts) zero count h = cc h
counted (x ∷ counts) (suc p) count h = counted counts p count h

map_replicate : {A B : Type 0} (f : A → B) (n : ℕ) (x : A) → map f (replicate n x) ≡ replicate n (f x)
map_replicate f zero x = refl
map_replicate f (suc n) x = ap (λ xs. f x ∷ xs) (map_replicate f n x)

pub all_free : (phone : Phone) (limit : ℕ) → limit ≤ 64 → row_of (take limit (replicate 64 phone)) ≡ record { states = replicate limit phone.state; counts = replicate limit phone.count }
all_free phone limit h = rw (take-replicate limit 64 phone h, map_replicate (λ (x : Phone). x.state) limit phone, map_replicate (λ (x : Phone). x.count) limit phone) refl

-- the rows after one of them was written
pub row_written : (rows : List Row) (i : ℕ) (row : Row) → rows_of (set rows i row) ≡ record { states = set (rows_of rows).states i row.states; counts = set (rows_of rows).counts i row.counts }
row_written rows i row = rw (map-set (λ (x : Row). x.states) rows i row, map-set (λ (x : Row). x.counts) rows i row) refl

-- what is known of a row that is found by its task
pub row_read : {A : Type 0} (f : Row → A) (rows : List Row) (t : ℕ) (row : Row) → 1 ≤ t → t ≤ length rows → row ≡ get_or rows (t - 1) row → row_at (map f rows) t ≡ Some (f row)
row_read f rows t row some added is =
    rw (ne_eqb t 0 (λ e. omega (arith, e, some)), slice_get-map f rows (t - 1), slice_get_read rows (length rows) (t - 1) row refl (omega arith) is) refl
