-- The stores of bytes under their numbers, and what may be done with them.
use Rattle.std.specs.Prelude.{ℕ, ◌+◌, ◌≤◌, List, ◌++◌, length, take, drop, replicate, Option, None, Some, refl}
use Rattle.std.specs.Coded.{Coded, code_by, coded×, coded_ℕ, coded_list}
use Rattle.std.specs.Ordering.{nat_cmp}
use Rattle.std.specs.FinMap.{FinMap, code, empty, get, insert, remove}
use Rattle.std.specs.Option.{option_map_or}

-- the bytes of each store, and the number of the next one
pub record StoreTable : Type 0 where
  pub stores : FinMap nat_cmp (List ℕ)
  pub next_store : ℕ

-- how tables are told apart
abbrev pub store_table_code : Coded StoreTable
store_table_code = code_by (FinMap nat_cmp (List ℕ) × ℕ) (coded× (code coded_ℕ (coded_list coded_ℕ)) coded_ℕ) (λ s. (s.stores, s.next_store)) (λ p. record { stores = p.0; next_store = p.1 }) (λ _. refl)

-- no stores; numbers begin with 1
abbrev pub no_stores : StoreTable
no_stores = record { stores = empty; next_store = 1 }

-- so many bytes from a place on
abbrev pub bytes_from : List ℕ → ℕ → ℕ → List ℕ
bytes_from bytes at count = take count (drop at bytes)

-- the bytes, with others from a place on
abbrev pub written_over : List ℕ → ℕ → List ℕ → List ℕ
written_over bytes at new = take at bytes ++ (new ++ drop (at + length new) bytes)

-- there are so many bytes
abbrev pub HasBytes : Option (List ℕ) → ℕ → Type 0
HasBytes None count = ⊥
HasBytes (Some bytes) count = count ≤ length bytes

-- a new store of so many zeros
abbrev pub with_zeros : StoreTable → ℕ → StoreTable
with_zeros s count = record { stores = insert s.stores s.next_store (replicate count 0); next_store = s.next_store + 1 }

-- the stores, with other bytes in one of them from a place on
abbrev pub write_at : FinMap nat_cmp (List ℕ) → ℕ → ℕ → List ℕ → FinMap nat_cmp (List ℕ)
write_at stores n at new = option_map_or (λ bytes. insert stores n (written_over bytes at new)) (get stores n) stores

-- likewise with the next number
abbrev pub with_bytes : StoreTable → ℕ → ℕ → List ℕ → StoreTable
with_bytes s n at new = record { stores = write_at s.stores n at new; next_store = s.next_store }

-- the store is gone
abbrev pub without_store : StoreTable → ℕ → StoreTable
without_store s n = record { stores = remove s.stores n; next_store = s.next_store }
