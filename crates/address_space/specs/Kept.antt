-- What a list of stores by rising number stands for.
use Rattle.std.specs.Prelude.{◌≡◌, ℕ, ◌+◌, ◌<◌, ◌≤◌, List, [], ◌∷◌, length, slice_get, IfSome}
use Rattle.std.specs.Ordering.{nat_cmp}
use Rattle.std.specs.FinMap.{FinMap, from_sorted}
use Rattle.address_space.specs.declared.stores.Store.{Store}

-- the bytes of each store under its number
abbrev pub keyed : List Store → List (ℕ × List ℕ)
keyed [] = []
keyed (s ∷ stores) = (s.number, s.bytes) ∷ keyed stores

-- the numbers rise, from low on, and are below high
abbrev pub RisesWithin : ℕ → List Store → ℕ → Type 0
RisesWithin low [] high = low ≤ high
RisesWithin low (s ∷ stores) high = (low ≤ s.number) × RisesWithin (s.number + 1) stores high

-- the bytes by number
abbrev pub map_of : List Store → FinMap nat_cmp (List ℕ)
map_of stores = from_sorted (keyed stores)

-- the store with number n stands at i
pub record StandsAt (stores : List Store) (n i : ℕ) : Type 0 where
  pub in_range : i < length stores
  pub numbered : IfSome (slice_get stores i) (λ s. s.number ≡ n)
