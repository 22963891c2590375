-- A count that is written into a row is a count that changes.
use Rattle.std.proofs.Common.{◌≡◌, ℕ, ◌-◌, Option, Some, None, List, refl, set}
use Rattle.std.specs.Prelude.{IsSome, slice_get, slice_index}
use Rattle.std.specs.Option.{IsSomeAnd}
use Rattle.phone_table.specs.Phones.{row_at, count_at}
use Rattle.phone_table.proofs.Writes.{counted}
use Rattle.switchboard.specs.Counts.{recount}
use Rattle.switchboard.proofs.Soundness.{value_of}

pub some_and : (o : Option ℕ) (P : ℕ → Type 0) → IsSome o → ((n : ℕ) → o ≡ Some n → P n) → IsSomeAnd o P
some_and None P h f = absurd (cc h)
some_and (Some n) P h f = f n refl

pub some_if : (o : Option ℕ) (P : ℕ → Type 0) → IsSomeAnd o P → IsSome o
some_if None P h = absurd h
some_if (Some n) P h = refl

-- a count of a row that is written is a count that changes
pub recount_row : (f : ℕ → ℕ) (counts : List (List ℕ)) (t p : ℕ) (row : List ℕ) → row_at counts t ≡ Some row → IsSome (count_at counts t p) → set counts (t - 1) (set row p (f (slice_index row p))) ≡ recount f counts t p
recount_row f counts t p row is some =
    let h : IsSome (slice_get row p) = rw is at some in
    let n = value_of (slice_get row p) h in
    rw (is, n.1, counted row p n.0 n.1) refl
