-- What stands at a task and a phone after a change of one row, or one row more.
use Rattle.std.proofs.Common.{◌≡◌, ℕ, zero, suc, ◌-◌, List, Some, arith}
use Rattle.std.specs.Prelude.{slice_get}
use Rattle.std.proofs.Math.ListN.{set}
use Rattle.std.proofs.lemmas.List.{set-get_or}
use Rattle.std.proofs.lemmas.Option.{get_or_from_slice_get}
use Rattle.std.proofs.lemmas.Bool.{ne_eqb}
use Rattle.phone_table.specs.Phones.{row_at}

-- a write of what stands there changes nothing
pub same_row : {A : Type 0} (rows : List A) (t : ℕ) (row : A) → row_at rows t ≡ Some row → set rows (t - 1) row ≡ rows
same_row rows zero row there = absurd (cc there)
same_row rows (suc t) row there =
    let back : suc t - 1 ≡ t = omega arith in
    let here : slice_get rows t ≡ Some row = rw (ne_eqb (suc t) 0 (λ e. omega arith), back) at there in
    rw (back, ← get_or_from_slice_get rows t row row here) (set-get_or rows t row)
