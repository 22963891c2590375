-- The number that digits spell.
use Rattle.std.specs.Prelude.{ℕ, ◌^◌, List, length, ◌&&◌, Option, Some, None, nat_lt, nat_le, if◌then◌else◌}
use Rattle.std.specs.List.{list_all}
use Rattle.std.specs.Char.{is_digit}
use Rattle.std.specs.Str.Parse.{digits_value}

-- the number that from one to `most` digits spell, if it is below 2 ^ 64
unfoldable pub in_base : ℕ → ℕ → List ℕ → Option ℕ
in_base base most digits =
    if nat_lt 0 (length digits) && nat_le (length digits) most && list_all (λ c. is_digit c base) digits
    && nat_lt (digits_value base digits) (2 ^ 64)
    then Some (digits_value base digits) else None
