-- What the handles of a fibril name, where each keeps a number and a mark of whether it names one.
use Rattle.std.specs.Prelude.{ℕ, Bool, if◌then◌else◌, List, [], ◌∷◌, Option, None, Some, nat_lt}
use Rattle.std.specs.Prelude.{slice_set}
use Rattle.ipc_ids.specs.declared.numbers.ExchangeNo.{ExchangeNo}

-- what each handle names: the exchange with its number, where its mark says that it names one
abbrev pub names_of : List ExchangeNo → List Bool → List (Option ExchangeNo)
names_of [] bs = []
names_of (e ∷ es) [] = []
names_of (e ∷ es) (b ∷ bs) = (if b then Some e else None) ∷ names_of es bs

-- the handle with this number names that
abbrev pub with_named : List (Option ExchangeNo) → ℕ → Option ExchangeNo → List (Option ExchangeNo)
with_named handles x h = if nat_lt x 8 then slice_set handles x h else handles
