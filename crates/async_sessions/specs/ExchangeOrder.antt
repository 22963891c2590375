-- The order in which the exchanges of a task are kept.
use Rattle.std.specs.Prelude.{⊤, ℕ, ◌≡◌, ◌≢◌, ◌≤◌, ◌<◌, ◌+◌, List, [], ◌∷◌, Option, None, Some}
use Rattle.ipc_ids.specs.declared.numbers.ExchangeNo.{ExchangeNo}
use Rattle.async_sessions.specs.declared.sessions.Exchange.{Exchange}

-- the numbers rise strictly, and none is below n
abbrev pub AreRising : ℕ → List Exchange → Type 0
AreRising n [] = ⊤
AreRising n (x ∷ xs) = (n ≤ x.number.0) × AreRising (x.number.0 + 1) xs

-- each number is below n
abbrev pub AreBelow : ℕ → List Exchange → Type 0
AreBelow n [] = ⊤
AreBelow n (x ∷ xs) = (x.number.0 < n) × AreBelow n xs

-- the numbers rise strictly, and each is below the next one
pub record AreInOrder (xs : List Exchange) (next : ℕ) : Type 0 where
  pub rising : AreRising 0 xs
  pub below : AreBelow next xs

-- there is an exchange, and it has the number e
abbrev pub IsNumbered : ExchangeNo → Option Exchange → Type 0
IsNumbered e None = ⊥
IsNumbered e (Some x) = x.number.0 ≡ e.0

-- none has the number e
abbrev pub HasNone : ExchangeNo → List Exchange → Type 0
HasNone e [] = ⊤
HasNone e (x ∷ xs) = (x.number.0 ≢ e.0) × HasNone e xs
