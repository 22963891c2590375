-- The blank with which a call that tells no count makes a counter of its own.
use Rattle.std.specs.Prelude.{◌≡◌, ◌<◌, ℕ}

-- a blank with this name and so many parts opens the ledger
pub record Opens (ledger shares name parts : ℕ) : Type 0 where
  pub names : name ≡ ledger
  pub divides : parts ≡ shares
  pub some : 0 < parts
