-- What a sink over a writer holds.
use Rattle.std.specs.Prelude.{ℕ, List}
use Rattle.std.specs.declared.option.Option.{Option}

-- the bytes that the writer holds, where it tells them, and how many pieces it did not take whole
pub record Output : Type 0 where
  pub contents : Option (List ℕ)
  pub faults : ℕ
