-- The bytes of a list as they are kept.
use Rattle.std.specs.Prelude.{ℕ, List, [], Option, None, Some, Box, Vec}
use Rattle.std.specs.declared.alloc.Global.{Global}

-- the bytes, where any are kept
abbrev pub bytes_in : Option (Box (Vec ℕ Global) Global) → List ℕ
bytes_in None = []
bytes_in (Some kept) = kept.value.items
