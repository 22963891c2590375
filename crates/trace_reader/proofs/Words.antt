-- Equal words are read as equal entries.
use Rattle.std.proofs.Common.{ℕ, ◌≡◌, List, refl}
use Rattle.trace_reader.specs.Read.{entry_in}

pub same_entry : (v w : ℕ → List ℕ) → ((i : ℕ) → v i ≡ w i) → entry_in v ≡ entry_in w
same_entry v w h = rw (h 0, h 1, h 2, h 3, h 4, h 5, h 6, h 7, h 8, h 9, h 10, h 11, h 12) refl
