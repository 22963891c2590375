-- What a shelf of files and a sink of bytes mean. Files are a list of names with their bytes.
use Rattle.std.specs.Prelude.{◌≡◌, ◌≤◌, ◌+◌, ◌-◌, ◌^◌, ℕ, List, [], ◌∷◌, take, min, ⊤, None, Some, count_by, if◌then◌else◌}
use Rattle.std.specs.declared.option.Option.{Option}
use Rattle.std.specs.Option.{option_map}
use Rattle.std.specs.Str.{bytes_eq}
use Rattle.std.specs.Io.KnownBytes.{Appends}

-- the bytes of the first file of this name
abbrev pub file_of : List (List ℕ × List ℕ) → List ℕ → Option (List ℕ)
file_of [] name = None
file_of (file ∷ files) name = if bytes_eq file.0 name then Some file.1 else file_of files name

-- how often a name stands in a list of names
abbrev pub times : List ℕ → List (List ℕ) → ℕ
times name names = count_by (λ other. bytes_eq other name) names

-- the file has these bytes, where the files are told
abbrev pub Holds : Option (List (List ℕ × List ℕ)) → List ℕ → List ℕ → Type 0
Holds None name bytes = ⊤
Holds (Some files) name bytes = file_of files name ≡ Some bytes

-- these are the first bytes of the file, at most so many, where the files are told
abbrev pub Gives : Option (List (List ℕ × List ℕ)) → List ℕ → ℕ → List ℕ → Type 0
Gives None name most bytes = ⊤
Gives (Some files) name most bytes =
    option_map (λ all. take most all) (file_of files name) ≡ Some bytes

-- known bytes grow by a prefix of the piece
abbrev pub AppendsStart : Option (List ℕ) → Option (List ℕ) → List ℕ → Type 0
AppendsStart old new piece = (k : ℕ) × Appends old new (take k piece)

-- a count of 64 bits after one more; it stays at its last value
abbrev pub next_count : ℕ → ℕ
next_count count = min (count + 1) (2 ^ 64 - 1)

-- the count has risen, or stood at its last value
abbrev pub Rose : ℕ → ℕ → Type 0
Rose before now = next_count before ≤ now
