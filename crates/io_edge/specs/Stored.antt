-- The files of the shelf in memory, as its contracts see them.
use Rattle.std.specs.Prelude.{ℕ, List, map, string_bytes}
use Rattle.io_edge.specs.declared.beside.mem_shelf.StoredFile.{StoredFile}

-- a name and its bytes
abbrev pub named : StoredFile → List ℕ × List ℕ
named file = (string_bytes file.name, file.bytes.items)

abbrev pub all_named : List StoredFile → List (List ℕ × List ℕ)
all_named files = map named files
