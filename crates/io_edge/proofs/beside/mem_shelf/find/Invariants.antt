use Rattle.std.proofs.Common.{◌≡◌, drop}
use Rattle.io_edge.specs.Edge.{file_of}
use Rattle.io_edge.specs.Stored.{all_named}
use Rattle.io_edge.proofs.beside.mem_shelf.find.Given as goal

-- none of the files so far has the name
abbrev pub invariant-loop-file : goal.invariant-loop-file
invariant-loop-file l =
    file_of (all_named (drop l.file-index l.files)) l.name ≡ file_of (all_named l.files) l.name
