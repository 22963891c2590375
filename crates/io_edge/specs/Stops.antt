-- The puts that are to fail, as the contracts of the sink in memory see them.
use Rattle.std.specs.Prelude.{ℕ}
use Rattle.io_edge.specs.declared.beside.mem_sink.Stop.{Stop}

-- the number of a put, and how many bytes of it are kept
abbrev pub stop_pair : Stop → ℕ × ℕ
stop_pair stop = (stop.put, stop.kept)
