use Rattle.std.proofs.Common.{◌≡◌, drop, map}
use Rattle.io_edge.specs.Memory.{kept_by}
use Rattle.io_edge.specs.Stops.{stop_pair}
use Rattle.io_edge.proofs.beside.mem_sink.kept_of.Given as goal

-- none of the stops so far is for this put
abbrev pub invariant-loop-stop : goal.invariant-loop-stop
invariant-loop-stop l =
    kept_by (map stop_pair (drop l.stop-index l.stops)) l.put
    ≡ kept_by (map stop_pair l.stops) l.put
