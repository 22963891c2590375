-- What the shelf and the sink in memory hold.
use Rattle.std.specs.Prelude.{◌==◌, ◌≤◌, ◌+◌, ◌-◌, ◌^◌, ◌++◌, ℕ, List, [], ◌∷◌, length, take, min, Contains, nat_lt, None, Some, unwrap_or, if◌then◌else◌}
use Rattle.std.specs.declared.option.Option.{Option}
use Rattle.io_edge.specs.Edge.{next_count}

-- Files with their names, the newest first; the names whose load failed;
-- how many loads there were, and the numbers of those that are to fail.
pub record ShelfState : Type 0 where
  pub files : List (List ℕ × List ℕ)
  pub failed : List (List ℕ)
  pub loads : ℕ
  pub loads_to_fail : List ℕ

-- Bytes, and how many there may be; how many puts there were, and how many failed;
-- the numbers of the puts that are to fail, each with how many bytes of it are kept.
pub record SinkState : Type 0 where
  pub bytes : List ℕ
  pub room : ℕ
  pub puts : ℕ
  pub faults : ℕ
  pub puts_to_fail : List (ℕ × ℕ)

-- a shelf with no files
abbrev pub empty_shelf : ShelfState
empty_shelf = record { files = []; failed = []; loads = 0; loads_to_fail = [] }

-- the shelf once the load of this number is to fail; no load has a number of more than 64 bits
abbrev pub with_failing_load : ShelfState → ℕ → ShelfState
with_failing_load shelf number =
    if nat_lt number (2 ^ 64) then record shelf { loads_to_fail = shelf.loads_to_fail ++ number ∷ [] } else shelf

-- the next load is to fail
abbrev pub IsNextLoadListed : ShelfState → Type 0
IsNextLoadListed shelf = Contains shelf.loads_to_fail (next_count shelf.loads)

-- a sink with nothing written and this much room
abbrev pub empty_sink : ℕ → SinkState
empty_sink room = record { bytes = []; room = room; puts = 0; faults = 0; puts_to_fail = [] }

-- the sink once the put of this number is to fail and keep so many bytes;
-- no put has a number of more than 64 bits
abbrev pub with_failing_put : SinkState → ℕ → ℕ → SinkState
with_failing_put sink number kept =
    if nat_lt number (2 ^ 64)
    then record sink { puts_to_fail = sink.puts_to_fail ++ (number, kept) ∷ [] }
    else sink

-- how many bytes of the put of this number are kept, if it is listed
abbrev pub kept_by : List (ℕ × ℕ) → ℕ → Option ℕ
kept_by [] put = None
kept_by (stop ∷ stops) put = if stop.0 == put then Some stop.1 else kept_by stops put

-- how many bytes the next put keeps, if it is to fail
abbrev pub next_kept : SinkState → Option ℕ
next_kept sink = kept_by sink.puts_to_fail (next_count sink.puts)

-- there is room for the piece
abbrev pub Fits : SinkState → List ℕ → Type 0
Fits sink piece = length sink.bytes + length piece ≤ sink.room

-- what a failing put leaves in the sink: of the piece what fits, and no more than it keeps
abbrev pub bytes_after_failure : SinkState → List ℕ → List ℕ
bytes_after_failure sink piece =
    let kept = unwrap_or (next_kept sink) (length piece) in
    sink.bytes ++ take (min kept (sink.room - length sink.bytes)) piece
