-- The events of a schedule, where some that come many times in a row are kept once.
use Rattle.std.specs.Prelude.{ℕ, ◌-◌, List, [], ◌∷◌, ◌++◌, replicate}
use Rattle.ipc_ids.specs.declared.message.Event.{Event}
use Rattle.script_reader.specs.declared.repeated.Repeated.{Repeated}

-- all events, one by one
abbrev pub events_of : List Repeated → List Event
events_of [] = []
events_of (first ∷ later) = first.event ∷ (replicate first.more first.event ++ events_of later)

-- those that are left where the first event was taken so many times, but not to its end
abbrev pub events_left : ℕ → List Repeated → List Event
events_left taken [] = []
events_left taken (first ∷ later) = first.event ∷ (replicate (first.more - taken) first.event ++ events_of later)
