-- Which task a line of a schedule makes, by its words.
use Rattle.std.specs.Prelude.{ℕ, Bool, true, false, List, [], ◌∷◌, Option, None, Some, if◌then◌else◌}
use Rattle.script_reader.specs.declared.schedule.EventVerb.{EventVerb}
use Rattle.script_reader.specs.declared.schedule.EventVerb.TheVariants.{Step, Kill, Hangup, Spawn}
use Rattle.script_reader.specs.Schedule.{event_verb_of}

-- a line with such a first word makes one
abbrev pub is_spawn : Option EventVerb → Bool
is_spawn None = false
is_spawn (Some Step) = false
is_spawn (Some Kill) = false
is_spawn (Some Hangup) = false
is_spawn (Some Spawn) = true

-- its name, behind that of a template; none where a line of these words makes no task
abbrev pub made_by : List (List ℕ) → Option (List ℕ)
made_by (verb ∷ template ∷ name ∷ []) = if is_spawn (event_verb_of verb) then Some name else None
made_by _ = None
