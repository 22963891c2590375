-- Which moves a search has, by the tasks that there are and the lists of kills, hangups and spawns.
use Rattle.std.specs.Prelude.{ℕ, ◌+◌, List, [], ◌∷◌, ◌++◌, length, Bool, false, not, ◌&&◌, ◌==◌, nat_le, nat_lt, map, filter, take, drop, Option, Some, None, Result, Ok, Err, if◌then◌else◌}
use Rattle.std.specs.List.{list_any, range_with_len, slice_split, position_or_len, sum_by}
use Rattle.std.specs.Option.{ok_or}
use Rattle.ipc_ids.specs.Tables.{most_tasks}
use Rattle.ipc_ids.specs.declared.message.Event.{Event}
use Rattle.ipc_ids.specs.declared.message.Event.TheVariants.{Step, Kill, Hangup, Spawn}
use Rattle.script_lines.specs.declared.fault.Reason.{Reason}
use Rattle.script_lines.specs.declared.fault.Reason.TheVariants.{BadWord, UnknownName, NameTaken, TooMany}
use Rattle.script_lines.specs.Names.{task_named, place_of}
use Rattle.script_lines.specs.Operation.{◌>>=◌}
use Rattle.script_lines.specs.Word.{number}
use Rattle.script_reader.specs.Reading.{lines_from}
use Rattle.schedule_search.specs.declared.problem.MostMade.{MostMade}
use Rattle.hipc_search.specs.declared.moves.Listed.{Listed}
use Rattle.hipc_search.specs.declared.moves.Listed.TheVariants.{Kills, Hangups}

-- ---- the events of a list

-- NAME: a kill of that task
unfoldable pub kill_in : (names : List (List ℕ)) → List ℕ → Result Event Reason
kill_in names word = ok_or (task_named names word) UnknownName >>= λ task. Ok (Kill task)

-- where a . stands; the length where none does
abbrev pub dot_place : List ℕ → ℕ
dot_place word = position_or_len (λ b. b == 46) word

-- the number behind a . at the front
abbrev pub phone_in : List ℕ → Option ℕ
phone_in [] = None
phone_in (b ∷ digits) = if b == 46 then number digits else None

-- NAME.NUMBER: a hangup of that phone of that task
unfoldable pub hangup_in : (names : List (List ℕ)) → List ℕ → Result Event Reason
hangup_in names word =
    ok_or (phone_in (drop (dot_place word) word)) BadWord >>= λ phone.
    (ok_or (task_named names (take (dot_place word) word)) UnknownName >>= λ task. Ok (Hangup task phone))

abbrev pub event_in : Listed → (names : List (List ℕ)) → List ℕ → Result Event Reason
event_in Kills names word = kill_in names word
event_in Hangups names word = hangup_in names word

-- words of one list
abbrev pub most_listed : ℕ
most_listed = 4096

-- one event more, where there is room
unfoldable pub with_listed : Listed → (names : List (List ℕ)) → List Event → List ℕ → Result (List Event) Reason
with_listed kind names so_far word =
    if nat_le most_listed (length so_far) then Err TooMany
    else (event_in kind names word >>= λ event. Ok (so_far ++ event ∷ []))

abbrev pub is_comma : ℕ → Bool
is_comma b = b == 44

-- what stands between commas
abbrev pub words_of : List ℕ → List (List ℕ)
words_of text = slice_split is_comma text

-- the same of what is left, if something is
abbrev pub words_left : Option (List ℕ) → List (List ℕ)
words_left None = []
words_left (Some text) = words_of text

-- the events of the words between commas, or the first fault with the number of its word
abbrev pub listed_of : Listed → (names : List (List ℕ)) → List ℕ → Result (List Event) (ℕ × Reason)
listed_of kind names text = lines_from (with_listed kind names) 1 [] (words_of text)

-- the same of a list that may be missing
abbrev pub listed_in : Listed → (names : List (List ℕ)) → Option (List ℕ) → Result (List Event) (ℕ × Reason)
listed_in kind names None = Ok []
listed_in kind names (Some text) = listed_of kind names text

-- ---- the templates of which tasks may be made

-- where a : stands; the length where none does
abbrev pub colon_place : List ℕ → ℕ
colon_place word = position_or_len (λ b. b == 58) word

-- a number from 1 to 64
abbrev pub some_tasks : Option ℕ → Option ℕ
some_tasks None = None
some_tasks (Some n) = if nat_le 1 n && nat_le n most_tasks then Some n else None

-- the number behind a : at the front
abbrev pub count_in : List ℕ → Option ℕ
count_in [] = None
count_in (b ∷ digits) = if b == 58 then some_tasks (number digits) else None

-- TEMPLATE:N, how many tasks of a template may be made
unfoldable pub bound_in : (templates : List (List ℕ)) → List ℕ → Result MostMade Reason
bound_in templates word =
    ok_or (count_in (drop (colon_place word) word)) BadWord >>= λ most.
    (ok_or (place_of templates (take (colon_place word) word)) UnknownName >>= λ place.
    Ok (record { place = place; most = most }))

-- one of these is for that template
abbrev pub is_bound : List MostMade → ℕ → Bool
is_bound bounds place = list_any (λ bound. bound.place == place) bounds

-- a template that none so far is for
abbrev pub new_bound : List MostMade → MostMade → Result (List MostMade) Reason
new_bound so_far bound = if is_bound so_far bound.place then Err NameTaken else Ok (so_far ++ bound ∷ [])

-- one template more, where there is room
unfoldable pub with_bound : (templates : List (List ℕ)) → List MostMade → List ℕ → Result (List MostMade) Reason
with_bound templates so_far word =
    if nat_le most_tasks (length so_far) then Err TooMany else (bound_in templates word >>= new_bound so_far)

-- what the words between commas say, or the first fault with the number of its word
abbrev pub bounds_of : (templates : List (List ℕ)) → List ℕ → Result (List MostMade) (ℕ × Reason)
bounds_of templates text = lines_from (with_bound templates) 1 [] (words_of text)

-- the same of a list that may be missing
abbrev pub bounds_in : (templates : List (List ℕ)) → Option (List ℕ) → Result (List MostMade) (ℕ × Reason)
bounds_in templates None = Ok []
bounds_in templates (Some text) = bounds_of templates text

-- ---- the moves

-- the event is a kill of the task of this number
abbrev pub kills_task : ℕ → Event → Bool
kills_task t (Step task) = false
kills_task t (Kill task) = task.0 == t
kills_task t (Hangup task phone) = false
kills_task t (Spawn place) = false

-- one of these events kills the task
abbrev pub is_killed : List Event → ℕ → Bool
is_killed events t = list_any (kills_task t) events

-- neither the first events nor those behind them kill the task
abbrev pub is_living : (first later : List Event) → ℕ → Bool
is_living first later t = not (is_killed first t) && not (is_killed later t)

abbrev pub step_by : ℕ → Event
step_by t = Step (record { 0 = t })

abbrev pub kill_of : ℕ → Event
kill_of t = Kill (record { 0 = t })

-- an event for each task that is chosen, of so many tasks
abbrev pub for_chosen : (ℕ → Event) → (ℕ → Bool) → ℕ → List Event
for_chosen event chosen tasks = map event (filter chosen (range_with_len 1 tasks))

-- a step of each task that no event kills
abbrev pub living_steps : (first later : List Event) → ℕ → List Event
living_steps first later tasks = for_chosen step_by (is_living first later) tasks

-- how many tasks may be made in all
abbrev pub all_made : List MostMade → ℕ
all_made bounds = sum_by (λ bound. bound.most) bounds

-- how many tasks there may ever be, where there are so many at first
abbrev pub most_ever : ℕ → List MostMade → ℕ
most_ever tasks bounds =
    if nat_lt most_tasks (tasks + all_made bounds) then most_tasks else tasks + all_made bounds

abbrev pub spawns_in : List MostMade → List Event
spawns_in bounds = map (λ bound. Spawn bound.place) bounds

-- a step of each task that there is or may be, a kill of each that is listed, both in the order of the tasks, and the
-- hangups and the spawns in the order of their lists
abbrev pub moves_of : ℕ → (killed hangups : List Event) → List MostMade → List Event
moves_of tasks killed hangups bounds =
    living_steps [] [] (most_ever tasks bounds) ++ for_chosen kill_of (is_killed killed) tasks
    ++ hangups ++ spawns_in bounds
