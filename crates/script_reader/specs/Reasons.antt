-- The reasons why a line is at fault: each is a test of the line after what the lines before it made, and the
-- fault is the first reason, in the order of the table, whose test holds.
use Rattle.std.specs.Prelude.{ℕ, ◌+◌, List, [], ◌∷◌, ◌++◌, length, map, replicate, Bool, true, false, not, ◌||◌, ◌&&◌, ◌==◌, nat_le, nat_lt, Option, Some, None, is_some, codes}
use Rattle.std.specs.List.{list_all}
use Rattle.std.specs.Option.{option_map_or, option_and_then}
use Rattle.std.specs.Str.{bytes_eq}
use Rattle.ipc_ids.specs.Tables.{most_tasks, most_phones, most_operations, most_events}
use Rattle.ipc_ids.specs.declared.op.Body.{Body}
use Rattle.ipc_ids.specs.declared.message.Event.{Event}
use Rattle.script_lines.specs.declared.fault.Reason.TheVariants.{BadByte, UnknownOperation, OutOfPlace, WrongCount, BadWord, UnknownName, NameTaken, BadPhone, TooMany, TooManyEvents}
use Rattle.script_lines.specs.declared.plan.Kind.{Kind}
use Rattle.script_lines.specs.declared.plan.Kind.TheVariants.{Naming, Raw, Async, Block}
use Rattle.script_lines.specs.declared.plan.TaskPlan.{TaskPlan}
use Rattle.script_lines.specs.declared.word.Verb.{Verb}
use Rattle.script_lines.specs.declared.word.Verb.TheVariants.{Ns, Task, Template, Fibril, Connection, Wire, Op}
use Rattle.script_lines.specs.declared.word.OpVerb.{OpVerb}
use Rattle.script_lines.specs.declared.word.OpVerb.TheVariants as verbs
use Rattle.script_reader.specs.declared.schedule.EventVerb.{EventVerb}
use Rattle.script_reader.specs.declared.schedule.EventVerb.TheVariants.{Step, Kill, Hangup, Spawn}
use Rattle.script_reader.specs.Rows.{Row}
use Rattle.script_lines.specs.Text.{is_allowed, words}
use Rattle.script_lines.specs.Word.{number, number_below, value, register, bytes_of, is_name, mode_of, exchange_mode_of, verb_of}
use Rattle.script_lines.specs.Names.{task_names, place_of, is_ns}
use Rattle.script_lines.specs.Plan.{Plan}
use Rattle.script_lines.specs.ScriptParts.{ScriptParts, script_of_parts, part}
use Rattle.script_lines.specs.Sound.{most_fibrils, most_blocks, fibrils, connections}
use Rattle.script_lines.specs.Draft.{limit_at, is_wired, leads_to_service, last_of, stands_first, present, takes_bodies}
use Rattle.script_reader.specs.Schedule.{event_verb_of}
use Rattle.script_reader.specs.EventLine.{EventsAndNames, is_taken}

-- ---- kinds of words

abbrev pub NAME : List ℕ → Bool
NAME word = is_name word

abbrev pub N : List ℕ → Bool
N word = is_some (number word)

abbrev pub R : List ℕ → Bool
R word = is_some (register word)

-- a number, a register, or a word that stands for a number
abbrev pub V : List ℕ → Bool
V word = is_some (value word)

-- 1 to 64 bytes
abbrev pub HEX : List ℕ → Bool
HEX word = is_some (bytes_of word)

-- a place of a body
abbrev pub K : List ℕ → Bool
K word = is_some (number_below 65536 word)

abbrev pub SLOT : List ℕ → Bool
SLOT word = is_some (number_below 8 word)

abbrev pub HANDLE : List ℕ → Bool
HANDLE word = is_some (number_below 8 word)

abbrev pub SESSION : List ℕ → Bool
SESSION word = is_some (number_below 16 word)

-- how a call is forwarded
abbrev pub MODE : List ℕ → Bool
MODE word = is_some (mode_of word)

-- how a session gives its phone to exchanges
abbrev pub EXCHANGE_MODE : List ℕ → Bool
EXCHANGE_MODE word = is_some (exchange_mode_of word)

-- a number from 1 up to a limit
abbrev pub UP_TO : ℕ → List ℕ → Bool
UP_TO limit word = option_map_or (λ n. nat_le 1 n && nat_le n limit) (number word) false

-- just this word
abbrev pub THE : List ℕ → List ℕ → Bool
THE wanted word = bytes_eq wanted word

-- ---- forms of lines

-- the kind of each word behind the first
abbrev pub Form : Type 0
Form = List (List ℕ → Bool)

-- a form with none to five values behind it
abbrev pub up_to_five : Form → List Form
up_to_five form = map (λ count. form ++ replicate count V) (0 ∷ 1 ∷ 2 ∷ 3 ∷ 4 ∷ 5 ∷ [])

-- the operations that raw and async tasks share
abbrev pub shared_forms : OpVerb → List Form
shared_forms verbs.Answer = up_to_five (V ∷ V ∷ [])
shared_forms verbs.Forward = (V ∷ V ∷ MODE ∷ []) ∷ up_to_five (V ∷ V ∷ MODE ∷ V ∷ [])
shared_forms verbs.Area = (V ∷ V ∷ V ∷ []) ∷ []
shared_forms verbs.Unarea = (V ∷ []) ∷ []
shared_forms verbs.Poke = (V ∷ HEX ∷ []) ∷ []
shared_forms verbs.Peek = (V ∷ V ∷ []) ∷ []
shared_forms verbs.Set = (R ∷ V ∷ []) ∷ []
shared_forms verbs.Jump = (K ∷ []) ∷ []
shared_forms verbs.JumpEqual = (V ∷ V ∷ K ∷ []) ∷ []
shared_forms verbs.JumpDiffer = (V ∷ V ∷ K ∷ []) ∷ []
shared_forms _ = []

-- the operations of raw tasks
abbrev pub raw_forms : OpVerb → List Form
raw_forms verbs.Call = up_to_five (V ∷ V ∷ [])
raw_forms verbs.Receive = [] ∷ []
raw_forms verbs.Hangup = (V ∷ []) ∷ []
raw_forms verb = shared_forms verb

-- the operations of async tasks
abbrev pub async_forms : OpVerb → List Form
async_forms verbs.Call = up_to_five (SLOT ∷ V ∷ V ∷ [])
async_forms verbs.Send = up_to_five (SLOT ∷ HANDLE ∷ V ∷ [])
async_forms verbs.Wait = (SLOT ∷ []) ∷ []
async_forms verbs.Next = [] ∷ []
async_forms verbs.Yield = [] ∷ []
async_forms verbs.Open = (SESSION ∷ V ∷ EXCHANGE_MODE ∷ []) ∷ []
async_forms verbs.Begin = (HANDLE ∷ SESSION ∷ []) ∷ []
async_forms verbs.End = (HANDLE ∷ []) ∷ []
async_forms verbs.Close = (SESSION ∷ []) ∷ []
async_forms verb = shared_forms verb

-- an operation, where the last body is that of such a task; there is no form where it takes none
abbrev pub op_forms : Option Kind → OpVerb → List Form
op_forms None verb = []
op_forms (Some Naming) verb = []
op_forms (Some Raw) verb = raw_forms verb
op_forms (Some Async) verb = async_forms verb
op_forms (Some Block) verb = []

-- a line of one word, where this is its place
abbrev pub alone_where : Bool → List Form
alone_where false = []
alone_where true = [] ∷ []

-- a task or template of this kind, and maybe its number of phones
abbrev pub task_forms : List ℕ → List Form
task_forms kind = (NAME ∷ THE kind ∷ []) ∷ (NAME ∷ THE kind ∷ UP_TO most_phones ∷ []) ∷ []

-- a block server: its number of blocks, and maybe that of its service
abbrev pub block_forms : List Form
block_forms =
    (NAME ∷ THE (codes "block") ∷ UP_TO most_blocks ∷ [])
    ∷ (NAME ∷ THE (codes "block") ∷ UP_TO most_blocks ∷ N ∷ []) ∷ []

-- the forms of a first word after a script of the lines before; there is none where the line is out of place
abbrev pub forms : Plan → Verb → List Form
forms plan Ns = alone_where (stands_first plan)
forms plan Task = task_forms (codes "raw") ++ task_forms (codes "async") ++ block_forms
forms plan Template = task_forms (codes "raw") ++ task_forms (codes "async")
forms plan Fibril = alone_where (takes_bodies plan)
forms plan Connection = alone_where (takes_bodies plan)
forms plan Wire = (NAME ∷ N ∷ NAME ∷ []) ∷ []
forms plan (Op verb) = op_forms (present plan) verb

-- the forms of a first word in a schedule
abbrev pub event_forms : EventVerb → List Form
event_forms Step = (NAME ∷ []) ∷ (NAME ∷ THE (codes "x") ∷ UP_TO most_events ∷ []) ∷ []
event_forms Kill = (NAME ∷ []) ∷ []
event_forms Hangup = (NAME ∷ N ∷ []) ∷ []
event_forms Spawn = (NAME ∷ NAME ∷ []) ∷ []

-- each word is of its kind, and there are as many as kinds
abbrev pub fits : Form → List (List ℕ) → Bool
fits [] [] = true
fits [] (_ ∷ _) = false
fits (_ ∷ _) [] = false
fits (kind ∷ kinds) (word ∷ words) = kind word && fits kinds words

-- ---- tests of a line

-- a test of a first word and the words behind it; it does not hold where there is no such first word
abbrev pub on_line : {A : Type 0} → (List ℕ → Option A) → (A → List (List ℕ) → Bool) → List (List ℕ) → Bool
on_line known test [] = false
on_line known test (first ∷ others) = option_map_or (λ verb. test verb others) (known first) false

abbrev pub has_bad_byte : List ℕ → Bool
has_bad_byte line = not (list_all is_allowed line)

-- there are words, and the first is no first word of a line
abbrev pub is_unknown_operation : {A : Type 0} → (List ℕ → Option A) → List (List ℕ) → Bool
is_unknown_operation known [] = false
is_unknown_operation known (first ∷ others) = not (is_some (known first))

-- the task or body at hand takes no such line
abbrev pub is_out_of_place : List Form → Bool
is_out_of_place [] = true
is_out_of_place (_ ∷ _) = false

-- no form has so many words
abbrev pub has_wrong_count : List Form → List (List ℕ) → Bool
has_wrong_count forms words = list_all (λ form. not (length form == length words)) forms

-- in each form with so many words, some word is not of its kind
abbrev pub has_bad_word : List Form → List (List ℕ) → Bool
has_bad_word forms words = list_all (λ form. not (length form == length words && fits form words)) forms

-- an earlier line made a task of this name
abbrev pub is_known : Plan → List ℕ → Bool
is_known plan name = is_some (place_of (task_names plan.tasks) name)

-- a wire names a task that no earlier line made
abbrev pub names_unknown : Plan → Verb → List (List ℕ) → Bool
names_unknown plan Wire (from ∷ phone ∷ to ∷ []) = not (is_known plan from) || not (is_known plan to)
names_unknown plan _ _ = false

-- a task line repeats a name, or names `ns`
abbrev pub name_is_taken : Plan → Verb → List (List ℕ) → Bool
name_is_taken plan Task (name ∷ others) = is_ns name || is_known plan name
name_is_taken plan Template (name ∷ others) = is_ns name || is_known plan name
name_is_taken plan _ _ = false

-- a phone of the task at a place is out of its range, or leads somewhere, be it to the naming service
abbrev pub cannot_lead_from : Plan → ℕ → ℕ → Bool
cannot_lead_from plan phone place =
    nat_le (limit_at plan.tasks place) phone || is_wired plan.wires (place + 1) phone
    || leads_to_service plan.tasks place phone

-- likewise, of the task of a name
abbrev pub cannot_lead : Plan → List ℕ → ℕ → Bool
cannot_lead plan name phone =
    option_map_or (cannot_lead_from plan phone) (place_of (task_names plan.tasks) name) false

-- the phone of a wire
abbrev pub phone_is_bad : Plan → Verb → List (List ℕ) → Bool
phone_is_bad plan Wire (from ∷ phone ∷ to ∷ []) = option_map_or (cannot_lead plan from) (number phone) false
phone_is_bad plan _ _ = false

-- something holds of the last task
abbrev pub of_last_task : Plan → (TaskPlan → Bool) → Bool
of_last_task plan test = option_map_or test (last_of plan.tasks) false

-- the body to which an operation goes
abbrev pub present_body : Plan → Option Body
present_body plan = option_and_then (λ task. last_of task.bodies) (last_of plan.tasks)

-- a 65th task or template, a 17th fibril or a second body of connections of a task, or a 4,097th operation of a body
abbrev pub is_too_many : Plan → Verb → List (List ℕ) → Bool
is_too_many plan Ns words = false
is_too_many plan Task words = nat_le most_tasks (length plan.tasks)
is_too_many plan Template words = nat_le most_tasks (length plan.tasks)
is_too_many plan Fibril words = of_last_task plan (λ task. nat_le most_fibrils (fibrils task.bodies))
is_too_many plan Connection words = of_last_task plan (λ task. nat_le 1 (connections task.bodies))
is_too_many plan Wire words = false
is_too_many plan (Op verb) words =
    option_map_or (λ body. nat_le most_operations (length body.ops)) (present_body plan) false

-- the part that a line of this first word is about; `ns` is about all of the script so far
abbrev pub subject : ScriptParts → Verb → Plan
subject w Ns = script_of_parts w
subject w Task = w.tasks
subject w Template = w.templates
subject w Fibril = part w
subject w Connection = part w
subject w Wire = w.tasks
subject w (Op verb) = part w

-- the first of these words is one of the names
abbrev pub is_among : List (List ℕ) → List (List ℕ) → Bool
is_among names [] = false
is_among names (name ∷ others) = is_some (place_of names name)

-- the name is that of a template, or that of a template is a task's
abbrev pub is_taken_beside : ScriptParts → Verb → List (List ℕ) → Bool
is_taken_beside w Ns words = false
is_taken_beside w Task words = is_among (task_names w.templates.tasks) words
is_taken_beside w Template words = is_among (task_names w.tasks.tasks) words
is_taken_beside w Fibril words = false
is_taken_beside w Connection words = false
is_taken_beside w Wire words = false
is_taken_beside w (Op verb) words = false

-- the table for a line of a script, after a script of the lines before it
abbrev pub line_reasons : ScriptParts → List ℕ → List Row
line_reasons w line =
    (BadByte, has_bad_byte line)
    ∷ (UnknownOperation, is_unknown_operation verb_of (words line))
    ∷ (OutOfPlace, on_line verb_of (λ verb others. is_out_of_place (forms (subject w verb) verb)) (words line))
    ∷ (WrongCount, on_line verb_of (λ verb others. has_wrong_count (forms (subject w verb) verb) others) (words line))
    ∷ (BadWord, on_line verb_of (λ verb others. has_bad_word (forms (subject w verb) verb) others) (words line))
    ∷ (UnknownName, on_line verb_of (λ verb others. names_unknown (subject w verb) verb others) (words line))
    ∷ (NameTaken, on_line verb_of (λ verb others. is_taken_beside w verb others || name_is_taken (subject w verb) verb others) (words line))
    ∷ (BadPhone, on_line verb_of (λ verb others. phone_is_bad (subject w verb) verb others) (words line))
    ∷ (TooMany, on_line verb_of (λ verb others. is_too_many (subject w verb) verb others) (words line))
    ∷ []

-- ---- tests of a schedule's line

-- no task so far has the name behind the first word; behind `spawn`, no template
abbrev pub event_names_unknown : (templates names : List (List ℕ)) → EventVerb → List (List ℕ) → Bool
event_names_unknown templates names verb [] = false
event_names_unknown templates names Step (name ∷ others) = not (is_some (place_of names name))
event_names_unknown templates names Kill (name ∷ others) = not (is_some (place_of names name))
event_names_unknown templates names Hangup (name ∷ others) = not (is_some (place_of names name))
event_names_unknown templates names Spawn (name ∷ others) = not (is_some (place_of templates name))

-- the name of the new task is that of a task so far or of a template, or is `ns`
abbrev pub event_name_is_taken : (templates names : List (List ℕ)) → EventVerb → List (List ℕ) → Bool
event_name_is_taken templates names Spawn (template ∷ name ∷ []) = is_taken templates names name
event_name_is_taken templates names _ _ = false

-- a 65th task
abbrev pub are_too_many_tasks : List (List ℕ) → EventVerb → List (List ℕ) → Bool
are_too_many_tasks names Spawn words = nat_le most_tasks (length names)
are_too_many_tasks names _ words = false

-- with so many events more there are more than 65,536
abbrev pub passes_limit : List Event → ℕ → Bool
passes_limit before count = nat_lt most_events (length before + count)

-- `step NAME x N` is N events, and each other line one
abbrev pub are_too_many_events : List Event → EventVerb → List (List ℕ) → Bool
are_too_many_events before Step (name ∷ times ∷ count ∷ []) = option_map_or (passes_limit before) (number count) false
are_too_many_events before _ _ = passes_limit before 1

-- the table for a line of a schedule, for the names of the script and after what the lines before it say
abbrev pub event_reasons : Plan → EventsAndNames → List ℕ → List Row
event_reasons script before line =
    (BadByte, has_bad_byte line)
    ∷ (UnknownOperation, is_unknown_operation event_verb_of (words line))
    ∷ (WrongCount, on_line event_verb_of (λ verb others. has_wrong_count (event_forms verb) others) (words line))
    ∷ (BadWord, on_line event_verb_of (λ verb others. has_bad_word (event_forms verb) others) (words line))
    ∷ (UnknownName, on_line event_verb_of (event_names_unknown (task_names script.templates) before.names) (words line))
    ∷ (NameTaken, on_line event_verb_of (event_name_is_taken (task_names script.templates) before.names) (words line))
    ∷ (TooMany, on_line event_verb_of (are_too_many_tasks before.names) (words line))
    ∷ (TooManyEvents, on_line event_verb_of (are_too_many_events before.events) (words line))
    ∷ []
