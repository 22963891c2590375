-- What one line says after a script: the script with the line's part, or the reason why it is at fault.
use Rattle.std.specs.Prelude.{ℕ, Bool, true, false, List, [], ◌∷◌, ◌&&◌, nat_le, Option, Some, None, Result, Ok, Err, if◌then◌else◌, codes}
use Rattle.std.specs.List.{list_all}
use Rattle.std.specs.Option.{option_and_then}
use Rattle.ipc_ids.specs.Tables.{named_in, most_phones}
use Rattle.script_lines.specs.declared.fault.Reason.{Reason}
use Rattle.script_lines.specs.declared.fault.Reason.TheVariants.{BadByte, UnknownOperation, OutOfPlace, WrongCount}
use Rattle.script_lines.specs.declared.word.Verb.{Verb}
use Rattle.script_lines.specs.declared.word.Verb.TheVariants.{Ns, Task, Template, Fibril, Connection, Wire, Op}
use Rattle.script_lines.specs.declared.word.OpVerb.{OpVerb}
use Rattle.script_lines.specs.declared.plan.Kind.{Kind}
use Rattle.script_lines.specs.declared.plan.Kind.TheVariants.{Naming, Raw, Async, Block}
use Rattle.script_lines.specs.declared.draft.TaskHead.{TaskHead}
use Rattle.script_lines.specs.Text.{is_allowed, words}
use Rattle.script_lines.specs.Word.{verb_of, number, name_of}
use Rattle.script_lines.specs.Operation.{◌>>=◌, needed, op_in}
use Rattle.script_lines.specs.Plan.{Plan}
use Rattle.script_lines.specs.Sound.{most_blocks}
use Rattle.script_lines.specs.Names.{task_names}
use Rattle.script_lines.specs.ScriptParts.{ScriptParts, script_of_parts, with_tasks, with_templates, with_wires, part, with_part}
use Rattle.script_lines.specs.Draft.{with_service, with_new, with_body, with_wire, with_op, stands_first, present, takes_bodies}

-- the kinds whose lines may go without a number, may have one, and may have two
abbrev pub kinds : List (List ℕ × Kind)
kinds = (codes "raw", Raw) ∷ (codes "async", Async) ∷ []

abbrev pub counted_kinds : List (List ℕ × Kind)
counted_kinds = (codes "raw", Raw) ∷ (codes "async", Async) ∷ (codes "block", Block) ∷ []

abbrev pub service_kinds : List (List ℕ × Kind)
service_kinds = (codes "block", Block) ∷ []

unfoldable pub kind_of : List ℕ → Option Kind
kind_of word = named_in kinds word

unfoldable pub counted_kind_of : List ℕ → Option Kind
counted_kind_of word = named_in counted_kinds word

unfoldable pub service_kind_of : List ℕ → Option Kind
service_kind_of word = named_in service_kinds word

-- a number from 1 up to a limit
unfoldable pub number_up_to : ℕ → List ℕ → Option ℕ
number_up_to most word =
    option_and_then (λ n. if nat_le 1 n && nat_le n most then Some n else None) (number word)

-- how great the number behind a kind may be: the blocks of a block server, or the phones of another task
abbrev pub most_behind : Kind → ℕ
most_behind Naming = most_phones
most_behind Raw = most_phones
most_behind Async = most_phones
most_behind Block = most_blocks

-- what a line says that has this number behind the kind: a block server has as many blocks, and all
-- phones; a task of another kind has as many phones
abbrev pub head : List ℕ → Kind → ℕ → Option ℕ → TaskHead
head name Block count service =
    record { name = name; kind = Block; limit = most_phones; blocks = count; service = service }
head name kind count service =
    record { name = name; kind = kind; limit = count; blocks = 0; service = None }

-- NAME raw or NAME async
unfoldable pub plain_task : List ℕ → List ℕ → Result TaskHead Reason
plain_task name kind = do
  name ← needed (name_of name)
  kind ← needed (kind_of kind)
  Ok (head name kind most_phones None)

-- NAME, a kind that is looked up, and N
unfoldable pub counted_task : List ℕ → Option Kind → List ℕ → Result TaskHead Reason
counted_task name found count = do
  name ← needed (name_of name)
  kind ← needed found
  count ← needed (number_up_to (most_behind kind) count)
  Ok (head name kind count None)

-- NAME block N N
unfoldable pub service_task : List ℕ → List ℕ → List ℕ → List ℕ → Result TaskHead Reason
service_task name kind count service = do
  name ← needed (name_of name)
  kind ← needed (service_kind_of kind)
  count ← needed (number_up_to (most_behind kind) count)
  service ← needed (number service)
  Ok (head name kind count (Some service))

-- the words behind `task`
unfoldable pub task_of : List (List ℕ) → Result TaskHead Reason
task_of (name ∷ kind ∷ []) = plain_task name kind
task_of (name ∷ kind ∷ count ∷ []) = counted_task name (counted_kind_of kind) count
task_of (name ∷ kind ∷ count ∷ service ∷ []) = service_task name kind count service
task_of _ = Err WrongCount

-- the words behind `template`: a raw or an async one, alone or with a number
unfoldable pub template_of : List (List ℕ) → Result TaskHead Reason
template_of (name ∷ kind ∷ []) = plain_task name kind
template_of (name ∷ kind ∷ count ∷ []) = counted_task name (kind_of kind) count
template_of _ = Err WrongCount

-- NAME N NAME
unfoldable pub wire_of : List (List ℕ) → Result (List ℕ × ℕ × List ℕ) Reason
wire_of (from ∷ phone ∷ to ∷ []) = do
  from ← needed (name_of from)
  phone ← needed (number phone)
  to ← needed (name_of to)
  Ok (from, phone, to)
wire_of _ = Err WrongCount

-- a line without further words, where it stands in its place
abbrev pub alone_at : Bool → List (List ℕ) → Result Plan Reason → Result Plan Reason
alone_at false words made = Err OutOfPlace
alone_at true [] made = made
alone_at true (_ ∷ _) made = Err WrongCount

-- only as the first line that has words; none behind it
unfoldable pub ns : ScriptParts → List (List ℕ) → Result Plan Reason
ns w words = alone_at (stands_first (script_of_parts w)) words (Ok (with_service w.tasks))

-- a task, whose name is none of the templates'
unfoldable pub task : List (List ℕ) → Plan → List (List ℕ) → Result Plan Reason
task others plan words = task_of words >>= with_new others plan

-- a template, whose name is none of the tasks'
unfoldable pub template : List (List ℕ) → Plan → List (List ℕ) → Result Plan Reason
template others plan words = template_of words >>= with_new others plan

-- a body of connections or of a fibril, only in an async task; no words
unfoldable pub body : Plan → Bool → List (List ℕ) → Result Plan Reason
body plan connection words = alone_at (takes_bodies plan) words (with_body plan connection)

unfoldable pub wire : Plan → List (List ℕ) → Result Plan Reason
wire plan words = wire_of words >>= λ (from, phone, to). with_wire plan from phone to

unfoldable pub operation : Plan → OpVerb → List (List ℕ) → Result Plan Reason
operation plan verb words = op_in (present plan) verb words >>= with_op plan

-- a body, or an operation, of the last task or template
abbrev pub body_of_last : ScriptParts → Bool → List (List ℕ) → Result ScriptParts Reason
body_of_last w connection words = body (part w) connection words >>= λ plan. Ok (with_part w plan)

abbrev pub operation_of_last : ScriptParts → OpVerb → List (List ℕ) → Result ScriptParts Reason
operation_of_last w verb words = operation (part w) verb words >>= λ plan. Ok (with_part w plan)

abbrev pub after_verb : ScriptParts → Option Verb → List (List ℕ) → Result ScriptParts Reason
after_verb w None words = Err UnknownOperation
after_verb w (Some Ns) words = ns w words >>= λ plan. Ok (with_tasks w plan)
after_verb w (Some Task) words =
    task (task_names w.templates.tasks) w.tasks words >>= λ plan. Ok (with_tasks w plan)
after_verb w (Some Template) words =
    template (task_names w.tasks.tasks) w.templates words >>= λ plan. Ok (with_templates w plan)
after_verb w (Some Fibril) words = body_of_last w false words
after_verb w (Some Connection) words = body_of_last w true words
after_verb w (Some Wire) words = wire w.tasks words >>= λ plan. Ok (with_wires w plan)
after_verb w (Some (Op verb)) words = operation_of_last w verb words

-- a line without words is passed over
abbrev pub after_words : ScriptParts → List (List ℕ) → Result ScriptParts Reason
after_words w [] = Ok w
after_words w (first ∷ others) = after_verb w (verb_of first) others

unfoldable pub after_line : ScriptParts → List ℕ → Result ScriptParts Reason
after_line w line = if list_all is_allowed line then after_words w (words line) else Err BadByte
