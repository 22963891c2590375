-- The goal that a text says, or its first fault.
use Rattle.std.specs.Prelude.{◌≡◌, ℕ, ◌-◌, ◌&&◌, ◌==◌, ⊤, List, [], ◌∷◌, ◌++◌, length, take, drop, codes, nat_eq, nat_lt, Option, Some, None, Result, Ok, Err, if◌then◌else◌, slice_index}
use Rattle.std.specs.List.{list_all, starts_with}
use Rattle.std.specs.Option.{ok_or}
use Rattle.std.specs.Str.{bytes_eq}
use Rattle.ipc_ids.specs.Tables.{most_bytes}
use Rattle.ipc_ids.specs.declared.numbers.TaskNo.{TaskNo}
use Rattle.script_lines.specs.declared.fault.Reason.{Reason}
use Rattle.script_lines.specs.declared.fault.Reason.TheVariants.{TooLong, BadByte, UnknownOperation, WrongCount, BadWord, UnknownName}
use Rattle.script_lines.specs.declared.plan.TaskPlan.{TaskPlan}
use Rattle.script_lines.specs.Names.{task_named}
use Rattle.script_lines.specs.Operation.{◌>>=◌}
use Rattle.script_lines.specs.Text.{is_allowed}
use Rattle.script_reader.specs.Reading.{lines_from}
use Rattle.trace_print.specs.Text.{task_text}
use Rattle.search_goals.specs.declared.goal.Goal.{Goal}
use Rattle.search_goals.specs.declared.goal.Goal.TheVariants as goals
use Rattle.search_goals.specs.declared.goal.GoalFault.{GoalFault}
use Rattle.search_goals.specs.declared.goal.GoalFault.TheVariants.{Bad, NoMemory}
use Rattle.search_goals.specs.declared.conditions.Condition.{Condition}
use Rattle.search_goals.specs.Conditions.{name_len, asked_of}
use Rattle.search_goals.specs.Goals.{text_words, listed}
use Rattle.search_goals.specs.LineShapes.{may_begin}
use Rattle.search_goals.specs.Places.{plan_of, is_known_of}

-- what is looked for: that a call of a living task is never answered, whatever steps come; that nothing can change but
-- counters; that a call is not answered besides, of a task or of any; that each of these holds in one state; or a line
-- of an event
pub data Asked : Type 0 where
  LosesCall : Asked
  IsRest : Asked
  IsStuck : Option TaskNo → Asked
  HoldAll : List Condition → Asked
  HasLine : (head asked : List (List ℕ)) → Asked

-- a goal as the code has it
abbrev pub said : Goal → Asked
said goals.Lost = LosesCall
said goals.Rest = IsRest
said (goals.Stuck task) = IsStuck task
said (goals.When conditions) = HoldAll conditions.items
said (goals.Line head asked) = HasLine (listed head.items) (listed asked.items)

-- t and the number of the task with this name
unfoldable pub named_task : (names : List (List ℕ)) → List ℕ → Result (List ℕ) Reason
named_task names name = ok_or (task_named names name) UnknownName >>= λ task. Ok (task_text task)

-- the same of a name at the front, and what stands behind it
unfoldable pub behind_at : (names : List (List ℕ)) → List ℕ → Result (List ℕ) Reason
behind_at names word =
    named_task names (take (name_len word) word) >>= λ task. Ok (task ++ drop (name_len word) word)

-- a word of a goal: itself, or @ and the name of a task
unfoldable pub word_in : (names : List (List ℕ)) → List ℕ → Result (List ℕ) Reason
word_in names word = if starts_with nat_eq word (codes "@") then behind_at names (drop 1 word) else Ok word

-- words with which a line of a trace may begin
abbrev pub line_so_far : List (List ℕ) → Result (List (List ℕ)) Reason
line_so_far words = if may_begin words then Ok words else Err BadWord

-- one word more
unfoldable pub with_word : (names : List (List ℕ)) → List (List ℕ) → List ℕ → Result (List (List ℕ)) Reason
with_word names so_far word = word_in names word >>= λ word. line_so_far (so_far ++ word ∷ [])

-- the words from this number on
abbrev pub words_in : (names : List (List ℕ)) → ℕ → List (List ℕ) → Result (List (List ℕ)) (ℕ × Reason)
words_in names n words = lines_from (with_word names) n [] words

-- the name before a colon, which is the last byte
unfoldable pub owner_of : List ℕ → Option (List ℕ)
owner_of word =
    if nat_lt 0 (length word) && slice_index word (length word - 1) == 58 then Some (take (length word - 1) word)
    else None

-- the fault is in the word of this number
abbrev pub in_word : {A : Type 0} → ℕ → Result A Reason → Result A (ℕ × Reason)
in_word n (Ok x) = Ok x
in_word n (Err reason) = Err (n, reason)

-- what follows where there is no fault
infixl 10 ◌>>>◌
abbrev pub ◌>>>◌ : {A B : Type 0} → Result A (ℕ × Reason) → (A → Result B (ℕ × Reason)) → Result B (ℕ × Reason)
(Ok x) >>> f = f x
(Err e) >>> f = Err e

-- at least one word is asked for, behind so many
abbrev pub line_of : ℕ → (head asked : List (List ℕ)) → Result Asked (ℕ × Reason)
line_of n head [] = Err (n, WrongCount)
line_of n head (word ∷ asked) = Ok (HasLine head (word ∷ asked))

-- by whether the first word says whose event it is
abbrev pub goal_by : (names : List (List ℕ)) → Option (List ℕ) → (first : List ℕ) (others : List (List ℕ)) →
    Result Asked (ℕ × Reason)
goal_by names None first others = words_in names 1 (first ∷ others) >>> line_of 1 []
goal_by names (Some owner) first others =
    in_word 1 (named_task names owner) >>> λ task. (words_in names 2 others >>> line_of 2 (task ∷ []))

-- this, where no word stands behind
abbrev pub goal_alone : Asked → List (List ℕ) → Result Asked (ℕ × Reason)
goal_alone asked [] = Ok asked
goal_alone asked (word ∷ words) = Err (2, WrongCount)

-- of the task with this name
unfoldable pub stuck_task : (names : List (List ℕ)) → List ℕ → Result Asked (ℕ × Reason)
stuck_task names name = in_word 2 (ok_or (task_named names name) UnknownName >>= λ task. Ok (IsStuck (Some task)))

-- of any task or, where a name stands behind, of that one
abbrev pub stuck_of : (names : List (List ℕ)) → List (List ℕ) → Result Asked (ℕ × Reason)
stuck_of names [] = Ok (IsStuck None)
stuck_of names (name ∷ []) = stuck_task names name
stuck_of names (name ∷ word ∷ words) = Err (3, WrongCount)

-- what is asked, where its task has the operation that it names
abbrev pub known_of : Option TaskPlan → Condition → Result Condition Reason
known_of plan condition = if is_known_of plan condition then Ok condition else Err UnknownOperation

-- what the bytes behind the name of a task ask of it
unfoldable pub condition_of : List TaskPlan → TaskNo → List ℕ → Result Condition Reason
condition_of tasks task bytes = ok_or (asked_of task bytes) BadWord >>= known_of (plan_of tasks task)

-- the name of a task, and what is asked of it
unfoldable pub condition_in : (names : List (List ℕ)) → List TaskPlan → List ℕ → Result Condition Reason
condition_in names tasks word =
    ok_or (task_named names (take (name_len word) word)) UnknownName >>= λ task.
    condition_of tasks task (drop (name_len word) word)

-- one condition more
unfoldable pub with_condition : (names : List (List ℕ)) → List TaskPlan → List Condition → List ℕ →
    Result (List Condition) Reason
with_condition names tasks so_far word =
    condition_in names tasks word >>= λ condition. Ok (so_far ++ condition ∷ [])

-- the conditions that the words behind the first say
abbrev pub conditions_in : (names : List (List ℕ)) → List TaskPlan → List (List ℕ) →
    Result (List Condition) (ℕ × Reason)
conditions_in names tasks words = lines_from (with_condition names tasks) 2 [] words

-- there is at least one
abbrev pub when_all : List Condition → Result Asked (ℕ × Reason)
when_all [] = Err (2, WrongCount)
when_all (condition ∷ conditions) = Ok (HoldAll (condition ∷ conditions))

-- what is asked of one state
abbrev pub when_of : (names : List (List ℕ)) → List TaskPlan → List (List ℕ) → Result Asked (ℕ × Reason)
when_of names tasks words = conditions_in names tasks words >>> when_all

-- by the first word what is asked of a state, or else a line
abbrev pub goal_from : (names : List (List ℕ)) → List TaskPlan → (first : List ℕ) (others : List (List ℕ)) →
    Result Asked (ℕ × Reason)
goal_from names tasks first others =
    if bytes_eq first (codes "lost") then goal_alone LosesCall others
    else (if bytes_eq first (codes "rest") then goal_alone IsRest others
    else (if bytes_eq first (codes "stuck") then stuck_of names others
    else (if bytes_eq first (codes "when") then when_of names tasks others
    else goal_by names (owner_of first) first others)))

-- what some words say
abbrev pub goal_of_words : (names : List (List ℕ)) → List TaskPlan → List (List ℕ) → Result Asked (ℕ × Reason)
goal_of_words names tasks [] = Err (1, WrongCount)
goal_of_words names tasks (first ∷ others) = goal_from names tasks first others

-- the goal that a text says for tasks of these names, of which the first are those of a script, or its first fault with
-- the number of the word; 0 for a text that is too long, and for a byte that may not stand in a line
unfoldable pub goal_of : (names : List (List ℕ)) → List TaskPlan → List ℕ → Result Asked (ℕ × Reason)
goal_of names tasks text =
    if nat_lt most_bytes (length text) then Err (0, TooLong)
    else (if list_all is_allowed text then goal_of_words names tasks (text_words text) else Err (0, BadByte))

-- the answer is what is said, unless memory ran out
abbrev pub Answers : {A B : Type 0} → (A → B) → Result A GoalFault → Result B (ℕ × Reason) → Type 0
Answers f (Ok x) told = told ≡ Ok (f x)
Answers f (Err (Bad word reason)) told = told ≡ Err (word, reason)
Answers f (Err NoMemory) told = ⊤
