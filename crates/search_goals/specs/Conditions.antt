-- What a goal asks of one state, as it is written behind the name of a task.
use Rattle.std.specs.Prelude.{ℕ, ◌==◌, not, List, [], ◌∷◌, length, take, drop, codes, nat_eq, nat_lt, Option, Some, None, if◌then◌else◌}
use Rattle.std.specs.List.{starts_with, position_or_len}
use Rattle.ipc_ids.specs.declared.numbers.TaskNo.{TaskNo}
use Rattle.script_lines.specs.Word.{is_name_byte, number}
use Rattle.search_goals.specs.declared.conditions.Subject.{Subject}
use Rattle.search_goals.specs.declared.conditions.Condition.{Condition}
use Rattle.search_goals.specs.declared.conditions.Condition.TheVariants as conditions

-- how many bytes at the front may stand in a name
abbrev pub name_len : List ℕ → ℕ
name_len word = position_or_len (λ b. not (is_name_byte b)) word

-- where = stands in a word; its length where it has none
abbrev pub equals_place : List ℕ → ℕ
equals_place word = position_or_len (λ b. b == 61) word

-- a number below 32
abbrev pub below_32 : Option ℕ → Option ℕ
below_32 None = None
below_32 (Some n) = if nat_lt n 32 then Some n else None

-- the register rK, of 32
abbrev pub register_in : List ℕ → Option ℕ
register_in word = if starts_with nat_eq word (codes "r") then below_32 (number (drop 1 word)) else None

-- a register and a number, where both are there
abbrev pub holding_both : Subject → Option ℕ → Option ℕ → Option Condition
holding_both subject (Some k) (Some n) = Some (conditions.Holds subject k n)
holding_both subject (Some k) None = None
holding_both subject None n = None

-- rK=N: register K holds N
abbrev pub holding : Subject → List ℕ → Option Condition
holding subject word =
    let rest = drop (equals_place word) word in
    if starts_with nat_eq rest (codes "=") then holding_both subject (register_in (take (equals_place word) word))
    (number (drop 1 rest))
    else None

-- at the operation of this number, where it is one
abbrev pub at_place : Subject → Option ℕ → Option Condition
at_place subject None = None
at_place subject (Some place) = Some (conditions.At subject place)

-- what the bytes behind a task and its fibril ask
abbrev pub of_subject : Subject → List ℕ → Option Condition
of_subject subject [] = None
of_subject subject (b ∷ bytes) =
    if b == 36 then (if length bytes == 0 then Some (conditions.AtEnd subject) else None)
    else (if b == 64 then at_place subject (number bytes) else (if b == 46 then holding subject bytes else None))

-- what these bytes ask of the fibril of this number
abbrev pub of_fibril : TaskNo → Option ℕ → List ℕ → Option Condition
of_fibril task None bytes = None
of_fibril task (Some f) bytes = of_subject (record { task = task; fibril = Some (record { 0 = f }) }) bytes

-- what the bytes behind a task and / ask of a fibril of it
abbrev pub numbered : TaskNo → List ℕ → Option Condition
numbered task bytes = of_fibril task (number (take (name_len bytes) bytes)) (drop (name_len bytes) bytes)

-- what the bytes behind the name of a task ask; nothing where they are none that a goal may have
abbrev pub asked_of : TaskNo → List ℕ → Option Condition
asked_of task [] = None
asked_of task (b ∷ bytes) =
    if b == 33 then (if length bytes == 0 then Some (conditions.Killed task) else None)
    else (if b == 47 then numbered task bytes else of_subject (record { task = task; fibril = None }) (b ∷ bytes))
