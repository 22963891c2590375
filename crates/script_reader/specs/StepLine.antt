-- What a step in its usual form says: one space stands between two words, and a line feed behind the last one.
use Rattle.std.specs.Prelude.{◌≡◌, ◌≤◌, ◌⊎◌, ℕ, true, List, ◌∷◌, ◌++◌, length, Some, Result, codes}
use Rattle.std.specs.List.{list_all}
use Rattle.std.specs.Char.{is_ascii_digit}
use Rattle.std.specs.Str.Parse.{digits_value}
use Rattle.script_lines.specs.declared.fault.Reason.{Reason}
use Rattle.script_lines.specs.Text.{first_line, behind}
use Rattle.script_lines.specs.Word.{is_name}
use Rattle.script_lines.specs.Operation.{◌>>=◌}
use Rattle.script_reader.specs.Schedule.{count_of, step_with}
use Rattle.script_reader.specs.EventLine.{EventsAndNames, with_repeated, after_event_line}

-- so many steps of the task of a name more
abbrev pub with_steps : EventsAndNames → List ℕ → ℕ → Result EventsAndNames Reason
with_steps before name count = step_with before.names name (Some count) >>= with_repeated before

-- the text begins with ` x N` and a line feed, and these stand behind it
pub record IsCounted (text : List ℕ) (count : ℕ) (others : List ℕ) : Type 0 where
  pub digits : List ℕ
  pub parts : text ≡ codes " x " ++ (digits ++ 10 ∷ others)
  pub are_digits : list_all is_ascii_digit digits ≡ true
  pub counted : count_of (codes "x") digits ≡ Some count

-- at most so many digits at the front spell the number, and these stand behind them
pub record IsSpelled (most : ℕ) (text : List ℕ) (number : ℕ) (rest : List ℕ) : Type 0 where
  pub digits : List ℕ
  pub parts : text ≡ digits ++ rest
  pub are_digits : list_all is_ascii_digit digits ≡ true
  pub few : length digits ≤ most
  pub value : number ≡ digits_value 10 digits

-- a line feed, or ` x N` and a line feed, says how many steps, and these stand behind it
abbrev pub EndsStep : List ℕ → ℕ → List ℕ → Type 0
EndsStep text count others = ((text ≡ 10 ∷ others) × (count ≡ 1)) ⊎ IsCounted text count others

-- the first line says so many steps of the task of a name, and these stand behind it
pub record SaysSteps (text name : List ℕ) (count : ℕ) (others : List ℕ) : Type 0 where
  pub said : (templates : List (List ℕ)) (before : EventsAndNames)
      → after_event_line templates before (first_line text) ≡ with_steps before name count
  pub left : behind text ≡ Some others
  pub named : is_name name ≡ true
