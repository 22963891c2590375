-- What a text spells, line by line, and where it is at fault, for scripts and schedules alike.
-- `after x line` is what a line makes of x, what the lines before it made, where it is not at fault;
-- `reasons x line` is the table of the reasons for which it may be.
use Rattle.std.specs.Prelude.{◌≡◌, ℕ, ◌+◌, ◌<◌, ◌≤◌, List, [], ◌∷◌, ◌++◌, length, Result, Ok, ◌⊎◌}
use Rattle.ipc_ids.specs.Tables.{most_bytes}
use Rattle.script_lines.specs.declared.fault.Reason.{Reason}
use Rattle.script_lines.specs.declared.fault.Reason.TheVariants.{TooLong}
use Rattle.script_reader.specs.Rows.{Row, IsFirstReason}
use Rattle.script_lines.specs.Text.{lines}
use Rattle.script_lines.specs.Plan.{Plan}
use Rattle.script_lines.specs.Line.{after_line}
use Rattle.script_lines.specs.ScriptParts.{ScriptParts, no_parts, script_of_parts}

-- a text of more than 1,048,576 bytes
abbrev pub IsTooLong : List ℕ → Type 0
IsTooLong text = most_bytes < length text

-- each line adds its part to what the lines before it made
abbrev pub Makes : {A : Type 0} → (A → List ℕ → Result A Reason) → A → List (List ℕ) → A → Type 0
Makes after before [] made = made ≡ before
Makes {A} after before (line ∷ others) made =
    (next : A) × (after before line ≡ Ok next) × Makes after next others made

-- the text spells this: no line is at fault, and the lines make it of nothing
pub record Spells {A : Type 0} (after : A → List ℕ → Result A Reason) (nothing : A) (text : List ℕ)
    (made : A) : Type 0 where
  pub short : length text ≤ most_bytes
  pub lines_make : Makes after nothing (lines text) made

-- the lines before this one are not at fault, and this is the first reason of its table, after what
-- those make
pub record FaultAt {A : Type 0} (after : A → List ℕ → Result A Reason)
    (reasons : A → List ℕ → List Row) (nothing : A) (all : List (List ℕ)) (number : ℕ)
    (reason : Reason) : Type 0 where
  pub before : List (List ℕ)
  pub line : List ℕ
  pub behind : List (List ℕ)
  pub made : A
  pub parts : all ≡ before ++ line ∷ behind
  pub counted : number ≡ length before + 1
  pub lines_make : Makes after nothing before made
  pub fault : IsFirstReason (reasons made line) reason

-- the first fault of a text: that it is too long, which is line 0, or that of its first line at fault
abbrev pub IsFirstFault : {A : Type 0} → (A → List ℕ → Result A Reason) → (A → List ℕ → List Row) → A
    → List ℕ → ℕ → Reason → Type 0
IsFirstFault after reasons nothing text number reason =
    (IsTooLong text × (number ≡ 0) × (reason ≡ TooLong))
    ⊎ ((length text ≤ most_bytes) × FaultAt after reasons nothing (lines text) number reason)

-- the bytes spell this script: its lines make the two parts of it
abbrev pub SpellsScript : List ℕ → Plan → Type 0
SpellsScript text plan = (w : ScriptParts) × Spells after_line no_parts text w × (script_of_parts w ≡ plan)
