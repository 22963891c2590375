-- A table of reasons, and the first of them whose test holds.
use Rattle.std.specs.Prelude.{◌≡◌, List, [], ◌∷◌, ◌++◌, Bool, true, false, ⊤, Option, Some, None, Result, Ok, Err, if◌then◌else◌}
use Rattle.script_lines.specs.declared.fault.Reason.{Reason}

-- a reason, and whether its test holds
abbrev pub Row : Type 0
Row = Reason × Bool

abbrev pub first_reason : List Row → Option Reason
first_reason [] = None
first_reason (row ∷ rows) = if row.1 then Some row.0 else first_reason rows

-- no test holds
abbrev pub NoReason : List Row → Type 0
NoReason [] = ⊤
NoReason (row ∷ rows) = (row.1 ≡ false) × NoReason rows

-- the test of this reason holds, and that of no reason before it
pub record IsFirstReason (rows : List Row) (reason : Reason) : Type 0 where
  pub before : List Row
  pub behind : List Row
  pub parts : rows ≡ before ++ (reason, true) ∷ behind
  pub none_before : NoReason before

-- the fault that an answer is, if it is one
abbrev pub fault_in : {A : Type 0} → Result A Reason → Option Reason
fault_in (Ok _) = None
fault_in (Err reason) = Some reason
