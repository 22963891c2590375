-- What a script says, as lists.
use Rattle.std.specs.Prelude.{List, []}
use Rattle.script_lines.specs.declared.plan.TaskPlan.{TaskPlan}
use Rattle.script_lines.specs.declared.plan.Wire.{Wire}

-- its tasks, of which the first has the number 1, the wires between them, and the templates, of which the
-- first has the place 0
pub record Plan : Type 0 where
  pub tasks : List TaskPlan
  pub wires : List Wire
  pub templates : List TaskPlan

-- the script of no lines
abbrev pub nothing : Plan
nothing = record { tasks = []; wires = []; templates = [] }
