use Rattle.std.proofs.Common.{◌≡◌, drop}
use Rattle.script_lines.specs.Text.{texts}
use Rattle.search_goals.specs.Goals.{listed}
use Rattle.search_goals.specs.LineShapes.{begins_one}
use Rattle.search_goals.proofs.line_shapes.begins_one.Given as goal

-- what is left decides
abbrev pub invariant-loop-shape : goal.invariant-loop-shape
invariant-loop-shape l =
    begins_one (texts (drop l.shape-index l.shapes)) (listed l.asked) ≡ begins_one (texts l.shapes) (listed l.asked)
