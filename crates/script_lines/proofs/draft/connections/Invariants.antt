use Rattle.std.proofs.Common.{◌≡◌, ◌≤◌, take}
use Rattle.script_lines.specs.Sound.{connections}
use Rattle.script_lines.proofs.draft.connections.Given as goal

abbrev pub invariant-loop-body : goal.invariant-loop-body
invariant-loop-body l = record { counted : l.count ≡ connections (take l.body-index l.bodies); few : l.count ≤ l.body-index }
