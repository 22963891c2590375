use Rattle.std.proofs.Common.{◌≡◌, take}
use Rattle.script_reader.proofs.step_line.begins_with.Given as goal

abbrev pub invariant-loop-place : goal.invariant-loop-place
invariant-loop-place l = take l.place l.text ≡ take l.place l.front
