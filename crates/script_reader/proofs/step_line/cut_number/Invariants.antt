use Rattle.std.proofs.Common.{◌≤◌}
use Rattle.script_reader.specs.StepLine.{IsSpelled}
use Rattle.script_reader.proofs.step_line.cut_number.Given as goal

abbrev pub invariant-loop : goal.invariant-loop
invariant-loop l = record {
  spelled : IsSpelled l.counter l.text l.value l.rest;
  small : l.value ≤ 65539;
}
