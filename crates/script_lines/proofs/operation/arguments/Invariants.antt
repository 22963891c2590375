use Rattle.std.proofs.Common.{◌≡◌, ◌-◌, ◌++◌, length, take, drop}
use Rattle.std.specs.Prelude.{replicate}
use Rattle.ipc_ids.specs.declared.op.Value.TheVariants.{Number}
use Rattle.std.specs.Prelude.{All}
use Rattle.script_lines.specs.Ranges.{IsInRange}
use Rattle.script_lines.specs.Operation.{values, arguments}
use Rattle.script_lines.specs.Text.{texts}
use Rattle.script_lines.proofs.Arguments.{pad_with}
use Rattle.script_lines.proofs.operation.arguments.Given as goal

abbrev pub invariant-loop-i : goal.invariant-loop-i
invariant-loop-i l = record {
  told : pad_with (take l.i l.args) (values (texts (drop l.i l.words))) ≡ arguments (texts l.words);
  five : length l.args ≡ 5;
  rest : l.args ≡ take l.i l.args ++ replicate (5 - l.i) (Number 0);
  ranges : All IsInRange l.args;
}
