use Rattle.std.proofs.Common.{◌+◌, take, arith, refl, ◌∙◌, sym}
use Rattle.std.proofs.Math.ListN.{length-set}
use Rattle.std.proofs.lemmas.Grind.{take-set_at}
use Rattle.ipc_ids.specs.declared.op.Value.TheVariants.{Number}
use Rattle.std.proofs.lemmas.List.Elements.{All-set}
use Rattle.script_lines.specs.Ranges.{IsInRange}
use Rattle.script_lines.proofs.Arguments.{goes_on, zeros_stay}
use Rattle.script_lines.proofs.operation.arguments.Goals as goal

pub loop-i-preserved : goal.loop-i-preserved
loop-i-preserved c =
    let args = c.loop-i.args in
    let i = c.loop-i.i in
    let v = c.in_ok-args.field-0 in
    record {
      told = rw (take-set_at args i (i + 1) v refl (omega arith)) (goes_on c.args.words.now i _ v (take i args) (omega arith) (sym c.value.ensures.value ∙ c.in_ok-args.was) c.loop-i.invariant.told);
      five = length-set args i v ∙ c.loop-i.invariant.five;
      rest = zeros_stay args i v (Number 0) (omega arith) c.loop-i.invariant.five c.loop-i.invariant.rest;
      ranges = All-set IsInRange args i v c.in_ok-args.ensures.ranges c.loop-i.invariant.ranges;
    }
