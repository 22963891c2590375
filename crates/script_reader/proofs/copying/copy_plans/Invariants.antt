use Rattle.std.proofs.Common.{◌≡◌, take}
use Rattle.script_reader.proofs.copying.copy_plans.Given as goal

abbrev pub invariant-loop-plan : goal.invariant-loop-plan
invariant-loop-plan l = l.copies ≡ take l.plan-index l.plans
