use Rattle.std.proofs.Common.{◌≡◌, drop}
use Rattle.schedule_search.specs.Holding.{all_hold}
use Rattle.schedule_search.proofs.holding.all_hold.Given as goal

abbrev pub invariant-loop-condition : goal.invariant-loop-condition
invariant-loop-condition l =
    all_hold (drop l.condition-index l.conditions) l.system ≡ all_hold l.conditions l.system
