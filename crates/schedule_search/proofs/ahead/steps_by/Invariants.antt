use Rattle.std.proofs.Common.{◌≡◌, take, reverse}
use Rattle.schedule_search.specs.Ahead.{steps_of}
use Rattle.schedule_search.proofs.ahead.steps_by.Given as goal

abbrev pub invariant-loop-m : goal.invariant-loop-m
invariant-loop-m l = l.steps.items ≡ steps_of (reverse (take l.m-index l.path))
