use Rattle.std.proofs.Common.{◌≡◌, length, slice_get}
use Rattle.run_words.specs.Reached.{spawns_of}
use Rattle.schedule_search.specs.Plans.{spawned_plans}
use Rattle.schedule_search.proofs.plans.spawned_plan.Given as goal

-- what is left to find in the events that are left
abbrev pub invariant-loop-rest : goal.invariant-loop-rest
invariant-loop-rest l =
    slice_get (spawned_plans l.templates (spawns_of l.rest)) l.left
    ≡ slice_get (spawned_plans l.templates (spawns_of l.from)) l.place

abbrev pub decreases-loop-rest : goal.decreases-loop-rest
decreases-loop-rest l = length l.rest
