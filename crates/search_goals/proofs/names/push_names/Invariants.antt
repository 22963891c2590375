use Rattle.std.proofs.Common.{◌≡◌, take}
use Rattle.search_goals.specs.Goals.{listed}
use Rattle.search_goals.proofs.names.push_names.Given as goal

abbrev pub invariant-loop-name : goal.invariant-loop-name
invariant-loop-name l = l.table ≡ listed (take l.name-index l.known)
