use Rattle.std.proofs.Common.{sym, subst}
use Rattle.search_goals.specs.Goals.{listed}
use Rattle.search_goals.specs.Writing.{AreNames}
use Rattle.search_goals.proofs.names.TaskNames.to_table.Goals as goal

pub push_names-requires-clause-names : goal.push_names-requires-clause-names
push_names-requires-clause-names c = subst (λ ws. AreNames (listed ws)) (sym c.as_slice.ensures.value) c.self.invariant
