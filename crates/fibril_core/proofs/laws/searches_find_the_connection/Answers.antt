use Rattle.fibril_core.specs.Conns.{leads_to, serves}
use Rattle.fibril_core.proofs.Connections.{finds}
use Rattle.fibril_core.proofs.laws.searches_find_the_connection.Goals as goal

pub returns-clause-label : goal.returns-clause-label
returns-clause-label c = λ label cs. finds (leads_to label) cs

pub returns-clause-fibril : goal.returns-clause-fibril
returns-clause-fibril c = λ f cs. finds (serves f) cs
