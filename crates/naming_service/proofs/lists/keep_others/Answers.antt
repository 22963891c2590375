use Rattle.std.proofs.Common.{rules}
use Rattle.std.proofs.lemmas.Fn.{filter_same}
use Rattle.naming_service.specs.Naming.{wants_another}
use Rattle.naming_service.proofs.lists.keep_others.Goals as goal

pub returns : goal.returns
returns c = filter_same _ (wants_another c.args.service) _ (λ x b f' k. search rules) _ _ c.retain.ensures.filtered
