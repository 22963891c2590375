use Rattle.std.proofs.Common.{rules}
use Rattle.std.proofs.lemmas.Fn.{filter_same}
use Rattle.async_task.specs.Answers.{is_of_other_fibril}
use Rattle.async_task.proofs.awaited.keep_others.Goals as goal

pub returns : goal.returns
returns c =
    filter_same _ (is_of_other_fibril c.args.f) _ (λ x b f' k. search rules) _ _
    c.retain.ensures.filtered
