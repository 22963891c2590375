use Rattle.async_laws.proofs.LimitLaws.{refusals_are_remembered, answers_are_remembered}
use Rattle.async_laws.proofs.LimitLaws.{the_short_do_not_connect, only_the_limit_makes_short}
use Rattle.async_laws.proofs.LimitLaws.{nobody_is_told_the_limit}
use Rattle.async_laws.proofs.laws.limits_are_kept_in_mind.Goals as goal

pub returns : goal.returns
returns c = record {
  refused = refusals_are_remembered;
  answered = answers_are_remembered;
  heeded = the_short_do_not_connect;
  alone = only_the_limit_makes_short;
  untold = nobody_is_told_the_limit;
}
