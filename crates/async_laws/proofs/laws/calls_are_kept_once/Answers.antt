use Rattle.async_laws.proofs.KeptOnce.{start_keeps_once, each_keeps_once, received_calls_come_once}
use Rattle.async_laws.proofs.KeptOnce.{kept_calls_go_once}
use Rattle.async_laws.proofs.laws.calls_are_kept_once.Goals as goal

pub returns : goal.returns
returns c = record {
  start = start_keeps_once;
  each = each_keeps_once;
  comes = received_calls_come_once;
  goes = kept_calls_go_once;
}
