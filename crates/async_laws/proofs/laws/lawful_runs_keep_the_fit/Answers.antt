use Rattle.async_laws.proofs.Linking.{event_keeps, event_keeps_others, kill_keeps, hangup_keeps}
use Rattle.async_laws.proofs.Linking.{gone_keeps, spawn_keeps}
use Rattle.async_laws.proofs.NewTasks.{new_fits}
use Rattle.async_laws.proofs.laws.lawful_runs_keep_the_fit.Goals as goal

pub returns : goal.returns
returns c = record {
  event = event_keeps;
  others = event_keeps_others;
  kill = kill_keeps;
  hangup = hangup_keeps;
  gone = gone_keeps;
  spawn = spawn_keeps;
  new = new_fits;
}
