use Rattle.async_laws.proofs.EventsFit.{start_fits, each_fits, others_fit, hangups_fit, kills_fit}
use Rattle.async_laws.proofs.EventsFit.{gone_fits, spawns_fit}
use Rattle.async_laws.proofs.laws.events_keep_the_fit.Goals as goal

pub returns : goal.returns
returns c = record {
  start = start_fits;
  each = each_fits;
  others = others_fit;
  hangups = hangups_fit;
  kills = kills_fit;
  gone = gone_fits;
  spawns = spawns_fit;
}
