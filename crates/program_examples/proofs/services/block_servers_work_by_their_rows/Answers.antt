use Rattle.std.proofs.Common.{refl}
use Rattle.program_examples.proofs.services.block_servers_work_by_their_rows.Goals as goal

pub returns-clause-requests : goal.returns-clause-requests
returns-clause-requests c = record {
  offer = refl;
  drop_window = refl;
  answer = refl;
  show = refl;
  fetch = refl;
  none = refl;
}

pub returns-clause-outcomes : goal.returns-clause-outcomes
returns-clause-outcomes c = record {
  offered = refl;
  dropped = refl;
  answered = refl;
  shown = refl;
  show_refused = refl;
  fetched = refl;
  fetch_refused = refl;
  nothing_came = refl;
  answer_came = refl;
}

pub returns-clause-start : goal.returns-clause-start
returns-clause-start c = record { with_service = refl; without = refl }
