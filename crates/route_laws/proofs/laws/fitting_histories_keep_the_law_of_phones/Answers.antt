use Rattle.route_laws.proofs.PhoneEvents.{calls_go_where_phones_lead}
use Rattle.route_laws.proofs.laws.fitting_histories_keep_the_law_of_phones.Goals as goal

pub returns : goal.returns
returns c = calls_go_where_phones_lead
