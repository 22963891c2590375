use Rattle.route_laws.proofs.PhoneEvents.{phones_serve, phones_kill, phones_gone, phones_spawn}
use Rattle.route_laws.proofs.laws.events_keep_the_phones.Goals as goal

pub returns-clause-serves : goal.returns-clause-serves
returns-clause-serves c b h k t asked fits routes = phones_serve b h k fits routes t asked

pub returns-clause-kills : goal.returns-clause-kills
returns-clause-kills c b h k t fits alive routes = phones_kill b h k fits routes t alive

pub returns-clause-gone : goal.returns-clause-gone
returns-clause-gone c b h k t fits routes = phones_gone b h k fits routes t

pub returns-clause-spawns : goal.returns-clause-spawns
returns-clause-spawns c = phones_spawn
