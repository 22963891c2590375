use Rattle.run_determined.proofs.ToldPhones.{calls_tell_their_phone}
use Rattle.run_determined.proofs.laws.connect_calls_tell_their_phone.Goals as goal

pub returns : goal.returns
returns c = calls_tell_their_phone
