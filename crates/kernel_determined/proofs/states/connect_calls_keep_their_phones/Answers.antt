use Rattle.kernel_determined.proofs.StateLaws.{keep_their_phones}
use Rattle.kernel_determined.proofs.states.connect_calls_keep_their_phones.Goals as goal

pub returns : goal.returns
returns c = keep_their_phones
