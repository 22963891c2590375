use Rattle.async_laws.proofs.HeldCalls.{received_calls_come, kept_calls_stay}
use Rattle.async_laws.proofs.laws.received_calls_are_not_lost.Goals as goal

pub returns : goal.returns
returns c = record { received = received_calls_come; stay = kept_calls_stay }
