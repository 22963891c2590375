use Rattle.async_laws.proofs.OwnEntries.{own_entries}
use Rattle.async_laws.proofs.Linking.{promises_follow}
use Rattle.async_laws.proofs.laws.laws_of_calls_keep_the_promises.Goals as goal

pub returns : goal.returns
returns c = record { promises = promises_follow; own = own_entries }
