use Rattle.async_laws.proofs.EventsFit.{fitting_is_lawful}
use Rattle.async_laws.proofs.laws.fitting_entries_keep_the_laws.Goals as goal

pub returns : goal.returns
returns c = fitting_is_lawful
