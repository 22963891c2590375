use Rattle.std.proofs.Common.{[]}
use Rattle.search_goals.proofs.ShapedLines.{no_entry_fits, words_read}
use Rattle.search_goals.proofs.laws.lines_of_entries_are_no_fault.Goals as goal

pub returns-clause-none : goal.returns-clause-none
returns-clause-none c = λ asked none e. no_entry_fits asked none e

pub returns-clause-read : goal.returns-clause-read
returns-clause-read c = λ names words asked n e said fit. words_read names words [] asked n e said fit
