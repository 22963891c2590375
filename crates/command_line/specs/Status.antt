-- The exit number of a status.
use Rattle.std.specs.Prelude.{ℕ}
use Rattle.command_line.specs.declared.status.Status.{Status}
use Rattle.command_line.specs.declared.status.Status.TheVariants.{Done, Usage, CannotRead, BadScript, BadSchedule, BadTrace, WriteFailed, NoMemory}

abbrev pub number_of : Status → ℕ
number_of Done = 0
number_of Usage = 2
number_of CannotRead = 3
number_of BadScript = 4
number_of BadSchedule = 5
number_of WriteFailed = 6
number_of NoMemory = 7
number_of BadTrace = 8
