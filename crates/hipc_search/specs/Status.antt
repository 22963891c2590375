-- The exit number of a status.
use Rattle.std.specs.Prelude.{ℕ}
use Rattle.hipc_search.specs.declared.status.Status.{Status}
use Rattle.hipc_search.specs.declared.status.Status.TheVariants.{Found, NoneAtAll, Usage, CannotRead, BadScript, BadSchedule, WriteFailed, NoMemory, NoneWithin, BadGoal, NotKnown, FoundWithin}

abbrev pub number_of : Status → ℕ
number_of Found = 0
number_of NoneAtAll = 1
number_of Usage = 2
number_of CannotRead = 3
number_of BadScript = 4
number_of BadSchedule = 5
number_of WriteFailed = 6
number_of NoMemory = 7
number_of NoneWithin = 9
number_of BadGoal = 10
number_of NotKnown = 11
number_of FoundWithin = 12
