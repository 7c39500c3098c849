-- The numbers of the statuses.
use Rattle.std.specs.Prelude.{ℕ}
use Rattle.cx_run.specs.declared.status.Status.{Status}
use Rattle.cx_run.specs.declared.status.Status.TheVariants.{Done, Alarms, Usage, Refused, ReadFailed, WriteFailed, Limit, NoMemory}

abbrev pub number_of : Status → ℕ
number_of Done = 0
number_of Alarms = 1
number_of Usage = 2
number_of Refused = 3
number_of ReadFailed = 4
number_of WriteFailed = 5
number_of Limit = 6
number_of NoMemory = 7
