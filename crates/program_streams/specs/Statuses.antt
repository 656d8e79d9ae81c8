-- How a call of a program ends.
use Rattle.std.specs.Prelude.{◌≡◌, ◌⊎◌, ℕ, Bool, true, false}
use Rattle.std.specs.declared.io.ErrorKind.{ErrorKind}
use Rattle.std.specs.declared.io.ErrorKind.TheVariants.{OutOfMemory}
use Rattle.tm_io.specs.declared.sinks.Stop.{Stop}
use Rattle.tm_io.specs.declared.sinks.Stop.TheVariants.{Failed as StopFailed, NoMemory as StopNoMemory}
use Rattle.program_streams.specs.declared.input.InputError.{InputError}
use Rattle.program_streams.specs.declared.input.InputError.TheVariants.{Failed, NoMemory as InputNoMemory}
use Rattle.program_streams.specs.declared.statuses.Status.{Status}
use Rattle.program_streams.specs.declared.statuses.Status.TheVariants.{NoAlarm, Alarms, Refused, Usage, ReadFault}
use Rattle.program_streams.specs.declared.statuses.Status.TheVariants.{WriteFault, NoMemory}

-- the number with which the program ends
abbrev pub status_number : Status → ℕ
status_number NoAlarm = 0
status_number Alarms = 1
status_number Refused = 2
status_number Usage = 3
status_number ReadFault = 4
status_number WriteFault = 5
status_number NoMemory = 6

-- the number with which a program ends that the system does not give its words
abbrev pub no_words : ℕ
no_words = 7

-- and where it does not give them for this reason: memory may run out while they are copied
abbrev pub number_without_words : ErrorKind → ℕ
number_without_words OutOfMemory = status_number NoMemory
number_without_words _ = no_words

-- the statuses that come with a whole text
abbrev pub IsWhole : Status → Type 0
IsWhole NoAlarm = Unit {0}
IsWhole Alarms = Unit {0}
IsWhole Refused = Unit {0}
IsWhole Usage = Unit {0}
IsWhole ReadFault = ⊥
IsWhole WriteFault = ⊥
IsWhole NoMemory = ⊥

-- the statuses that come with a report
abbrev pub IsReported : Status → Type 0
IsReported status = (status ≡ NoAlarm) ⊎ (status ≡ Alarms)

-- the status of an answer that is written whole, by whether there is an alarm in it
abbrev pub shown_status : Bool → Status
shown_status true = Alarms
shown_status false = NoAlarm

-- the status of a stream that could not be read
abbrev pub unread_status : InputError → Status
unread_status Failed = ReadFault
unread_status InputNoMemory = NoMemory

-- the status of a stream that took less than the whole text
abbrev pub unwritten_status : Stop → Status
unwritten_status StopFailed = WriteFault
unwritten_status StopNoMemory = NoMemory
