-- What the statuses come with.
use Rattle.std.specs.Prelude.{◌≡◌, ◌⊎◌}
use Rattle.program_streams.specs.declared.statuses.Status.{Status}
use Rattle.program_streams.specs.declared.statuses.Status.TheVariants.{NoAlarm, Alarms, Refused, Usage, ReadFault}
use Rattle.program_streams.specs.declared.statuses.Status.TheVariants.{WriteFault, NoMemory}

-- a stop without a whole text
abbrev pub IsStop : Status → Type 0
IsStop NoAlarm = ⊥
IsStop Alarms = ⊥
IsStop Refused = ⊥
IsStop Usage = ⊥
IsStop ReadFault = Unit {0}
IsStop WriteFault = Unit {0}
IsStop NoMemory = Unit {0}

-- a stop that is not the source's
abbrev pub IsSinkStop : Status → Type 0
IsSinkStop status = (status ≡ WriteFault) ⊎ (status ≡ NoMemory)
