use Rattle.std.proofs.Common.{take}
use Rattle.unit_plans.specs.reading.Tables.{IsTable}
use Rattle.unit_plans.proofs.tables.table_of.Given as goal

abbrev pub invariant-loop-number : goal.invariant-loop-number
invariant-loop-number l = IsTable l.table (take l.number l.names)
