use Rattle.body_slots.specs.laws.PartRows.{alike_rows}
use Rattle.body_slots.specs.laws.Parts.{brought_none, brought_some, row_none, row_some}
use Rattle.body_slots.specs.laws.Held.{entered_is}
use Rattle.std.proofs.Common.{refl}
use Rattle.std.specs.Prelude.{None}
use Rattle.body_slots.proofs.laws.slots_are_read.Goals as goal

pub returns-clause-alike : goal.returns-clause-alike
returns-clause-alike c = λ v is e lt s part fits traced passes agree. alike_rows v e is lt s part fits traced passes agree

pub returns-clause-entered : goal.returns-clause-entered
returns-clause-entered c = entered_is

pub returns-clause-unreached : goal.returns-clause-unreached
returns-clause-unreached c = brought_none

pub returns-clause-applied : goal.returns-clause-applied
returns-clause-applied c = brought_some

pub returns-clause-led : goal.returns-clause-led
returns-clause-led c = λ v e r s is. row_some v e r s is

pub returns-clause-stopped : goal.returns-clause-stopped
returns-clause-stopped c = λ v e s is. row_none v e None refl s is
