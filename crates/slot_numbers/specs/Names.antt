-- What the types of the code stand for.
use Rattle.front_constraints.specs.Systems as systems
use Rattle.slot_numbers.specs.declared.names.Variable.{Variable}
use Rattle.slot_numbers.specs.declared.names.Variable.TheVariants.{Front, Open, Slot}
use Rattle.slot_numbers.specs.declared.names.Rule.{Rule}
use Rattle.slot_numbers.specs.declared.names.Rule.TheVariants.{Entered, Row, Flow}

abbrev pub variable_named : Variable → systems.Variable
variable_named (Front n) = systems.front_at n
variable_named (Open e) = systems.open_at e
variable_named (Slot n x) = systems.slot_at n x

abbrev pub rule_named : Rule → systems.Rule
rule_named Entered = systems.entered
rule_named (Row e) = systems.row e
rule_named (Flow e x) = systems.flow e x
