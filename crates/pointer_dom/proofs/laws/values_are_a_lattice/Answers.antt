use Rattle.pointer_dom.specs.laws.ValueLaws.{values_order, values_join, values_closure, values_nothing}
use Rattle.pointer_dom.proofs.laws.values_are_a_lattice.Goals as goal

pub returns-clause-order : goal.returns-clause-order
returns-clause-order c = values_order

pub returns-clause-join : goal.returns-clause-join
returns-clause-join c = values_join

pub returns-clause-closure : goal.returns-clause-closure
returns-clause-closure c = values_closure

pub returns-clause-nothing : goal.returns-clause-nothing
returns-clause-nothing c = values_nothing
