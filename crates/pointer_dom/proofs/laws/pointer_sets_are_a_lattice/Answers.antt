use Rattle.pointer_dom.specs.laws.PointerLaws.{pointers_order, pointers_join, pointers_closure, pointers_nothing}
use Rattle.pointer_dom.proofs.laws.pointer_sets_are_a_lattice.Goals as goal

pub returns-clause-order : goal.returns-clause-order
returns-clause-order c = pointers_order

pub returns-clause-join : goal.returns-clause-join
returns-clause-join c = pointers_join

pub returns-clause-closure : goal.returns-clause-closure
returns-clause-closure c = pointers_closure

pub returns-clause-nothing : goal.returns-clause-nothing
returns-clause-nothing c = pointers_nothing
