use Rattle.std.proofs.Common.{subst}
use Rattle.pointer_dom.specs.Values.{IsValues}
use Rattle.pointer_dom.proofs.ValueFacts.{values_is}
use Rattle.pointer_dom.proofs.abs_value.AbsValueLattice.is_nothing.Goals as goal

pub returns-in-Int-clause-value : goal.returns-in-Int-clause-value
returns-in-Int-clause-value c = subst IsValues c.self.view_is (values_is c.self.inside.parts c.self.invariant)
