use Rattle.std.specs.Prelude.{pos}
use Rattle.filters.specs.strided_dom.Progression.{single}
use Rattle.filters.specs.pointer_dom.laws.OffsetLaws.{same_members}
use Rattle.tm_cint.specs.declared.operators.BinOp.TheVariants.{Sub}
use Rattle.transfer_int.specs.Values.{IsValue, ones_of}
use Rattle.operator_values.specs.Integers.{operated, operated_is, negated, complemented}
use Rattle.operator_values.proofs.integers.integer_operators.Goals as goal

pub returns : goal.returns
returns c = record {
  is = operated_is;
  one = λ op t a b s h. same_members (IsValue op t a b) s (operated op t a b) h (operated_is op t a b);
  negations = λ t a s h. same_members (IsValue Sub t (single (pos 0)) a) s (negated t a) h (operated_is Sub t (single (pos 0)) a);
  complements = λ t a s h. same_members (IsValue Sub t (single (ones_of t)) a) s (complemented t a) h (operated_is Sub t (single (ones_of t)) a);
}
