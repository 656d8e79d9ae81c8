use Rattle.operator_values.specs.SetsOfPointers.{IsReachable, dereferenced, dereferenced_is, dereferenced_fits}
use Rattle.operator_values.proofs.OneAnswer.{one_hull}
use Rattle.operator_values.proofs.pointers.reached_pointers.Goals as goal

pub returns : goal.returns
returns c = record {
  is = dereferenced_is;
  fits = dereferenced_fits;
  one = λ alive stands p r p-is r-is h.
      one_hull (IsReachable alive stands p) p r (dereferenced alive stands p) p-is r-is (dereferenced_fits alive stands p p-is) h (dereferenced_is alive stands p);
}
