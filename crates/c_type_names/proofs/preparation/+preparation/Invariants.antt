use Rattle.std.proofs.Common.{◌≡◌, drop}
use Rattle.tm_terms.specs.ExprTrees.{as_arguments}
use Rattle.tm_typed.specs.TypeNames.{all_prepared}
use Rattle.c_type_names.proofs.preparation.+preparation.Given as goal

abbrev pub invariant-prepare_all-items : goal.invariant-prepare_all-items
invariant-prepare_all-items l = all_prepared l.scope (as_arguments (drop l.expr-index l.exprs)) ≡ all_prepared l.initial.scope (as_arguments l.exprs)
