-- A pair of pointers, and the arguments of a call, as those of the rules.
use Rattle.std.specs.Prelude.{Vec}
use Rattle.std.specs.declared.alloc.Global.{Global}
use Rattle.tm_typed.specs.declared.expressions.Rvalue.{Rvalue}
use Rattle.tm_typed.specs.Rules.{Pair as PlainPair}
use Rattle.tm_typed.specs.TypedTrees.{RvalueTrees, rvalue_tree, as_rvalues}
use Rattle.c_expr_rules.specs.declared.pointers.Pair.{Pair}

abbrev pub pair_of : Pair → PlainPair
pair_of p = record { left = rvalue_tree p.left.value; right = rvalue_tree p.right.value; common = p.common }

abbrev pub arguments_tree : Vec Rvalue Global → RvalueTrees
arguments_tree es = as_rvalues es.items
