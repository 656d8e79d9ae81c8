use Rattle.std.proofs.Common.{◌≡◌, ◌≢◌, [], ◌∷◌, List, length, map, None, refl, sym, arith}
use Rattle.tm_trees.specs.declared.declarations.Value.{Value}
use Rattle.tm_trees.specs.DeclarationTrees.{ValueTree, ValueTrees, an_expression, a_list, and_value}
use Rattle.tm_trees.specs.DeclarationTrees.{value_tree, as_values}
use Rattle.tm_typed.specs.Initialisers.{lone}
use Rattle.c_initialisers.proofs.parts.lone.Goals as goal

of_two : (v w : ValueTree) (vs : ValueTrees) → lone (and_value v (and_value w vs)) ≡ None
of_two (an_expression t) w vs = refl
of_two (a_list us p) w vs = refl

not_one : (vs : List Value) → length vs ≢ 1 → lone (as_values (map value_tree vs)) ≡ None
not_one [] many = refl
not_one (v ∷ []) many = absurd (omega arith)
not_one (v ∷ w ∷ vs) many = of_two (value_tree v) (value_tree w) (as_values (map value_tree vs))

pub returns-then-values-ne1 : goal.returns-then-values-ne1
returns-then-values-ne1 c = sym (not_one c.args.values.now c.if-values-ne1.true)
