-- The number of values in braces.
use Rattle.std.proofs.Common.{◌≡◌, suc, List, [], ◌∷◌, length, map, refl, ap}
use Rattle.tm_trees.specs.declared.declarations.Value.{Value}
use Rattle.tm_trees.specs.DeclarationTrees.{value_tree, as_values}
use Rattle.tm_typed.specs.Declarations.{count_values}

pub count_of : (vs : List Value) → count_values (as_values (map value_tree vs)) ≡ length vs
count_of [] = refl
count_of (v ∷ vs) = ap suc (count_of vs)
