-- The tree of a call whose arguments lie in a vector.
use Rattle.std.proofs.Common.{◌≡◌, refl, ap, ◌∙◌, ℕ}
use Rattle.std.specs.declared.alloc.Global.{Global}
use Rattle.std.specs.declared.vec.Vec.{Vec}
use Rattle.tm_trees.specs.tm_terms.declared.places.Place.{Place}
use Rattle.tm_typed.specs.declared.expressions.Rvalue.{Rvalue, Row_of-Rvalue, end_of-Rvalue, more_of-Rvalue, items-the_row-Rvalue, items_hidden-the_row-Rvalue-0}
use Rattle.tm_typed.specs.declared.expressions.Lvalue.TheBlock.{hidden-the_row-Rvalue-0}
use Rattle.tm_typed.specs.declared.expressions.Rvalue.TheVariants as Rvalues
use Rattle.tm_typed.specs.TypedTrees.{a_function_call, and_rvalue, rvalue_tree, rvalues_of, as_rvalues}

row_as_list : {m : _} (row : Row_of-Rvalue m) → rvalues_of row ≡ as_rvalues (items-the_row-Rvalue m row)
row_as_list end_of-Rvalue = refl
row_as_list (more_of-Rvalue e row) = ap (and_rvalue (rvalue_tree e)) (row_as_list row)

pub rvalue_tree-call : (f s : ℕ) (items : Vec Rvalue Global) (p : Place) → rvalue_tree (Rvalues.Call f s items p) ≡ a_function_call f s (as_rvalues items.items) p
rvalue_tree-call f s items p = ap (λ es. a_function_call f s es p) (row_as_list (hidden-the_row-Rvalue-0 items) ∙ ap as_rvalues (items_hidden-the_row-Rvalue-0 items))
