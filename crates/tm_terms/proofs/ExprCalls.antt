-- The tree of a call whose arguments lie in a vector.
use Rattle.std.proofs.Common.{◌≡◌, refl, ap, ◌∙◌}
use Rattle.std.specs.declared.alloc.Global.{Global}
use Rattle.std.specs.declared.vec.Vec.{Vec}
use Rattle.tm_terms.specs.declared.places.Place.{Place}
use Rattle.tm_terms.specs.declared.tokens.Name.{Name}
use Rattle.tm_terms.specs.declared.exprs.Expr.{Expr, Row_of-Expr, end_of-Expr, more_of-Expr, items-the_row-Expr, items_hidden-the_row-Expr-0}
use Rattle.tm_terms.specs.declared.exprs.Expr.TheBlock.{hidden-the_row-Expr-0}
use Rattle.tm_terms.specs.declared.exprs.Expr.TheVariants as Form
use Rattle.tm_terms.specs.ExprTrees.{a_call, and_argument, tree_of, arguments_of, as_arguments}

row_as_list : {m : _} (row : Row_of-Expr m) → arguments_of row ≡ as_arguments (items-the_row-Expr m row)
row_as_list end_of-Expr = refl
row_as_list (more_of-Expr e row) = ap (and_argument (tree_of e)) (row_as_list row)

pub tree_of-call : (f : Name) (items : Vec Expr Global) (p : Place) → tree_of (Form.Call f items p) ≡ a_call f (as_arguments items.items) p
tree_of-call f items p = ap (λ args. a_call f args p) (row_as_list (hidden-the_row-Expr-0 items) ∙ ap as_arguments (items_hidden-the_row-Expr-0 items))
