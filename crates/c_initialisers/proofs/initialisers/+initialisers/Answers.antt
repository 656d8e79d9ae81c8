use Rattle.std.proofs.Common.{◌≡◌, map, ap, sym, subst, ◌∙◌}
use Rattle.tm_trees.specs.declared.declarations.Value.TheVariants as Values
use Rattle.tm_trees.specs.DeclarationTrees.{ValueTree, a_list, value_tree, as_values}
use Rattle.tm_trees.proofs.Rows.{value_tree-list}
use Rattle.tm_typed.specs.TypedStatements.{given_tree}
use Rattle.tm_typed.specs.Initialisers.{given_behind, initial}
use Rattle.c_typing_state.specs.Steps.{StepsTo}
use Rattle.c_initialisers.proofs.initialisers.+initialisers.Goals as goal

pub push_value-returns-in-List : goal.push_value-returns-in-List
push_value-returns-in-List t c =
    let i = c.in-List in
    let is : c.args.value.now ≡ Values.List i.values i.place = i.is in
    let e = ap value_tree is ∙ value_tree-list i.values i.place ∙ ap (λ vs. a_list (as_values (map value_tree vs)) i.place) (sym c.deref.ensures.value) in
    subst (λ (v : ValueTree). StepsTo {A = Unit {0}} (λ u. map given_tree c.push_list.new.cells.items) c.push_list.new.state c.push_list.result
    (given_behind (map given_tree c.args.cells.now.items) (initial c.args.is_static c.args.state.now c.args.of c.args.cell v)))
    (sym e) c.push_list.ensures
