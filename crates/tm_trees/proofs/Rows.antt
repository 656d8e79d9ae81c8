-- The trees of structures and of lists of values whose parts lie in vectors.
use Rattle.std.proofs.Common.{◌≡◌, map, Option, refl, sym, ap, ◌∙◌}
use Rattle.std.specs.declared.alloc.Global.{Global}
use Rattle.std.specs.declared.vec.Vec.{Vec}
use Rattle.tm_terms.specs.declared.places.Place.{Place}
use Rattle.tm_trees.specs.declared.declarations.Tag.{Tag}
use Rattle.tm_trees.specs.declared.declarations.Member.{Member}
use Rattle.tm_trees.specs.declared.declarations.Specifier.{Specifier, Row_of-Specifier, end_of-Specifier, more_of-Specifier, items-the_row-Specifier, items_shown-the_row-Specifier-0, Row_of-Member, end_of-Member, more_of-Member, items-the_row-Member, items_hidden-the_row-Member-1}
use Rattle.tm_trees.specs.declared.declarations.Specifier.TheBlock.{hidden-the_row-Member-1, shown-the_row-Specifier-0}
use Rattle.tm_trees.specs.declared.declarations.Specifier.TheVariants as Specifiers
use Rattle.tm_trees.specs.declared.declarations.Value.{Value, Row_of-Value, end_of-Value, more_of-Value, items-the_row-Value, items_hidden-the_row-Value-0}
use Rattle.tm_trees.specs.declared.declarations.Value.TheBlock.{hidden-the_row-Value-0}
use Rattle.tm_trees.specs.declared.declarations.Value.TheVariants as Values
use Rattle.tm_trees.specs.DeclarationTrees.{and_specifier, a_struct, and_members, and_value, a_list, as_specifiers, as_members, as_values, specifier_tree, specifiers_of, members_of, declarator_tree, member_tree, value_tree, values_of}

specifiers_as_list : {m : _} (row : Row_of-Specifier m) → specifiers_of row ≡ as_specifiers (map specifier_tree (items-the_row-Specifier m row))
specifiers_as_list end_of-Specifier = refl
specifiers_as_list (more_of-Specifier s row) = ap (and_specifier (specifier_tree s)) (specifiers_as_list row)

members_as_list : {m : _} (row : Row_of-Member m) → members_of row ≡ as_members (map member_tree (items-the_row-Member m row))
members_as_list end_of-Member = refl
members_as_list (more_of-Member shape specifiers declarators row) =
    ap (λ s. and_members s (map declarator_tree declarators.items) (members_of row)) (specifiers_as_list specifiers ∙ ap (λ items. as_specifiers (map specifier_tree items)) (sym (items_shown-the_row-Specifier-0 shape specifiers)))
    ∙ ap (and_members (as_specifiers (map specifier_tree (shown-the_row-Specifier-0 shape specifiers).items)) (map declarator_tree declarators.items)) (members_as_list row)

pub specifier_tree-struct : (tag : Option Tag) (members : Vec Member Global) (p : Place) → specifier_tree (Specifiers.Struct tag members p) ≡ a_struct tag (as_members (map member_tree members.items)) p
specifier_tree-struct tag members p =
    ap (λ row. a_struct tag row p) (members_as_list (hidden-the_row-Member-1 members) ∙ ap (λ items. as_members (map member_tree items)) (items_hidden-the_row-Member-1 members))

values_as_list : {m : _} (row : Row_of-Value m) → values_of row ≡ as_values (map value_tree (items-the_row-Value m row))
values_as_list end_of-Value = refl
values_as_list (more_of-Value v row) = ap (and_value (value_tree v)) (values_as_list row)

pub value_tree-list : (values : Vec Value Global) (p : Place) → value_tree (Values.List values p) ≡ a_list (as_values (map value_tree values.items)) p
value_tree-list values p =
    ap (λ row. a_list row p) (values_as_list (hidden-the_row-Value-0 values) ∙ ap (λ items. as_values (map value_tree items)) (items_hidden-the_row-Value-0 values))
