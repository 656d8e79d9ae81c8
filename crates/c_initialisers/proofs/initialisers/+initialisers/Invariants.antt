use Rattle.std.proofs.Common.{◌≡◌, drop, map}
use Rattle.tm_trees.specs.DeclarationTrees.{value_tree, as_values}
use Rattle.tm_typed.specs.TypedStatements.{given_tree}
use Rattle.tm_typed.specs.Initialisers.{given_behind, initials}
use Rattle.c_initialisers.proofs.initialisers.+initialisers.Given as goal

-- the values that are left give, behind what is given, what all give
abbrev pub invariant-push_values-values : goal.invariant-push_values-values
invariant-push_values-values l =
    given_behind (map given_tree l.cells.items) (initials l.is_static l.state l.of l.cell l.index (as_values (map value_tree (drop l.index l.values))) l.place)
    ≡ given_behind (map given_tree l.initial.cells.items) (initials l.is_static l.initial.state l.of l.cell 0 (as_values (map value_tree l.values)) l.place)
