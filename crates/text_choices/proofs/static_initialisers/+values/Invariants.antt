use Rattle.std.proofs.Common.{◌≡◌, ◌++◌, drop, map}
use Rattle.tm_trees.specs.DeclarationTrees.{value_tree, as_values}
use Rattle.tm_laid.specs.Layouts.{laid_tree}
use Rattle.text_choices.specs.reading.Files.{values_choices}
use Rattle.text_choices.proofs.static_initialisers.+values.Given as goal

-- the choices so far, and those of the values that are left
abbrev pub invariant-push_values-loop-value : goal.invariant-push_values-loop-value
invariant-push_values-loop-value l =
    l.choices.items ++ values_choices (laid_tree l.laid) l.given (as_values (map value_tree (drop l.value-index l.values)))
    ≡ l.initial.choices.items ++ values_choices (laid_tree l.laid) l.given (as_values (map value_tree l.values))
