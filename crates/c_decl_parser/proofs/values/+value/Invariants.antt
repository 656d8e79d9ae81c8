use Rattle.std.proofs.Common.{◌≡◌, ◌+◌, ◌-◌, ◌*◌, [], ◌∷◌, map}
use Rattle.tm_trees.specs.DeclarationTrees.{value_tree}
use Rattle.c_decl_parser.specs.reading.Repetitions.{braced}
use Rattle.c_decl_parser.specs.reading.DeclarationDescent.{value}
use Rattle.c_decl_parser.proofs.values.+value.Given as goal

abbrev pub decreases-value : goal.decreases-value
decreases-value l = 4 * l.allowed

abbrev pub decreases-list_value : goal.decreases-list_value
decreases-list_value l = 4 * l.allowed + 3

abbrev pub decreases-values : goal.decreases-values
decreases-values l = 4 * l.allowed + 2

abbrev pub decreases-further_values : goal.decreases-further_values
decreases-further_values l = 4 * l.allowed + 1

-- the rest of the reading gives what the whole gives
abbrev pub invariant-further_values-values : goal.invariant-further_values-values
invariant-further_values-values l =
    braced (value l.types l.allowed) (l.limit - l._i) (map value_tree l.found.items) l.rest ≡ braced (value l.types l.allowed) l.limit (value_tree l.fn.first ∷ []) l.tokens
