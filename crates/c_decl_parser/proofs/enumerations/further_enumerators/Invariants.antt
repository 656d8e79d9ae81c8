use Rattle.std.proofs.Common.{◌≡◌, ◌-◌, [], ◌∷◌, map}
use Rattle.tm_trees.specs.DeclarationTrees.{enumerator_tree}
use Rattle.c_decl_parser.specs.reading.Repetitions.{braced}
use Rattle.c_decl_parser.specs.reading.DeclarationDescent.{enumerator}
use Rattle.c_decl_parser.proofs.enumerations.further_enumerators.Given as goal

-- the rest of the reading gives what the whole gives
abbrev pub invariant-constants : goal.invariant-constants
invariant-constants l =
    braced (enumerator l.types l.allowed) (l.limit - l._i) (map enumerator_tree l.found.items) l.rest ≡ braced (enumerator l.types l.allowed) l.limit (enumerator_tree l.fn.first ∷ []) l.tokens
