use Rattle.std.proofs.Common.{◌≡◌, ◌-◌, [], ◌∷◌, map}
use Rattle.tm_trees.specs.DeclarationTrees.{init_declarator_tree}
use Rattle.c_decl_parser.specs.reading.DeclarationDescent.{typedefs_from}
use Rattle.c_decl_parser.proofs.declarations.further_typedefs.Given as goal

-- the rest of the reading gives what the whole gives
abbrev pub invariant-typedefs : goal.invariant-typedefs
invariant-typedefs l =
    typedefs_from l.allowed (l.limit - l._i) l.types (map init_declarator_tree l.found.items) l.rest ≡ typedefs_from l.allowed l.limit l.fn.types (init_declarator_tree l.fn.first ∷ []) l.tokens
