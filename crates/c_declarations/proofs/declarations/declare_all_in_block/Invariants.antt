use Rattle.std.proofs.Common.{◌≡◌, drop, map, []}
use Rattle.tm_trees.specs.DeclarationTrees.{init_declarator_tree}
use Rattle.tm_typed.specs.TypedStatements.{local_tree}
use Rattle.tm_typed.specs.Declarations.{local_declared}
use Rattle.c_declarations.proofs.declarations.declare_all_in_block.Given as goal

-- the declarators that are left give what all give
abbrev pub invariant-declarators : goal.invariant-declarators
invariant-declarators l =
    local_declared l.state l.said (map local_tree l.locals.items) (map init_declarator_tree (drop l.declarator-index l.declarators))
    ≡ local_declared l.initial.state l.said [] (map init_declarator_tree l.declarators)
