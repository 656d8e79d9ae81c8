use Rattle.std.proofs.Common.{◌≡◌, drop, map}
use Rattle.tm_trees.specs.DeclarationTrees.{init_declarator_tree}
use Rattle.tm_typed.specs.Declarations.{file_declared}
use Rattle.c_declarations.proofs.declarations.declare_all_in_file.Given as goal

-- the declarators that are left give what all give
abbrev pub invariant-declarators : goal.invariant-declarators
invariant-declarators l = file_declared l.state l.said (map init_declarator_tree (drop l.declarator-index l.declarators)) ≡ file_declared l.initial.state l.said (map init_declarator_tree l.declarators)
