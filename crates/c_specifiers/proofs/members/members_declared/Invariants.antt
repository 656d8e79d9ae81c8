use Rattle.std.proofs.Common.{◌≡◌, drop, map}
use Rattle.tm_trees.specs.DeclarationTrees.{declarator_tree}
use Rattle.tm_typed.specs.Structures.{members_declared}
use Rattle.c_specifiers.proofs.members.members_declared.Given as goal

abbrev pub invariant-declarators : goal.invariant-declarators
invariant-declarators l = members_declared l.state l.layout l.of (map declarator_tree (drop l.declarator-index l.declarators)) ≡ members_declared l.initial.state l.initial.layout l.of (map declarator_tree l.declarators)
