use Rattle.std.proofs.Common.{◌≡◌, drop, map}
use Rattle.tm_trees.specs.DeclarationTrees.{length_tree}
use Rattle.tm_typed.specs.Declarators.{lengths_behind}
use Rattle.c_specifiers.proofs.declarators.lengths_behind.Given as goal

abbrev pub invariant-lengths : goal.invariant-lengths
invariant-lengths l = lengths_behind l.state l.found.items (map length_tree (drop l.length-index l.lengths)) ≡ lengths_behind l.initial.state l.initial.found.items (map length_tree l.lengths)
