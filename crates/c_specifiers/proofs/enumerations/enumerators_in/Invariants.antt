use Rattle.std.proofs.Common.{◌≡◌, drop, map}
use Rattle.std.specs.Prelude.{pos}
use Rattle.tm_trees.specs.DeclarationTrees.{enumerator_tree}
use Rattle.tm_typed.specs.Structures.{enumerators}
use Rattle.c_specifiers.proofs.enumerations.enumerators_in.Given as goal

abbrev pub invariant-enumerators : goal.invariant-enumerators
invariant-enumerators l = enumerators l.state l.next (map enumerator_tree (drop l.enumerator-index l.listed)) ≡ enumerators l.initial.state (pos 0) (map enumerator_tree l.listed)
