use Rattle.std.proofs.Common.{◌≡◌, drop, map}
use Rattle.tm_trees.specs.DeclarationTrees.{specifier_tree, member_tree, as_specifiers, as_members}
use Rattle.tm_typed.specs.Structures.{specifiers, laid_out}
use Rattle.c_specifiers.proofs.specifiers.+specifiers.Given as goal

abbrev pub invariant-laid_out-members : goal.invariant-laid_out-members
invariant-laid_out-members l = laid_out l.state l.layout (as_members (map member_tree (drop l.member-index l.members))) ≡ laid_out l.initial.state l.initial.layout (as_members (map member_tree l.members))

abbrev pub invariant-specifiers_behind-specifiers : goal.invariant-specifiers_behind-specifiers
invariant-specifiers_behind-specifiers l = specifiers l.state l.found (as_specifiers (map specifier_tree (drop l.each-index l.listed))) ≡ specifiers l.initial.state l.initial.found (as_specifiers (map specifier_tree l.listed))
