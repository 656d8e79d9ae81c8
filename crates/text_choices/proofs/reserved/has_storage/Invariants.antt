use Rattle.std.proofs.Common.{◌≡◌, drop}
use Rattle.tm_trees.specs.DeclarationTrees.{specifier_trees}
use Rattle.text_choices.specs.Texts.{has_storage}
use Rattle.text_choices.proofs.reserved.has_storage.Given as goal

abbrev pub invariant-loop-specifier : goal.invariant-loop-specifier
invariant-loop-specifier l =
    has_storage l.wanted (specifier_trees l.specifiers) ≡ has_storage l.wanted (specifier_trees (drop l.specifier-index l.specifiers))
