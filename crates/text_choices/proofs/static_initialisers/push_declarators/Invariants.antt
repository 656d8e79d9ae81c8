use Rattle.std.proofs.Common.{◌≡◌, ◌++◌, drop, map}
use Rattle.tm_trees.specs.DeclarationTrees.{init_declarator_tree}
use Rattle.tm_laid.specs.Layouts.{laid_tree}
use Rattle.text_choices.specs.reading.Files.{declarators_choices}
use Rattle.text_choices.proofs.static_initialisers.push_declarators.Given as goal

-- the choices so far, and those of what is left
abbrev pub invariant-loop-one : goal.invariant-loop-one
invariant-loop-one l =
    l.choices.items ++ declarators_choices (laid_tree l.laid) (map init_declarator_tree (drop l.one-index l.declarators))
    ≡ l.initial.choices.items ++ declarators_choices (laid_tree l.laid) (map init_declarator_tree l.declarators)
