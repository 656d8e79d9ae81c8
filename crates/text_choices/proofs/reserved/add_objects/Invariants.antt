use Rattle.std.proofs.Common.{◌≡◌, ◌++◌, map, take}
use Rattle.tm_trees.specs.DeclarationTrees.{init_declarator_tree}
use Rattle.text_choices.specs.Texts.{objects_of}
use Rattle.text_choices.specs.reading.Declared.{declared_of}
use Rattle.text_choices.proofs.reserved.add_objects.Given as goal

abbrev pub invariant-loop-one : goal.invariant-loop-one
invariant-loop-one l =
    map declared_of l.found.items ≡ map declared_of l.initial.found.items ++ objects_of l.internal (map init_declarator_tree (take l.one-index l.declarators))
