use Rattle.std.proofs.Common.{◌≡◌, ◌++◌, drop, map}
use Rattle.tm_trees.specs.FileTrees.{part_tree, as_parts, case_tree, as_cases}
use Rattle.tm_laid.specs.Layouts.{laid_tree}
use Rattle.text_choices.specs.reading.Files.{parts_choices, cases_choices}
use Rattle.text_choices.proofs.static_initialisers.+blocks.Given as goal

-- the choices so far, and those of the parts that are left
abbrev pub invariant-push_parts-loop-part : goal.invariant-push_parts-loop-part
invariant-push_parts-loop-part l =
    l.choices.items ++ parts_choices (laid_tree l.laid) (as_parts (map part_tree (drop l.part-index l.parts)))
    ≡ l.initial.choices.items ++ parts_choices (laid_tree l.laid) (as_parts (map part_tree l.parts))

abbrev pub invariant-push_cases-loop-part : goal.invariant-push_cases-loop-part
invariant-push_cases-loop-part l =
    l.choices.items ++ cases_choices (laid_tree l.laid) (as_cases (map case_tree (drop l.part-index l.parts)))
    ≡ l.initial.choices.items ++ cases_choices (laid_tree l.laid) (as_cases (map case_tree l.parts))
