use Rattle.std.proofs.Common.{◌≡◌, drop, map}
use Rattle.tm_trees.specs.FileTrees.{part_tree, as_parts, case_tree, as_cases}
use Rattle.tm_typed.specs.StatementRules.{no_labels}
use Rattle.tm_typed.specs.StatementTyping.{parts_in, cases_in}
use Rattle.c_statements.specs.Views.{around_of}
use Rattle.c_statements.proofs.Behind.{behind, cases_behind}
use Rattle.c_statements.proofs.statements.+statement.Given as goal

-- what is left, behind what is typed, gives what the whole gives
abbrev pub invariant-cases-cases : goal.invariant-cases-cases
invariant-cases-cases l =
    cases_behind l.typed.items (cases_in l.state (around_of l.around) l.of l.labels (as_cases (map case_tree (drop l.part-index l.parts))))
    ≡ cases_in l.initial.state (around_of l.around) l.of no_labels (as_cases (map case_tree l.parts))

abbrev pub invariant-parts-parts : goal.invariant-parts-parts
invariant-parts-parts l =
    behind l.typed.items (parts_in l.state (around_of l.around) (as_parts (map part_tree (drop l.one-index l.parts))))
    ≡ parts_in l.initial.state (around_of l.around) (as_parts (map part_tree l.parts))
