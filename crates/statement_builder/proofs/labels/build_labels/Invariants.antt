use Rattle.body_builder.specs.Fragments.{tree_in, so_far}
use Rattle.statement_builder.proofs.Tests.{tests_of, HasLabels}
use Rattle.statement_builder.proofs.labels.build_labels.Given as goal

-- the labels that are left, behind those that are tested
abbrev pub invariant-loop-part : goal.invariant-loop-part
invariant-loop-part l =
    HasLabels (tree_in l.here.laid.now) l.here.path l.value l.cases l.part-index l.nodes.items
    (so_far (tree_in l.here.laid.now) l.to)
    (tests_of (tree_in l.here.laid.now) l.here.path l.value l.cases (so_far (tree_in l.here.laid.now) l.initial.to))
