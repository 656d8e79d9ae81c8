use Rattle.std.proofs.Common.{◌≡◌, drop}
use Rattle.tm_typed.specs.TypedStatements.{as_typed_trees, as_typed_cases}
use Rattle.body_builder.specs.Fragments.{tree_in}
use Rattle.statement_builder.specs.reading.Statements.{reached, onward_of, statements_at, cases_at}
use Rattle.statement_builder.proofs.statements.+statement.Given as goal

-- the statements that are left, behind those that are built
abbrev pub invariant-build_block-loop-statement : goal.invariant-build_block-loop-statement
invariant-build_block-loop-statement l =
    statements_at (tree_in l.here.laid.now) l.here.depth l.here.path
    (as_typed_trees (drop l.statement-index l.statements)) (onward_of l.onward)
    (reached (tree_in l.here.laid.now) l.to l.passed)
    ≡ statements_at (tree_in l.here.laid.now) l.here.depth l.here.path (as_typed_trees l.statements)
    (onward_of l.onward) (reached (tree_in l.here.laid.now) l.initial.to l.initial.passed)

-- the parts that are left, with the labels that are left
abbrev pub invariant-build_parts-loop-part : goal.invariant-build_parts-loop-part
invariant-build_parts-loop-part l =
    cases_at (tree_in l.here.laid.now) l.here.depth l.here.path (as_typed_cases (drop l.part-index l.parts)) l.left
    l.node (onward_of l.onward) (reached (tree_in l.here.laid.now) l.to l.passed)
    ≡ cases_at (tree_in l.here.laid.now) l.here.depth l.here.path (as_typed_cases l.parts) l.initial.left l.node
    (onward_of l.onward) (reached (tree_in l.here.laid.now) l.initial.to l.initial.passed)
