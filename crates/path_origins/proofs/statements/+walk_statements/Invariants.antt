use Rattle.std.proofs.Common.{drop}
use Rattle.tm_typed.specs.TypedStatements.{as_typed_trees, as_typed_cases}
use Rattle.tm_laid.specs.Layouts.{laid_tree}
use Rattle.path_origins.specs.Opens.{is_among}
use Rattle.path_origins.specs.Shown.{sizes_in}
use Rattle.path_origins.specs.Statements.{statements, cases}
use Rattle.path_origins.proofs.Leaving.{IsLeftYet}
use Rattle.path_origins.proofs.statements.+walk_statements.Given as goal

-- the statements that are left, behind those that are walked
abbrev pub invariant-walk_statements-loop-one : goal.invariant-walk_statements-loop-one
invariant-walk_statements-loop-one l =
    IsLeftYet l.initial.to l.to l.initial.ways l.ways
    (statements (laid_tree l.here.laid.now) (is_among l.here.opens.now) (sizes_in l.here.sizes.now) l.here.path
    l.to_head (as_typed_trees (drop l.one-index l.list)))
    (statements (laid_tree l.here.laid.now) (is_among l.here.opens.now) (sizes_in l.here.sizes.now) l.here.path
    l.to_head (as_typed_trees l.list))

-- the parts that are left, behind those that are walked
abbrev pub invariant-walk_parts-loop-part : goal.invariant-walk_parts-loop-part
invariant-walk_parts-loop-part l =
    IsLeftYet l.initial.to l.to l.initial.ways l.ways
    (cases (laid_tree l.here.laid.now) (is_among l.here.opens.now) (sizes_in l.here.sizes.now) l.here.path
    l.to_head (as_typed_cases (drop l.part-index l.parts)))
    (cases (laid_tree l.here.laid.now) (is_among l.here.opens.now) (sizes_in l.here.sizes.now) l.here.path
    l.to_head (as_typed_cases l.parts))
