use Rattle.std.proofs.Common.{◌≡◌, List, ap, sym, subst, ◌∙◌, arith}
use Rattle.std.specs.Prelude.{OnOk}
use Rattle.tm_typed.specs.declared.statements.TypedSwitchPart.{TypedSwitchPart}
use Rattle.tm_typed.specs.declared.statements.TypedStatement.TheVariants as Typed
use Rattle.tm_typed.specs.TypedTrees.{rvalue_tree}
use Rattle.tm_typed.specs.TypedStatements.{TypedTree, typed_tree, as_typed_cases}
use Rattle.tm_typed.proofs.TypedStatementTrees.{typed_tree-switch}
use Rattle.body_builder.specs.lowering.Built as Built
use Rattle.body_builder.specs.Fragments.{tree_in}
use Rattle.statement_builder.specs.reading.Statements.{reached, waits, onward_of, statement_at}
use Rattle.statement_builder.proofs.Rows.{switch_built, block_more, block_last, parts_more, parts_last}
use Rattle.statement_builder.proofs.statements.+statement.Goals as goal

pub build_enclosing-returns-in_ok-build_parts-in-Switch : goal.build_enclosing-returns-in_ok-build_parts-in-Switch
build_enclosing-returns-in_ok-build_parts-in-Switch t c =
    let w = c.in-Switch in
    let laid = tree_in c.args.here.now.laid.now in
    let depth = c.args.here.now.depth in
    let path = c.args.here.now.path in
    let onward = onward_of c.args.onward in
    let s = reached laid c.args.to.now c.args.passed.now in
    let is : c.args.statement.now ≡ Typed.Switch w.works_in w.rvalue w.parts = w.is in
    let tree = ap typed_tree is ∙ typed_tree-switch w.works_in w.rvalue w.parts in
    let cases = λ (xs : List TypedSwitchPart). as_typed_cases xs in
    let found = c.in_ok-within-in-Switch.field-0 in
    let built = switch_built laid depth path w.works_in (rvalue_tree w.rvalue.value)
    (rvalue_tree c.deref-in-Switch.result.now) (as_typed_cases w.parts.items)
    (as_typed_cases c.deref-in-Switch-2.result.now) (as_typed_cases c.deref-in-Switch-3.result.now) onward s
    (reached laid c.begin_select.new.to found.within)
    (reached laid c.build_parts.new.to c.build_parts.new.passed) (waits c.args.passed.now)
    c.deref-in-Switch-4.result.now found (ap rvalue_tree c.deref-in-Switch.ensures)
    (ap cases c.deref-in-Switch-2.ensures.value) (ap cases c.deref-in-Switch-3.ensures.value)
    c.deref-in-Switch-4.ensures.value c.begin_select.ensures.outside c.in_ok-within-in-Switch.ensures.selected
    c.in_ok-build_parts-in-Switch.ensures in
    let all = built ∙ sym (ap (λ (u : TypedTree). statement_at laid depth path u onward s) tree) in
    subst (λ (z : Built.Passed). OnOk c.end_select.result
    (reached laid c.end_select.new.to c.end_select.new.passed ≡ z)) all c.end_select.ensures

pub build_block-loop-statement-preserved : goal.build_block-loop-statement-preserved
build_block-loop-statement-preserved t c =
    let laid = tree_in c.args.here.now.laid.now in
    block_more laid c.args.here.now.depth c.args.here.now.path c.args.statements.now c.loop-statement.statement-index
    c.statement-item.result (onward_of c.args.onward) (reached laid c.loop-statement.to c.loop-statement.passed)
    (reached laid c.build_statement.new.to c.build_statement.new.passed) _ (omega arith) c.statement-item.is
    c.in_ok-build_statement.ensures c.loop-statement.invariant

pub build_block-returns : goal.build_block-returns
build_block-returns t c =
    let laid = tree_in c.args.here.now.laid.now in
    block_last laid c.args.here.now.depth c.args.here.now.path c.args.statements.now c.loop-statement.statement-index
    (onward_of c.args.onward) (reached laid c.loop-statement.to c.loop-statement.passed) _ (omega arith)
    c.loop-statement.invariant

pub build_parts-loop-part-preserved : goal.build_parts-loop-part-preserved
build_parts-loop-part-preserved t c =
    let laid = tree_in c.args.here.now.laid.now in
    parts_more laid c.args.here.now.depth c.args.here.now.path c.args.parts.now c.loop-part.part-index
    c.part-item.result c.loop-part.left.now c.labels_left-left.result.now c.args.node (onward_of c.args.onward)
    (reached laid c.loop-part.to c.loop-part.passed) (reached laid c.build_part.new.to c.build_part.new.passed) _
    (omega arith) c.part-item.is c.in_ok-build_part.ensures c.labels_left-left.ensures c.loop-part.invariant

pub build_parts-returns : goal.build_parts-returns
build_parts-returns t c =
    let laid = tree_in c.args.here.now.laid.now in
    parts_last laid c.args.here.now.depth c.args.here.now.path c.args.parts.now c.loop-part.part-index c.loop-part.left.now
    c.args.node (onward_of c.args.onward) (reached laid c.loop-part.to c.loop-part.passed) _ (omega arith)
    c.loop-part.invariant
