use Rattle.std.proofs.Common.{◌≡◌, ◌++◌, map, refl, ap, sym, subst, ◌∙◌, arith}
use Rattle.std.specs.Prelude.{OnOk}
use Rattle.tm_terms.specs.ExprTrees.{tree_of}
use Rattle.tm_trees.specs.declared.statements.Statement.TheVariants as Statements
use Rattle.tm_trees.specs.FileTrees.{StatementTree, statement_tree, a_block, part_tree, as_parts, a_switch, case_tree, as_cases}
use Rattle.tm_trees.proofs.StatementNodes.{statement_tree-block, statement_tree-switch}
use Rattle.tm_laid.specs.Layouts.{laid_tree}
use Rattle.text_choices.specs.reading.Files.{statement_choices, part_choices, parts_choices, case_choices, cases_choices}
use Rattle.text_choices.proofs.Pieces.{piece_more, pieces_all}
use Rattle.text_choices.proofs.static_initialisers.+blocks.Goals as goal

pub push_statement-returns-in-Block : goal.push_statement-returns-in-Block
push_statement-returns-in-Block t c =
    let i = c.in-Block in
    let is : c.args.statement.now ≡ Statements.Block i.block = i.is in
    let e = ap statement_tree is ∙ statement_tree-block i.block ∙ ap (λ ps. a_block (as_parts (map part_tree ps))) (sym c.deref.ensures.value) in
    subst (λ (s : StatementTree). OnOk c.push_parts.result (c.push_parts.new.choices.items ≡ c.args.choices.now.items ++ statement_choices (laid_tree c.args.laid.now) s))
    (sym e) c.push_parts.ensures

pub push_statement-returns-in-Switch : goal.push_statement-returns-in-Switch
push_statement-returns-in-Switch t c =
    let i = c.in-Switch in
    let is : c.args.statement.now ≡ Statements.Switch i.value i.parts = i.is in
    let e = ap statement_tree is ∙ statement_tree-switch i.value i.parts ∙ ap (λ ps. a_switch (tree_of i.value) (as_cases (map case_tree ps))) (sym c.deref-in-Switch.ensures.value) in
    subst (λ (s : StatementTree). OnOk c.push_cases.result (c.push_cases.new.choices.items ≡ c.args.choices.now.items ++ statement_choices (laid_tree c.args.laid.now) s))
    (sym e) c.push_cases.ensures

pub push_parts-loop-part-preserved : goal.push_parts-loop-part-preserved
push_parts-loop-part-preserved t c =
    let laid = laid_tree c.args.laid.now in
    let parts = c.args.parts.now in
    piece_more (λ ps. parts_choices laid (as_parts (map part_tree ps))) (λ p. part_choices laid (part_tree p)) parts c.loop-part.part-index
    c.part-item.result c.loop-part.choices.items c.push_part.new.choices.items
    (c.args.choices.now.items ++ parts_choices laid (as_parts (map part_tree parts)))
    (λ _ _. refl) c.loop-part-test.true c.part-item.is c.in_ok-push_part.ensures c.loop-part.invariant

pub push_parts-returns : goal.push_parts-returns
push_parts-returns t c =
    let laid = laid_tree c.args.laid.now in
    let parts = c.args.parts.now in
    pieces_all (λ ps. parts_choices laid (as_parts (map part_tree ps))) (λ p. part_choices laid (part_tree p)) parts c.loop-part.part-index
    c.loop-part.choices.items (c.args.choices.now.items ++ parts_choices laid (as_parts (map part_tree parts)))
    refl (omega arith) c.loop-part.invariant

pub push_cases-loop-part-preserved : goal.push_cases-loop-part-preserved
push_cases-loop-part-preserved t c =
    let laid = laid_tree c.args.laid.now in
    let parts = c.args.parts.now in
    piece_more (λ ps. cases_choices laid (as_cases (map case_tree ps))) (λ p. case_choices laid (case_tree p)) parts c.loop-part.part-index
    c.part-item.result c.loop-part.choices.items c.push_case.new.choices.items
    (c.args.choices.now.items ++ cases_choices laid (as_cases (map case_tree parts)))
    (λ _ _. refl) c.loop-part-test.true c.part-item.is c.in_ok-push_case.ensures c.loop-part.invariant

pub push_cases-returns : goal.push_cases-returns
push_cases-returns t c =
    let laid = laid_tree c.args.laid.now in
    let parts = c.args.parts.now in
    pieces_all (λ ps. cases_choices laid (as_cases (map case_tree ps))) (λ p. case_choices laid (case_tree p)) parts c.loop-part.part-index
    c.loop-part.choices.items (c.args.choices.now.items ++ cases_choices laid (as_cases (map case_tree parts)))
    refl (omega arith) c.loop-part.invariant
