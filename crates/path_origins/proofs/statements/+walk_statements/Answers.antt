-- Statements and parts of a `switch`, as they are walked.
use Rattle.std.proofs.Common.{◌≡◌, ◌+◌, List, length, drop, refl, ap, sym, subst, ◌∙◌, arith}
use Rattle.tm_typed.specs.declared.expressions.Rvalue.{Rvalue}
use Rattle.tm_typed.specs.declared.statements.TypedStatement.{TypedStatement}
use Rattle.tm_typed.specs.declared.statements.TypedStatement.TheVariants as Typed
use Rattle.tm_typed.specs.declared.statements.TypedSwitchPart.{TypedSwitchPart}
use Rattle.tm_typed.specs.declared.statements.TypedSwitchPart.TheVariants as Parts
use Rattle.tm_typed.specs.TypedTrees.{rvalue_tree}
use Rattle.tm_typed.specs.TypedStatements.{typed_tree, as_typed_trees, typed_case, as_typed_cases}
use Rattle.tm_typed.specs.TypedStatements.{optional_rvalue_tree, branches, branches_else, loops_while, loops_do}
use Rattle.tm_typed.specs.TypedStatements.{loops_for}
use Rattle.tm_typed.specs.TypedStatements.{selects}
use Rattle.tm_typed.proofs.TypedStatementTrees.{typed_tree-switch}
use Rattle.tm_laid.specs.Layouts.{laid_tree}
use Rattle.path_origins.specs.declared.origins.Form.TheVariants as Forms
use Rattle.path_origins.specs.Noted.{one}
use Rattle.path_origins.specs.Opens.{is_among}
use Rattle.path_origins.specs.Shown.{sizes_in}
use Rattle.path_origins.specs.reading.Walks.{IsBehind, IsLeftBehind}
use Rattle.path_origins.specs.reading.Leaving.{labels_noted, is_default_among, inside_of, chosen_in}
use Rattle.path_origins.specs.Statements.{nowhere, statement, statements, case_of, cases, effect_of}
use Rattle.path_origins.proofs.Leaving.{left_first, left_more, left_last, statements_more, statements_last, cases_more}
use Rattle.path_origins.proofs.Leaving.{cases_last}
use Rattle.path_origins.proofs.Arms.{goes, declares_left, breaks_left, returns_left, continues_left, block_walked}
use Rattle.path_origins.proofs.Arms.{if_walked, if_else_walked, while_walked, do_walked, for_walked, switch_walked}
use Rattle.path_origins.proofs.Arms.{label_walked, part_walked}
use Rattle.path_origins.proofs.statements.+walk_statements.Goals as goal

pub walk_statements-loop-one-init : goal.walk_statements-loop-one-init
walk_statements-loop-one-init t c =
    let laid = laid_tree c.args.here.now.laid.now in
    let is_open = is_among c.args.here.now.opens.now in
    let sizes = sizes_in c.args.here.now.sizes.now in
    let path = c.args.here.now.path in
    left_first c.args.to.now c.args.ways.now (statements laid is_open sizes path c.args.to_head (as_typed_trees
    c.args.list.now))

pub walk_statements-loop-one-preserved : goal.walk_statements-loop-one-preserved
walk_statements-loop-one-preserved t c =
    let laid = laid_tree c.args.here.now.laid.now in
    let is_open = is_among c.args.here.now.opens.now in
    let sizes = sizes_in c.args.here.now.sizes.now in
    let path = c.args.here.now.path in
    let xs = c.args.list.now in
    let i = c.loop-one.one-index in
    let head = c.args.to_head in
    left_more c.args.to.now c.loop-one.to c.walk_statement.new.to c.args.ways.now c.loop-one.ways
    c.walk_statement.new.ways
    (statements laid is_open sizes path head (as_typed_trees (drop i xs))) (statements laid is_open sizes path head
    (as_typed_trees xs))
    (statement laid is_open sizes path head (typed_tree c.one-item.result)) (statements laid is_open sizes path head
    (as_typed_trees (drop (i + 1) xs)))
    (statements_more laid is_open sizes path head xs i c.one-item.result c.loop-one-test.true c.one-item.is)
    c.in_ok-walk_statement.ensures c.loop-one.invariant

pub walk_statements-returns : goal.walk_statements-returns
walk_statements-returns t c =
    let laid = laid_tree c.args.here.now.laid.now in
    let is_open = is_among c.args.here.now.opens.now in
    let sizes = sizes_in c.args.here.now.sizes.now in
    let path = c.args.here.now.path in
    let xs = c.args.list.now in
    let i = c.loop-one.one-index in
    let head = c.args.to_head in
    left_last c.args.to.now c.loop-one.to c.args.ways.now c.loop-one.ways
    (statements laid is_open sizes path head (as_typed_trees (drop i xs))) (statements laid is_open sizes path head
    (as_typed_trees xs))
    (statements_last laid is_open sizes path head xs i c.loop-one-test.false) c.loop-one.invariant

pub walk_parts-loop-part-init : goal.walk_parts-loop-part-init
walk_parts-loop-part-init t c =
    let laid = laid_tree c.args.here.now.laid.now in
    let is_open = is_among c.args.here.now.opens.now in
    let sizes = sizes_in c.args.here.now.sizes.now in
    let path = c.args.here.now.path in
    left_first c.args.to.now c.args.ways.now (cases laid is_open sizes path c.args.to_head (as_typed_cases
    c.args.parts.now))

pub walk_parts-loop-part-preserved : goal.walk_parts-loop-part-preserved
walk_parts-loop-part-preserved t c =
    let laid = laid_tree c.args.here.now.laid.now in
    let is_open = is_among c.args.here.now.opens.now in
    let sizes = sizes_in c.args.here.now.sizes.now in
    let path = c.args.here.now.path in
    let xs = c.args.parts.now in
    let i = c.loop-part.part-index in
    let head = c.args.to_head in
    left_more c.args.to.now c.loop-part.to c.walk_part.new.to c.args.ways.now c.loop-part.ways c.walk_part.new.ways
    (cases laid is_open sizes path head (as_typed_cases (drop i xs))) (cases laid is_open sizes path head
    (as_typed_cases xs))
    (case_of laid is_open sizes path head (typed_case c.part-item.result)) (cases laid is_open sizes path head
    (as_typed_cases (drop (i + 1) xs)))
    (cases_more laid is_open sizes path head xs i c.part-item.result c.loop-part-test.true c.part-item.is)
    c.in_ok-walk_part.ensures c.loop-part.invariant

pub walk_parts-returns : goal.walk_parts-returns
walk_parts-returns t c =
    let laid = laid_tree c.args.here.now.laid.now in
    let is_open = is_among c.args.here.now.opens.now in
    let sizes = sizes_in c.args.here.now.sizes.now in
    let path = c.args.here.now.path in
    let xs = c.args.parts.now in
    let i = c.loop-part.part-index in
    let head = c.args.to_head in
    left_last c.args.to.now c.loop-part.to c.args.ways.now c.loop-part.ways
    (cases laid is_open sizes path head (as_typed_cases (drop i xs))) (cases laid is_open sizes path head
    (as_typed_cases xs))
    (cases_last laid is_open sizes path head xs i c.loop-part-test.false) c.loop-part.invariant

pub walk_part-returns-in-Case : goal.walk_part-returns-in-Case
walk_part-returns-in-Case t c =
    let laid = laid_tree c.args.here.now.laid.now in
    let is_open = is_among c.args.here.now.opens.now in
    let sizes = sizes_in c.args.here.now.sizes.now in
    let path = c.args.here.now.path in
    label_walked laid is_open sizes path c.args.to_head c.args.part.now (Parts.Case c.in-Case.label c.in-Case.place)
    c.in-Case.place
    c.note_skips.result c.args.to.now c.note_skips.new.to c.args.ways.now c.in-Case.is refl c.note_skips.ensures

pub walk_part-returns-in-Default : goal.walk_part-returns-in-Default
walk_part-returns-in-Default t c =
    let laid = laid_tree c.args.here.now.laid.now in
    let is_open = is_among c.args.here.now.opens.now in
    let sizes = sizes_in c.args.here.now.sizes.now in
    let path = c.args.here.now.path in
    label_walked laid is_open sizes path c.args.to_head c.args.part.now (Parts.Default c.in-Default.place)
    c.in-Default.place
    c.note_skips-in-Default.result c.args.to.now c.note_skips-in-Default.new.to c.args.ways.now c.in-Default.is refl
    c.note_skips-in-Default.ensures

pub walk_part-returns-in-Statement : goal.walk_part-returns-in-Statement
walk_part-returns-in-Statement t c =
    let laid = laid_tree c.args.here.now.laid.now in
    let is_open = is_among c.args.here.now.opens.now in
    let sizes = sizes_in c.args.here.now.sizes.now in
    let path = c.args.here.now.path in
    part_walked laid is_open sizes path c.args.to_head c.args.part.now c.in-Statement.statement c.walk_statement.result
    c.args.to.now c.walk_statement.new.to c.args.ways.now c.walk_statement.new.ways c.in-Statement.is
    c.walk_statement.ensures

pub walk_statement-returns-in-Evaluate : goal.walk_statement-returns-in-Evaluate
walk_statement-returns-in-Evaluate t c =
    let laid = laid_tree c.args.here.now.laid.now in
    let is_open = is_among c.args.here.now.opens.now in
    let sizes = sizes_in c.args.here.now.sizes.now in
    let path = c.args.here.now.path in
    goes laid is_open sizes path c.args.to_head c.args.typed.now (Typed.Evaluate c.in-Evaluate.rvalue)
    (effect_of laid is_open sizes path (optional_rvalue_tree c.in-Evaluate.rvalue)) c.walk_effect.result c.args.to.now
    c.walk_effect.new.to c.args.ways.now c.in-Evaluate.is refl c.walk_effect.ensures

pub walk_statement-returns-in-Declare : goal.walk_statement-returns-in-Declare
walk_statement-returns-in-Declare t c =
    let laid = laid_tree c.args.here.now.laid.now in
    let is_open = is_among c.args.here.now.opens.now in
    let sizes = sizes_in c.args.here.now.sizes.now in
    let path = c.args.here.now.path in
    declares_left laid is_open sizes path c.args.to_head c.args.typed.now c.in-Declare.locals c.deref.result.now
    c.walk_locals.result
    c.args.to.now c.walk_locals.new.to c.args.ways.now c.in-Declare.is c.deref.ensures.value c.walk_locals.ensures

pub walk_statement-returns-in_ok-walk_statements-in-Block : goal.walk_statement-returns-in_ok-walk_statements-in-Block
walk_statement-returns-in_ok-walk_statements-in-Block t c =
    let laid = laid_tree c.args.here.now.laid.now in
    let is_open = is_among c.args.here.now.opens.now in
    let sizes = sizes_in c.args.here.now.sizes.now in
    let path = c.args.here.now.path in
    let outer : c.len-outer.result ≡ length c.args.to.now.unended.items =
    omega (arith, c.len-outer.ensures, c.args.to.now.unended.ok.0) in
    block_walked laid is_open sizes path c.args.to_head c.args.typed.now c.in-Block.statements
    c.deref-in-Block.result.now
    c.len-outer.result c.end_scopes.result c.args.to.now c.walk_statements.new.to c.end_scopes.new.to c.args.ways.now
    c.walk_statements.new.ways c.in-Block.is c.deref-in-Block.ensures.value outer
    c.in_ok-walk_statements-in-Block.ensures
    c.end_scopes.ensures

pub walk_statement-returns-in_ok-walk_statement-in-None : goal.walk_statement-returns-in_ok-walk_statement-in-None
walk_statement-returns-in_ok-walk_statement-in-None t c =
    let laid = laid_tree c.args.here.now.laid.now in
    let is_open = is_among c.args.here.now.opens.now in
    let sizes = sizes_in c.args.here.now.sizes.now in
    let path = c.args.here.now.path in
    let i = c.in-If in
    let e = c.deref-in-None.result.now in
    let s = c.deref-in-None-2.result.now in
    let is : c.args.typed.now ≡ Typed.If i.condition i.first i.second = i.is in
    let tree : typed_tree c.args.typed.now ≡ branches (rvalue_tree e) (typed_tree s) =
    ap typed_tree (is ∙ ap (λ z. Typed.If i.condition i.first z) c.in-None.is)
    ∙ (ap (λ (x : Rvalue). branches (rvalue_tree x) (typed_tree i.first.value)) (sym c.deref-in-None.ensures)
    ∙ ap (λ (y : TypedStatement). branches (rvalue_tree e) (typed_tree y)) (sym c.deref-in-None-2.ensures)) in
    if_walked laid is_open sizes path c.args.to_head c.args.typed.now e s c.note_skips.result c.args.to.now
    c.walk_full.new.to
    c.walk_statement.new.to c.note_skips.new.to c.args.ways.now c.walk_statement.new.ways tree
    c.in_ok-walk_full-in-None.ensures c.in_ok-walk_statement-in-None.ensures c.note_skips.ensures

pub walk_statement-returns-in_ok-walk_statement-in-Some-2 : goal.walk_statement-returns-in_ok-walk_statement-in-Some-2
walk_statement-returns-in_ok-walk_statement-in-Some-2 t c =
    let laid = laid_tree c.args.here.now.laid.now in
    let is_open = is_among c.args.here.now.opens.now in
    let sizes = sizes_in c.args.here.now.sizes.now in
    let path = c.args.here.now.path in
    let i = c.in-If in
    let e = c.deref-in-Some.result.now in
    let s = c.deref-in-Some-2.result.now in
    let z = c.deref-in-Some-3.result.now in
    let is : c.args.typed.now ≡ Typed.If i.condition i.first i.second = i.is in
    let tree : typed_tree c.args.typed.now ≡ branches_else (rvalue_tree e) (typed_tree s) (typed_tree z) =
    ap typed_tree (is ∙ ap (λ x. Typed.If i.condition i.first x) c.in-Some.is)
    ∙ (ap (λ (x : Rvalue). branches_else (rvalue_tree x) (typed_tree i.first.value)
    (typed_tree c.in-Some.second.value)) (sym c.deref-in-Some.ensures)
    ∙ (ap (λ (y : TypedStatement). branches_else (rvalue_tree e) (typed_tree y)
    (typed_tree c.in-Some.second.value)) (sym c.deref-in-Some-2.ensures)
    ∙ ap (λ (y : TypedStatement). branches_else (rvalue_tree e) (typed_tree s) (typed_tree y))
    (sym c.deref-in-Some-3.ensures))) in
    if_else_walked laid is_open sizes path c.args.to_head c.args.typed.now e s z c.note_skips-in-Some.result
    c.args.to.now
    c.walk_full-in-Some.new.to c.walk_statement-in-Some.new.to c.walk_statement-in-Some-2.new.to
    c.note_skips-in-Some.new.to c.args.ways.now c.walk_statement-in-Some.new.ways c.walk_statement-in-Some-2.new.ways
    tree c.in_ok-walk_full-in-Some.ensures c.in_ok-walk_statement-in-Some.ensures
    c.in_ok-walk_statement-in-Some-2.ensures c.note_skips-in-Some.ensures

pub walk_loop-returns-in_ok-walk_statement-in-While : goal.walk_loop-returns-in_ok-walk_statement-in-While
walk_loop-returns-in_ok-walk_statement-in-While t c =
    let laid = laid_tree c.args.here.now.laid.now in
    let is_open = is_among c.args.here.now.opens.now in
    let sizes = sizes_in c.args.here.now.sizes.now in
    let path = c.args.here.now.path in
    let i = c.in-While in
    let e = c.deref.result.now in
    let s = c.deref-in-While.result.now in
    let is : c.args.typed.now ≡ Typed.While i.condition i.body = i.is in
    let tree : typed_tree c.args.typed.now ≡ loops_while (rvalue_tree e) (typed_tree s) = ap typed_tree is
    ∙ (ap (λ (x : Rvalue). loops_while (rvalue_tree x) (typed_tree i.body.value)) (sym c.deref.ensures)
    ∙ ap (λ (y : TypedStatement). loops_while (rvalue_tree e) (typed_tree y)) (sym c.deref-in-While.ensures)) in
    while_walked laid is_open sizes path c.args.to_head c.args.typed.now e s c.close_loop.result c.args.to.now
    c.enter.new.to
    c.walk_statement.new.to c.close_loop.new.to c.args.ways.now (inside_of c.args.ways.now)
    c.walk_statement.new.ways c.close_loop.new.ways tree refl c.in_ok-enter-in-While.ensures
    c.in_ok-walk_statement-in-While.ensures c.close_loop.ensures

pub walk_loop-returns-in_ok-walk_full-in-Do : goal.walk_loop-returns-in_ok-walk_full-in-Do
walk_loop-returns-in_ok-walk_full-in-Do t c =
    let laid = laid_tree c.args.here.now.laid.now in
    let is_open = is_among c.args.here.now.opens.now in
    let sizes = sizes_in c.args.here.now.sizes.now in
    let path = c.args.here.now.path in
    let i = c.in-Do in
    let s = c.deref-in-Do.result.now in
    let e = c.deref-in-Do-2.result.now in
    let is : c.args.typed.now ≡ Typed.Do i.body i.condition = i.is in
    let tree : typed_tree c.args.typed.now ≡ loops_do (typed_tree s) (rvalue_tree e) = ap typed_tree is
    ∙ (ap (λ (y : TypedStatement). loops_do (typed_tree y) (rvalue_tree i.condition.value)) (sym c.deref-in-Do.ensures)
    ∙ ap (λ (x : Rvalue). loops_do (typed_tree s) (rvalue_tree x)) (sym c.deref-in-Do-2.ensures)) in
    do_walked laid is_open sizes path c.args.to_head c.args.typed.now e s c.close_loop-in-Do.result c.args.to.now
    c.note.new.to
    c.walk_statement-in-Do.new.to c.continue_at.new.to c.walk_full.new.to c.close_loop-in-Do.new.to
    c.args.ways.now (inside_of c.args.ways.now) c.walk_statement-in-Do.new.ways c.close_loop-in-Do.new.ways tree
    refl c.in_ok-note-in-Do.ensures c.in_ok-walk_statement-in-Do.ensures
    c.in_ok-continue_at-in-Do.ensures c.in_ok-walk_full-in-Do.ensures c.close_loop-in-Do.ensures

pub walk_loop-returns-in_ok-close_loop-in-For : goal.walk_loop-returns-in_ok-close_loop-in-For
walk_loop-returns-in_ok-close_loop-in-For t c =
    let laid = laid_tree c.args.here.now.laid.now in
    let is_open = is_among c.args.here.now.opens.now in
    let sizes = sizes_in c.args.here.now.sizes.now in
    let path = c.args.here.now.path in
    let outer : c.len-outer.result ≡ length c.args.to.now.unended.items =
    omega (arith, c.len-outer.ensures, c.args.to.now.unended.ok.0) in
    let i = c.in-For in
    let first = c.deref-in-For.result.now in
    let s = c.deref-in-For-2.result.now in
    let e = optional_rvalue_tree i.condition in
    let step = optional_rvalue_tree i.step in
    let is : c.args.typed.now ≡ Typed.For i.first i.condition i.step i.body = i.is in
    let tree : typed_tree c.args.typed.now ≡ loops_for (typed_tree first) e step (typed_tree s) = ap typed_tree is
    ∙ (ap (λ (y : TypedStatement). loops_for (typed_tree y) e step (typed_tree i.body.value))
    (sym c.deref-in-For.ensures)
    ∙ ap (λ (y : TypedStatement). loops_for (typed_tree first) e step (typed_tree y)) (sym c.deref-in-For-2.ensures)) in
    for_walked laid is_open sizes path c.args.to_head c.args.typed.now first s i.condition i.step
    c.in_ok-others-in-For.others
    c.len-outer.result c.end_scopes.result c.args.to.now c.walk_statement-in-For.new.to c.enter_if.new.to
    c.walk_statement-in-For-2.new.to c.continue_at-in-For.new.to c.walk_effect.new.to c.close_loop-in-For.new.to
    c.end_scopes.new.to c.args.ways.now c.walk_statement-in-For.new.ways (inside_of c.walk_statement-in-For.new.ways)
    c.walk_statement-in-For-2.new.ways c.close_loop-in-For.new.ways tree outer c.in_ok-walk_statement-in-For.ensures
    refl c.in_ok-others-in-For.ensures.noted c.in_ok-others-in-For.ensures.outs
    c.in_ok-walk_statement-in-For-2.ensures c.in_ok-continue_at-in-For.ensures c.in_ok-walk_effect-in-For.ensures
    c.in_ok-close_loop-in-For.ensures c.end_scopes.ensures

pub walk_loop-returns-in_ok-close_select-in-Switch : goal.walk_loop-returns-in_ok-close_select-in-Switch
walk_loop-returns-in_ok-close_select-in-Switch t c =
    let laid = laid_tree c.args.here.now.laid.now in
    let is_open = is_among c.args.here.now.opens.now in
    let sizes = sizes_in c.args.here.now.sizes.now in
    let path = c.args.here.now.path in
    let outer : c.len-outer-in-Switch.result ≡ length c.args.to.now.unended.items =
    omega (arith, c.len-outer-in-Switch.ensures, c.args.to.now.unended.ok.0) in
    let i = c.in-Switch in
    let e = c.deref-in-Switch.result.now in
    let xs = i.parts.items in
    let is : c.args.typed.now ≡ Typed.Switch i.works_in i.value i.parts = i.is in
    let tree : typed_tree c.args.typed.now ≡ selects i.works_in (rvalue_tree e) (as_typed_cases xs) =
    ap typed_tree is ∙ (typed_tree-switch i.works_in i.value i.parts
    ∙ ap (λ (x : Rvalue). selects i.works_in (rvalue_tree x) (as_typed_cases xs)) (sym c.deref-in-Switch.ensures)) in
    let labels = subst (λ (ys : List TypedSwitchPart). IsBehind c.walk_full-in-Switch.new.to c.note_labels.new.to
    (labels_noted (as_typed_cases ys))) c.deref-in-Switch-2.ensures.value c.in_ok-note_labels-in-Switch.ensures in
    let parts = subst (λ (ys : List TypedSwitchPart). IsLeftBehind c.note_labels.new.to c.walk_parts.new.to
    (chosen_in c.args.ways.now) c.walk_parts.new.ways (cases laid is_open sizes path c.args.to_head
    (as_typed_cases ys)))
    c.deref-in-Switch-3.ensures.value c.in_ok-walk_parts-in-Switch.ensures in
    let default = c.has_default.ensures ∙ ap (λ (ys : List TypedSwitchPart). is_default_among (as_typed_cases ys))
    c.deref-in-Switch-4.ensures.value in
    switch_walked laid is_open sizes path c.args.to_head c.args.typed.now i.works_in e xs c.has_default.result
    c.len-outer-in-Switch.result c.end_scopes-in-Switch.result c.args.to.now c.walk_full-in-Switch.new.to
    c.note_labels.new.to c.walk_parts.new.to c.close_select.new.to c.end_scopes-in-Switch.new.to c.args.ways.now
    (chosen_in c.args.ways.now) c.walk_parts.new.ways c.close_select.new.ways tree outer
    refl c.in_ok-walk_full-in-Switch.ensures labels parts default
    c.in_ok-close_select-in-Switch.ensures c.end_scopes-in-Switch.ensures

pub walk_statement-returns-in-Break : goal.walk_statement-returns-in-Break
walk_statement-returns-in-Break t c =
    let laid = laid_tree c.args.here.now.laid.now in
    let is_open = is_among c.args.here.now.opens.now in
    let sizes = sizes_in c.args.here.now.sizes.now in
    let path = c.args.here.now.path in
    breaks_left laid is_open sizes path c.args.to_head c.args.typed.now c.args.to.now c.args.ways.now
    c.add_break.new.ways
    c.add_break.result c.in-Break.is c.add_break.ensures

pub walk_statement-returns-in-Continue : goal.walk_statement-returns-in-Continue
walk_statement-returns-in-Continue t c =
    let laid = laid_tree c.args.here.now.laid.now in
    let is_open = is_among c.args.here.now.opens.now in
    let sizes = sizes_in c.args.here.now.sizes.now in
    let path = c.args.here.now.path in
    continues_left laid is_open sizes path c.args.to_head c.args.typed.now c.walk_continue.result c.args.to.now
    c.walk_continue.new.to
    c.args.ways.now c.walk_continue.new.ways c.in-Continue.is c.walk_continue.ensures

pub walk_statement-returns-in_ok-walk_return-in-Return : goal.walk_statement-returns-in_ok-walk_return-in-Return
walk_statement-returns-in_ok-walk_return-in-Return t c =
    let laid = laid_tree c.args.here.now.laid.now in
    let is_open = is_among c.args.here.now.opens.now in
    let sizes = sizes_in c.args.here.now.sizes.now in
    let path = c.args.here.now.path in
    returns_left laid is_open sizes path c.args.to_head c.args.typed.now c.in-Return.rvalue c.args.to.now
    c.walk_return.new.to
    c.args.ways.now c.add_return.new.ways c.add_return.result c.in-Return.is c.in_ok-walk_return-in-Return.ensures
    c.add_return.ensures

pub walk_statement-returns-in-Lock : goal.walk_statement-returns-in-Lock
walk_statement-returns-in-Lock t c =
    let laid = laid_tree c.args.here.now.laid.now in
    let is_open = is_among c.args.here.now.opens.now in
    let sizes = sizes_in c.args.here.now.sizes.now in
    let path = c.args.here.now.path in
    goes laid is_open sizes path c.args.to_head c.args.typed.now (Typed.Lock c.in-Lock.mutex c.in-Lock.place) (one
    c.in-Lock.place Forms.Lock) c.note.result
    c.args.to.now c.note.new.to c.args.ways.now c.in-Lock.is refl c.note.ensures

pub walk_statement-returns-in-Unlock : goal.walk_statement-returns-in-Unlock
walk_statement-returns-in-Unlock t c =
    let laid = laid_tree c.args.here.now.laid.now in
    let is_open = is_among c.args.here.now.opens.now in
    let sizes = sizes_in c.args.here.now.sizes.now in
    let path = c.args.here.now.path in
    goes laid is_open sizes path c.args.to_head c.args.typed.now (Typed.Unlock c.in-Unlock.mutex c.in-Unlock.place)
    (one c.in-Unlock.place Forms.Unlock) c.note-in-Unlock.result
    c.args.to.now c.note-in-Unlock.new.to c.args.ways.now c.in-Unlock.is refl c.note-in-Unlock.ensures

pub walk_statement-returns-in-Yield : goal.walk_statement-returns-in-Yield
walk_statement-returns-in-Yield t c =
    let laid = laid_tree c.args.here.now.laid.now in
    let is_open = is_among c.args.here.now.opens.now in
    let sizes = sizes_in c.args.here.now.sizes.now in
    let path = c.args.here.now.path in
    goes laid is_open sizes path c.args.to_head c.args.typed.now (Typed.Yield) (one nowhere Forms.Yield)
    c.note-in-Yield.result
    c.args.to.now c.note-in-Yield.new.to c.args.ways.now c.in-Yield.is refl c.note-in-Yield.ensures
