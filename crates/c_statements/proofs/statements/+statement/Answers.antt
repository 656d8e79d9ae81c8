use Rattle.std.proofs.Common.{◌≡◌, ◌+◌, List, map, drop, ap, sym, subst, ◌∙◌, Result, Ok, Err}
use Rattle.std.proofs.lemmas.List.{at_drop_more, at_drop_all}
use Rattle.std.specs.declared.alloc.Global.{Global}
use Rattle.std.specs.Prelude.{Box, Vec}
use Rattle.tm_terms.specs.declared.refusals.Refusal.{Refusal}
use Rattle.tm_terms.specs.ExprTrees.{tree_of}
use Rattle.tm_trees.specs.declared.statements.BlockPart.{BlockPart}
use Rattle.tm_trees.specs.declared.statements.SwitchPart.{SwitchPart}
use Rattle.tm_trees.specs.FileTrees.{StatementTree, statement_tree, part_tree, and_part, as_parts}
use Rattle.tm_trees.specs.FileTrees.{case_tree, and_case, as_cases}
use Rattle.tm_trees.proofs.StatementNodes.{statement_tree-block, statement_tree-switch}
use Rattle.tm_typed.specs.declared.statements.TypedStatement.{TypedStatement}
use Rattle.tm_typed.specs.declared.statements.TypedSwitchPart.{TypedSwitchPart}
use Rattle.tm_typed.specs.States.{State}
use Rattle.tm_typed.specs.Refusals.{Gives}
use Rattle.tm_typed.specs.TypedStatements.{TypedTree, TypedCases, as_typed_cases}
use Rattle.tm_typed.specs.StatementRules.{Around, switching}
use Rattle.tm_typed.specs.StatementTyping.{statement_in, parts_in, cases_in}
use Rattle.c_typing_state.specs.Steps.{StepsTo}
use Rattle.c_statements.specs.Views.{around_of, selector_of, statement_in_box}
use Rattle.c_statements.specs.reading.SwitchBlocks.{block_cases}
use Rattle.c_statements.proofs.Behind.{behind, behind-none, part_passed, cases_behind, cases_behind-none, case_passed}
use Rattle.c_statements.proofs.Switches.{switch_goes, switch_stops}
use Rattle.c_statements.proofs.statements.+statement.Goals as goal

-- ## Parts of blocks

pub parts-parts-preserved : goal.parts-parts-preserved
parts-parts-preserved t c =
    let around = around_of c.args.around in
    let xs = c.args.parts.now in
    let i = c.parts.one-index in
    let ss = c.parts.typed.items in
    let s = c.parts.state in
    let u = c.part.new.state in
    let rest = as_parts (map part_tree (drop (i + 1) xs)) in
    ap (λ (zs : List TypedStatement). behind zs (parts_in u around rest)) c.in_ok-push-in-Ok.ensures
    ∙ part_passed around ss s u (part_tree c.one-item.result) rest c.in-Ok.one.value c.in-Ok.ensures
    ∙ ap (λ (y : BlockPart). behind ss (parts_in s around (and_part (part_tree y) rest))) c.one-item.is
    ∙ sym (at_drop_more (λ (ps : List BlockPart). behind ss (parts_in s around (as_parts (map part_tree ps)))) xs i c.one-item.result c.parts-test.true)
    ∙ c.parts.invariant

pub parts-returns : goal.parts-returns
parts-returns t c =
    let around = around_of c.args.around in
    let ss = c.parts.typed.items in
    let s = c.parts.state in
    sym c.parts.invariant
    ∙ at_drop_all (λ (ps : List BlockPart). behind ss (parts_in s around (as_parts (map part_tree ps)))) c.args.parts.now c.parts.one-index c.parts-test.false
    ∙ behind-none ss s

-- ## Parts of a `switch`

pub cases-cases-preserved : goal.cases-cases-preserved
cases-cases-preserved t c =
    let around = around_of c.args.around in
    let of = c.args.of in
    let xs = c.args.parts.now in
    let i = c.cases.part-index in
    let done = c.cases.typed.items in
    let s = c.cases.state in
    let l = c.cases.labels in
    let u = c.case.new.state in
    let m = c.case.new.labels in
    let rest = as_cases (map case_tree (drop (i + 1) xs)) in
    ap (λ (zs : List TypedSwitchPart). cases_behind zs (cases_in u around of m rest)) c.in_ok-push_case-in-Ok.ensures
    ∙ case_passed around of done s u l m (case_tree c.part-item.result) rest c.in-Ok.part c.in-Ok.ensures
    ∙ ap (λ (y : SwitchPart). cases_behind done (cases_in s around of l (and_case (case_tree y) rest))) c.part-item.is
    ∙ sym (at_drop_more (λ (ps : List SwitchPart). cases_behind done (cases_in s around of l (as_cases (map case_tree ps)))) xs i c.part-item.result c.cases-test.true)
    ∙ c.cases.invariant

pub cases-returns : goal.cases-returns
cases-returns t c =
    let around = around_of c.args.around in
    let done = c.cases.typed.items in
    let s = c.cases.state in
    let l = c.cases.labels in
    sym c.cases.invariant
    ∙ at_drop_all (λ (ps : List SwitchPart). cases_behind done (cases_in s around c.args.of l (as_cases (map case_tree ps)))) c.args.parts.now c.cases.part-index c.cases-test.false
    ∙ cases_behind-none done s

-- ## Statements

pub statement-returns-in-Block : goal.statement-returns-in-Block
statement-returns-in-Block t c =
    let e = ap statement_tree c.in-Block.is ∙ statement_tree-block c.in-Block.block in
    subst (λ (u : StatementTree). StepsTo statement_in_box c.block_in.new.state c.block_in.result (statement_in c.args.state.now (around_of c.args.around) u)) (sym e) c.block_in.ensures

pub statement-returns-in_ok-switch-in-Ok-switch_block : goal.statement-returns-in_ok-switch-in-Ok-switch_block
statement-returns-in_ok-switch-in-Ok-switch_block t c =
    let s = c.args.state.now in
    let around = around_of c.args.around in
    let i = c.in-Switch in
    let selector = c.in-Ok-selector_in.selector in
    let before = c.selector_in.new.state in
    let after = c.switch_block.new.state in
    let tree = ap statement_tree i.is ∙ statement_tree-switch i.value i.parts in
    let block =
    ap (λ (a : Around). block_cases before a selector.works_in (as_cases (map case_tree i.parts.items))) (sym c.switching.ensures)
    ∙ ap (λ (ps : List SwitchPart). block_cases before (around_of c.switching.result) selector.works_in (as_cases (map case_tree ps))) (sym c.deref-in-Ok-selector_in.ensures.value)
    ∙ c.in-Ok-switch_block.ensures in
    let one : TypedTree → Result (TypedTree × State) Refusal = λ x. Ok (x, after) in
    ap (λ (u : StatementTree). statement_in s around u) tree
    ∙ switch_goes s before after around (tree_of i.value) (as_cases (map case_tree i.parts.items)) (selector_of selector) (as_typed_cases c.in-Ok-switch_block.parts.items) c.in-Ok-selector_in.ensures block
    ∙ ap one (sym c.in_ok-switch-in-Ok-switch_block.ensures)

pub statement-returns-in-Err-switch_block : goal.statement-returns-in-Err-switch_block
statement-returns-in-Err-switch_block t c =
    let s = c.args.state.now in
    let around = around_of c.args.around in
    let i = c.in-Switch in
    let f = c.in-Err-switch_block.fail in
    let selector = c.in-Ok-selector_in.selector in
    let before = c.selector_in.new.state in
    let tree = ap statement_tree i.is ∙ statement_tree-switch i.value i.parts in
    let view : Vec TypedSwitchPart Global → TypedCases × State = λ v. (as_typed_cases v.items, before) in
    let whole : Box TypedStatement Global → TypedTree × State = λ a. (statement_in_box a, before) in
    let Q : List SwitchPart → Type 0 = λ ps. Gives view (Err f) (block_cases before (around_of c.switching.result) selector.works_in (as_cases (map case_tree ps))) in
    let R : Around → Type 0 = λ a. Gives view (Err f) (block_cases before a selector.works_in (as_cases (map case_tree i.parts.items))) in
    let block : R (switching around) = subst R c.switching.ensures (subst Q c.deref-in-Ok-selector_in.ensures.value c.in-Err-switch_block.ensures) in
    let P : StatementTree → Type 0 = λ u. Gives whole (Err f) (statement_in s around u) in
    subst P (sym tree) (switch_stops view whole s before around (tree_of i.value) (as_cases (map case_tree i.parts.items)) (selector_of selector) f c.in-Ok-selector_in.ensures block)
