use Rattle.std.proofs.Common.{◌≡◌, ◌+◌, ◌-◌, List, length, Option, None, Some, IfOk, map, sym, ap, ◌∙◌, subst, arith}
use Rattle.tm_terms.specs.declared.tokens.Token.{Token}
use Rattle.tm_trees.specs.FileTrees.{StatementTree, PartTree, PartTrees, part_tree, block_tree, CaseTree}
use Rattle.tm_trees.specs.FileTrees.{case_tree}
use Rattle.c_decl_parser.specs.reading.Parts.{seen}
use Rattle.c_decl_parser.specs.reading.Repetitions.{until_brace}
use Rattle.c_parser.specs.reading.Founds.{boxed_tree}
use Rattle.c_parser.specs.reading.FileDescent.{part, case_part, statement}
use Rattle.c_decl_parser.proofs.RepetitionSteps.{pushed_tree, until_brace_done, until_brace_end, until_brace_stuck, until_brace_next}
use Rattle.c_parser.proofs.StatementSteps.{parts_within, statement_none, statement_some, inside_none, inside_some}
use Rattle.c_parser.proofs.statements.+statement.Goals as goal

pub cases-returns-in-Some : goal.cases-returns-in-Some
cases-returns-in-Some t c =
    let read = case_part c.args.types.now c.args.allowed (statement c.args.types.now c.args.allowed) in
    sym (until_brace_end read (length c.args.tokens.now - c.cases._i) (length c.args.tokens.now - (c.cases._i + 1)) (map case_tree c.cases.found.items) c.cases.rest.now c.in-Some.next.now (omega arith) (sym c.in-Some.ensures))
    ∙ c.cases.invariant

pub cases-returns-in-Stuck : goal.cases-returns-in-Stuck
cases-returns-in-Stuck t c =
    let read = case_part c.args.types.now c.args.allowed (statement c.args.types.now c.args.allowed) in
    let stuck = sym c.in_ok-at-in-None.ensures ∙ ap (seen case_tree) c.in-Stuck.is in
    sym (until_brace_stuck read (length c.args.tokens.now - c.cases._i) (length c.args.tokens.now - (c.cases._i + 1)) (map case_tree c.cases.found.items) c.cases.rest.now (omega arith) (sym c.in-None.ensures) stuck)
    ∙ c.cases.invariant

pub cases-cases-preserved : goal.cases-cases-preserved
cases-cases-preserved t c =
    let read = case_part c.args.types.now c.args.allowed (statement c.args.types.now c.args.allowed) in
    let one = sym c.in_ok-at-in-None.ensures ∙ ap (seen case_tree) c.in-Found.is in
    let rest = length c.args.tokens.now - (c.cases._i + 1) in
    ap (λ (found : List CaseTree). until_brace read rest found c.in-Found.next.now) (pushed_tree case_tree _ _ _ c.in_ok-push-in-Found.ensures)
    ∙ sym (until_brace_next read (length c.args.tokens.now - c.cases._i) rest (map case_tree c.cases.found.items) c.cases.rest.now (case_tree c.in-Found.one) c.in-Found.next.now (omega arith) (sym c.in-None.ensures) one)
    ∙ c.cases.invariant

pub cases-returns : goal.cases-returns
cases-returns t c =
    let read = case_part c.args.types.now c.args.allowed (statement c.args.types.now c.args.allowed) in
    sym (until_brace_done read (length c.args.tokens.now - c.cases._i) (map case_tree c.cases.found.items) c.cases.rest.now (omega arith)) ∙ c.cases.invariant

pub inside-returns-then-allowed-eq0 : goal.inside-returns-then-allowed-eq0
inside-returns-then-allowed-eq0 t c = sym (inside_none c.args.types.now c.args.allowed c.args.tokens.now (omega arith))

pub inside-returns : goal.inside-returns
inside-returns t c =
    subst (λ (w : Option (PartTrees × List Token)). IfOk c.parts.result (λ read. seen block_tree read ≡ w)) (sym (inside_some c.args.types.now c.args.allowed (c.args.allowed - 1) c.args.tokens.now (omega arith))) c.parts.ensures

pub parts-returns-in-Some : goal.parts-returns-in-Some
parts-returns-in-Some t c =
    let step = statement c.args.types.now c.args.allowed in
    let read = part c.args.types.now c.args.allowed step in
    let all = sym (until_brace_end read (length c.args.tokens.now - c.parts._i) (length c.args.tokens.now - (c.parts._i + 1)) (map part_tree c.parts.found.items) c.parts.rest.now c.in-Some.next.now (omega arith) (sym c.in-Some.ensures)) ∙ c.parts.invariant in
    parts_within c.args.types.now c.args.allowed step c.args.tokens.now (Some (map part_tree c.parts.found.items, c.in-Some.next.now)) all

pub parts-returns-in-Stuck : goal.parts-returns-in-Stuck
parts-returns-in-Stuck t c =
    let step = statement c.args.types.now c.args.allowed in
    let read = part c.args.types.now c.args.allowed step in
    let stuck = sym c.in_ok-at-in-None.ensures ∙ ap (seen part_tree) c.in-Stuck.is in
    let all = sym (until_brace_stuck read (length c.args.tokens.now - c.parts._i) (length c.args.tokens.now - (c.parts._i + 1)) (map part_tree c.parts.found.items) c.parts.rest.now (omega arith) (sym c.in-None.ensures) stuck) ∙ c.parts.invariant in
    parts_within c.args.types.now c.args.allowed step c.args.tokens.now None all

pub parts-parts-preserved : goal.parts-parts-preserved
parts-parts-preserved t c =
    let read = part c.args.types.now c.args.allowed (statement c.args.types.now c.args.allowed) in
    let one = sym c.in_ok-at-in-None.ensures ∙ ap (seen part_tree) c.in-Found.is in
    let rest = length c.args.tokens.now - (c.parts._i + 1) in
    ap (λ (found : List PartTree). until_brace read rest found c.in-Found.next.now) (pushed_tree part_tree _ _ _ c.in_ok-push-in-Found.ensures)
    ∙ sym (until_brace_next read (length c.args.tokens.now - c.parts._i) rest (map part_tree c.parts.found.items) c.parts.rest.now (part_tree c.in-Found.one) c.in-Found.next.now (omega arith) (sym c.in-None.ensures) one)
    ∙ c.parts.invariant

pub parts-returns : goal.parts-returns
parts-returns t c =
    let step = statement c.args.types.now c.args.allowed in
    let read = part c.args.types.now c.args.allowed step in
    let all = sym (until_brace_done read (length c.args.tokens.now - c.parts._i) (map part_tree c.parts.found.items) c.parts.rest.now (omega arith)) ∙ c.parts.invariant in
    parts_within c.args.types.now c.args.allowed step c.args.tokens.now None all

pub statement-returns-then-allowed-eq0 : goal.statement-returns-then-allowed-eq0
statement-returns-then-allowed-eq0 t c = sym (statement_none c.args.types.now c.args.allowed c.args.tokens.now (omega arith))

pub statement-returns : goal.statement-returns
statement-returns t c =
    subst (λ (w : Option (StatementTree × List Token)). IfOk c.statement_within.result (λ read. seen boxed_tree read ≡ w)) (sym (statement_some c.args.types.now c.args.allowed (c.args.allowed - 1) c.args.tokens.now (omega arith))) c.statement_within.ensures
