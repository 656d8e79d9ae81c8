use Rattle.tm_terms.specs.declared.tokens.Token.{Token}
use Rattle.std.proofs.Common.{◌≡◌, ◌+◌, ◌-◌, List, [], ◌∷◌, Option, Some, length, map, IfOk, subst, sym, ap, ◌∙◌, arith}
use Rattle.tm_trees.specs.DeclarationTrees.{ValueTree, a_list, as_values, value_tree}
use Rattle.c_decl_parser.specs.reading.Parts.{seen}
use Rattle.c_decl_parser.specs.reading.Repetitions.{braced, in_braces}
use Rattle.c_decl_parser.specs.reading.DeclarationDescent.{value}
use Rattle.c_decl_parser.proofs.RepetitionSteps.{pushed_tree, braced_done, braced_end, braced_unparted, braced_last, braced_stuck, braced_next}
use Rattle.c_decl_parser.proofs.DeclarationSteps.{read_none, read_some, value_low, value_expression, value_list}
use Rattle.c_decl_parser.proofs.values.+value.Goals as goal

pub further_values-returns-in-Some : goal.further_values-returns-in-Some
further_values-returns-in-Some t c =
    sym (braced_end (value c.args.types.now c.args.allowed) (length c.args.tokens.now - c.values._i) (length c.args.tokens.now - (c.values._i + 1)) (map value_tree c.values.found.items) c.values.rest.now c.in-Some.end.now (omega arith) (sym c.in-Some.ensures)) ∙ c.values.invariant

pub further_values-returns-in-None-after : goal.further_values-returns-in-None-after
further_values-returns-in-None-after t c =
    sym (braced_unparted (value c.args.types.now c.args.allowed) (length c.args.tokens.now - c.values._i) (length c.args.tokens.now - (c.values._i + 1)) (map value_tree c.values.found.items) c.values.rest.now (omega arith) (sym c.in-None.ensures) (sym c.in-None-after.ensures)) ∙ c.values.invariant

pub further_values-returns-in-Some-after-2 : goal.further_values-returns-in-Some-after-2
further_values-returns-in-Some-after-2 t c =
    sym (braced_last (value c.args.types.now c.args.allowed) (length c.args.tokens.now - c.values._i) (length c.args.tokens.now - (c.values._i + 1)) (map value_tree c.values.found.items) c.values.rest.now c.in-Some-after.parted.now c.in-Some-after-2.last.now (omega arith) (sym c.in-None.ensures) (sym c.in-Some-after.ensures) (sym c.in-Some-after-2.ensures)) ∙ c.values.invariant

pub further_values-returns-in-Stuck : goal.further_values-returns-in-Stuck
further_values-returns-in-Stuck t c =
    let stuck = sym c.in_ok-at-in-None-after-2.ensures ∙ ap (seen value_tree) c.in-Stuck.is in
    sym (braced_stuck (value c.args.types.now c.args.allowed) (length c.args.tokens.now - c.values._i) (length c.args.tokens.now - (c.values._i + 1)) (map value_tree c.values.found.items) c.values.rest.now c.in-Some-after.parted.now (omega arith) (sym c.in-None.ensures) (sym c.in-Some-after.ensures) (sym c.in-None-after-2.ensures) stuck) ∙ c.values.invariant

pub further_values-values-preserved : goal.further_values-values-preserved
further_values-values-preserved t c =
    let one = sym c.in_ok-at-in-None-after-2.ensures ∙ ap (seen value_tree) c.in-Found.is in
    ap (λ (found : List ValueTree). braced (value c.args.types.now c.args.allowed) (length c.args.tokens.now - (c.values._i + 1)) found c.in-Found.next.now) (pushed_tree value_tree _ _ _ c.in_ok-push-in-Found.ensures)
    ∙ sym (braced_next (value c.args.types.now c.args.allowed) (length c.args.tokens.now - c.values._i) (length c.args.tokens.now - (c.values._i + 1)) (map value_tree c.values.found.items) c.values.rest.now c.in-Some-after.parted.now (value_tree c.in-Found.value) c.in-Found.next.now (omega arith) (sym c.in-None.ensures) (sym c.in-Some-after.ensures) (sym c.in-None-after-2.ensures) one) ∙ c.values.invariant

pub further_values-returns : goal.further_values-returns
further_values-returns t c =
    sym (braced_done (value c.args.types.now c.args.allowed) (length c.args.tokens.now - c.values._i) (map value_tree c.values.found.items) c.values.rest.now (omega arith)) ∙ c.values.invariant

pub value-returns-in-None : goal.value-returns-in-None
value-returns-in-None t c =
    subst (λ (w : Option (ValueTree × List Token)). IfOk c.expression_value.result (λ read. seen value_tree read ≡ w))
    (value_expression c.args.types.now c.args.allowed (c.args.allowed - 1) (omega arith) c.args.tokens.now (sym c.in-None.ensures)) c.expression_value.ensures

pub value-returns-in-Some : goal.value-returns-in-Some
value-returns-in-Some t c =
    subst (λ (w : Option (ValueTree × List Token)). IfOk c.list_value.result (λ read. seen value_tree read ≡ w))
    (value_list c.args.types.now c.args.allowed (c.args.allowed - 1) (omega arith) c.args.tokens.now c.in-Some.place c.in-Some.inside.now (sym c.in-Some.ensures)) c.list_value.ensures

pub value-returns-then-allowed-eq0 : goal.value-returns-then-allowed-eq0
value-returns-then-allowed-eq0 t c = value_low c.args.types.now c.args.allowed c.args.tokens.now (omega arith)

pub list_value-returns-in-Stuck : goal.list_value-returns-in-Stuck
list_value-returns-in-Stuck t c =
    let go : List ValueTree → List Token → Option (ValueTree × List Token) =
    λ values rest. Some (a_list (as_values values) c.args.place, rest) in
    read_none go (in_braces (value c.args.types.now c.args.allowed) c.args.tokens.now)
    (sym c.in_ok-at.ensures ∙ ap (seen (λ v. map value_tree v.items)) c.in-Stuck.is)

pub list_value-returns-in-Found : goal.list_value-returns-in-Found
list_value-returns-in-Found t c =
    let go : List ValueTree → List Token → Option (ValueTree × List Token) =
    λ values rest. Some (a_list (as_values values) c.args.place, rest) in
    ap (λ v. Some (v, c.in-Found.rest.now)) c.list.ensures
    ∙ read_some go (in_braces (value c.args.types.now c.args.allowed) c.args.tokens.now)
    (map value_tree c.in-Found.values.items) c.in-Found.rest.now
    (sym c.in_ok-at.ensures ∙ ap (seen (λ v. map value_tree v.items)) c.in-Found.is)

pub values-returns-in-Stuck : goal.values-returns-in-Stuck
values-returns-in-Stuck t c =
    let read = value c.args.types.now c.args.allowed in
    let go : ValueTree → List Token → Option (List ValueTree × List Token) =
    λ x rest. braced read (length rest) (x ∷ []) rest in
    read_none go (read c.args.tokens.now) (sym c.in_ok-at.ensures ∙ ap (seen value_tree) c.in-Stuck.is)

pub values-returns-in-Found : goal.values-returns-in-Found
values-returns-in-Found t c =
    let read = value c.args.types.now c.args.allowed in
    let go : ValueTree → List Token → Option (List ValueTree × List Token) =
    λ x rest. braced read (length rest) (x ∷ []) rest in
    let same = read_some go (read c.args.tokens.now) (value_tree c.in-Found.first) c.in-Found.rest.now
    (sym c.in_ok-at.ensures ∙ ap (seen value_tree) c.in-Found.is) in
    subst (λ (w : Option (List ValueTree × List Token)). IfOk c.further_values.result
    (λ read. seen (λ v. map value_tree v.items) read ≡ w)) same c.further_values.ensures
