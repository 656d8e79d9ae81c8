use Rattle.std.proofs.Common.{◌≡◌, ℕ, ◌+◌, ◌-◌, ◌<◌, ◌≤◌, List, length, Option, Some, None, IfOk}
use Rattle.std.proofs.Common.{sym, ap, ◌∙◌, subst, arith}
use Rattle.tm_terms.specs.declared.tokens.Token.{Token}
use Rattle.tm_terms.specs.ExprTrees.{Tree, tree_of, as_arguments}
use Rattle.c_expr_parser.specs.declared.marks.Mark.TheVariants as Marks
use Rattle.c_expr_parser.specs.declared.found.Found.{Found}
use Rattle.c_expr_parser.specs.declared.found.Stepped.{Stepped}
use Rattle.c_expr_parser.specs.declared.found.Tried.{Tried}
use Rattle.c_expr_parser.specs.declared.found.Tried.TheVariants as Tries
use Rattle.c_expr_parser.specs.reading.Parts.{after}
use Rattle.c_expr_parser.specs.reading.Founds.{pair_of, seen_found, IfFound, IsStep, IsLow}
use Rattle.c_expr_parser.specs.reading.Descent.{more_by, reads, continued, step}
use Rattle.c_expr_parser.proofs.DescentSteps.{inside_none, inside_by, infix_by, subscript_none, subscript_by, pushed}
use Rattle.c_expr_parser.proofs.DescentSteps.{pushed_height, arguments_none, arguments_done, arguments_comma}
use Rattle.c_expr_parser.proofs.DescentSteps.{arguments_closed, member_is, postfix_is, steps_stop, steps_done}
use Rattle.c_expr_parser.proofs.DescentSteps.{steps_next, reads_some}
use Rattle.c_expr_parser.proofs.descents.+parse.Goals as goal

found_low : {o : Tried Found} {f : Found} (n : ℕ) → o ≡ Tries.Found f → IfFound o (λ f. f.height ≤ n) → f.height ≤ n
found_low n e h = subst (λ (o : Tried Found). IfFound o (λ f. f.height ≤ n)) e h

below_half : {a b : ℕ} → a ≤ b → b ≤ 499 → a < 2147483648
below_half h k = omega arith

stuck_low : {a b n : ℕ} → a ≡ b → b ≤ n → a ≤ n + 1
stuck_low e h = omega arith

pub continue_subscript-subscript-requires-clause-array_height :
    goal.continue_subscript-subscript-requires-clause-array_height
continue_subscript-subscript-requires-clause-array_height t c = below_half c.requires.small c.requires.few

pub continue_subscript-subscript-requires-clause-index_height :
    goal.continue_subscript-subscript-requires-clause-index_height
continue_subscript-subscript-requires-clause-index_height t c =
    below_half (found_low c.args.allowed c.in-Found.is c.in_ok-stuck.ensures.low) c.requires.few

pub continue_question-conditional-requires-clause-condition_height :
    goal.continue_question-conditional-requires-clause-condition_height
continue_question-conditional-requires-clause-condition_height t c = below_half c.requires.small c.requires.few

pub continue_question-conditional-requires-clause-first_height :
    goal.continue_question-conditional-requires-clause-first_height
continue_question-conditional-requires-clause-first_height t c =
    below_half (found_low c.args.allowed c.in-Found.is c.in_ok-stuck.ensures.low) c.requires.few

pub continue_question-conditional-requires-clause-second_height :
    goal.continue_question-conditional-requires-clause-second_height
continue_question-conditional-requires-clause-second_height t c =
    below_half (found_low c.args.allowed c.in-Found-2.is c.in_ok-stuck-in-Some.ensures.low) c.requires.few

pub input_form-input-requires-clause-high_height : goal.input_form-input-requires-clause-high_height
input_form-input-requires-clause-high_height t c =
    below_half (found_low c.args.allowed c.in-Found-2.is c.in_ok-at-in-Some-after.ensures.low) c.requires

pub continue_infix-infix-requires-clause-left_height : goal.continue_infix-infix-requires-clause-left_height
continue_infix-infix-requires-clause-left_height t c = below_half c.requires.small c.requires.few

pub continue_subscript-returns-in-None-clause-low : goal.continue_subscript-returns-in-None-clause-low
continue_subscript-returns-in-None-clause-low t c =
    stuck_low c.stuck_at-in-None.ensures.height c.requires.small

pub continue_question-returns-in-None-clause-low : goal.continue_question-returns-in-None-clause-low
continue_question-returns-in-None-clause-low t c = stuck_low c.stuck_at-in-None.ensures.height c.requires.small

pub continue_question-returns-in-Stuck-2-clause-low : goal.continue_question-returns-in-Stuck-2-clause-low
continue_question-returns-in-Stuck-2-clause-low t c =
    stuck_low c.stuck_at-in-Stuck-2.ensures.height c.requires.small

pub arguments_from-returns-in-Stuck-clause-value : goal.arguments_from-returns-in-Stuck-clause-value
arguments_from-returns-in-Stuck-clause-value t c =
    let read = reads c.args.types.now c.args.allowed in
    let nothing = ap (λ k. read k c.items.rest.now) (sym c.rank.ensures) ∙ sym c.in_ok-at.ensures.value ∙ ap seen_found c.in-Stuck.is in
    sym (arguments_none read (length c.args.tokens.now - c.items._i) (as_arguments c.items.items.items) c.items.rest.now nothing) ∙ c.items.invariant.same

pub arguments_from-closed-requires : goal.arguments_from-closed-requires
arguments_from-closed-requires t c =
    omega (arith, pushed_height c.items.items.items c.push_expr.new.items.items c.in-Found.argument.expr.value c.in_ok-push_expr-in-Found.ensures, c.in-Found.argument.counted, c.items.invariant.counted)

pub arguments_from-returns-in-None-clause-value : goal.arguments_from-returns-in-None-clause-value
arguments_from-returns-in-None-clause-value t c =
    let read = reads c.args.types.now c.args.allowed in
    let rest = c.in-Found.argument.rest.now in
    let one = ap (λ k. read k c.items.rest.now) (sym c.rank.ensures) ∙ sym c.in_ok-at.ensures.value ∙ ap seen_found c.in-Found.is in
    c.closed.ensures.value
    ∙ ap (λ o. more_by None o (as_arguments c.push_expr.new.items.items) (λ next. None)) c.after-in-None.ensures
    ∙ ap (λ a. more_by None (after Marks.CloseParenthesis rest) a (λ next. None)) (pushed c.items.items.items c.push_expr.new.items.items c.in-Found.argument.expr.value c.in_ok-push_expr-in-Found.ensures)
    ∙ sym (arguments_closed read (length c.args.tokens.now - c.items._i) (length c.args.tokens.now - (c.items._i + 1)) (as_arguments c.items.items.items) c.items.rest.now (tree_of c.in-Found.argument.expr.value) rest (omega arith) one (sym c.in-None.ensures))
    ∙ c.items.invariant.same

pub arguments_from-items-preserved : goal.arguments_from-items-preserved
arguments_from-items-preserved t c =
    let read = reads c.args.types.now c.args.allowed in
    let rest = c.in-Found.argument.rest.now in
    let one = ap (λ k. read k c.items.rest.now) (sym c.rank.ensures) ∙ sym c.in_ok-at.ensures.value ∙ ap seen_found c.in-Found.is in
    let push = pushed c.items.items.items c.push_expr.new.items.items c.in-Found.argument.expr.value c.in_ok-push_expr-in-Found.ensures in
    let next = arguments_comma read (length c.args.tokens.now - c.items._i) (length c.args.tokens.now - (c.items._i + 1)) (as_arguments c.items.items.items) c.items.rest.now (tree_of c.in-Found.argument.expr.value) rest c.in-Some.following.now (omega arith) one (sym c.in-Some.ensures) in
    let before = c.items.invariant.same in
    record {
      same = cc;
      counted = omega (arith, pushed_height c.items.items.items c.push_expr.new.items.items c.in-Found.argument.expr.value c.in_ok-push_expr-in-Found.ensures, c.in-Found.argument.counted, c.items.invariant.counted);
      low =
          let low = subst (λ (o : Tried Found). IfFound o (λ f. f.height ≤ c.args.allowed)) c.in-Found.is c.in_ok-at.ensures.low in
          omega (arith, low, c.items.invariant.low);
    }

pub arguments_from-returns-clause-value : goal.arguments_from-returns-clause-value
arguments_from-returns-clause-value t c =
    sym (arguments_done (reads c.args.types.now c.args.allowed) (length c.args.tokens.now - c.items._i) (as_arguments c.items.items.items) c.items.rest.now (omega arith)) ∙ c.items.invariant.same

pub continued-returns-in-Member-clause-value : goal.continued-returns-in-Member-clause-value
continued-returns-in-Member-clause-value t c =
    let read = reads c.args.types.now c.args.allowed in
    let left = tree_of c.args.left.expr.value in
    let e = sym (member_is read c.in-Member.access left c.args.place c.args.tokens.now) ∙ ap (λ o. continued read o left c.args.place c.args.tokens.now) (sym c.in-Member.is) in
    subst (λ (w : Option (Tree × List Token)). IfOk c.continue_member.result (λ stepped. IsStep stepped (pair_of c.args.left) w)) e c.continue_member.ensures.value

pub continued-returns-in_ok-postfix-in-Postfix-clause-value : goal.continued-returns-in_ok-postfix-in-Postfix-clause-value
continued-returns-in_ok-postfix-in-Postfix-clause-value t c =
    let read = reads c.args.types.now c.args.allowed in
    let left = tree_of c.args.left.expr.value in
    ap Some c.in_ok-postfix-in-Postfix.ensures.pair
    ∙ sym (postfix_is read c.in-Postfix.operator left c.args.place c.args.tokens.now)
    ∙ ap (λ o. continued read o left c.args.place c.args.tokens.now) (sym c.in-Postfix.is)

pub read-returns-in-Found-clause-value : goal.read-returns-in-Found-clause-value
read-returns-in-Found-clause-value t c =
    let one = sym c.in_ok-at.ensures.value ∙ ap seen_found c.in-Found.is in
    let e = reads_some c.args.types.now c.args.allowed (c.args.allowed - 1) c.args.at c.args.tokens.now (tree_of c.in-Found.first.expr.value) c.in-Found.first.rest.now (omega arith) one in
    subst (λ (w : Option (Tree × List Token)). IfOk c.from_form.result (λ found. seen_found found ≡ w)) (sym e) c.from_form.ensures.value

pub steps-returns-in-Stop-clause-value : goal.steps-returns-in-Stop-clause-value
steps-returns-in-Stop-clause-value t c =
    let read = reads c.args.types.now c.args.allowed in
    let found = c.operators.found in
    let s = subst (λ (s : Stepped). IsStep s (pair_of found) (step read c.args.at c.args.allowed (tree_of found.expr.value) found.rest.now)) c.in-Stop.is c.in_ok-next.ensures.value in
    s.1 ∙ sym (steps_stop read c.args.at c.args.allowed (c.args.allowed + 1 - c.operators._i) (tree_of found.expr.value) found.rest.now (sym s.0)) ∙ c.operators.invariant.same

pub steps-operators-preserved : goal.steps-operators-preserved
steps-operators-preserved t c =
    let read = reads c.args.types.now c.args.allowed in
    let found = c.operators.found in
    let s = subst (λ (s : Stepped). IsStep s (pair_of found) (step read c.args.at c.args.allowed (tree_of found.expr.value) found.rest.now)) c.in-On.is c.in_ok-next.ensures.value in
    let next = steps_next read c.args.at c.args.allowed (c.args.allowed + 1 - c.operators._i) (c.args.allowed + 1 - (c.operators._i + 1)) (tree_of found.expr.value) found.rest.now (tree_of c.in-On.next.expr.value) c.in-On.next.rest.now (omega arith) (sym s) in
    record {
      same = sym next ∙ c.operators.invariant.same;
      low = subst (λ (s : Stepped). IsLow s (c.args.allowed + 1)) c.in-On.is c.in_ok-next.ensures.low;
    }

pub steps-returns-clause-value : goal.steps-returns-clause-value
steps-returns-clause-value t c =
    sym (steps_done (reads c.args.types.now c.args.allowed) c.args.at c.args.allowed (c.args.allowed + 1 - c.operators._i) (tree_of c.operators.found.expr.value) c.operators.found.rest.now (omega arith)) ∙ c.operators.invariant.same

pub continue_infix-returns-in-Stuck-clause-value : goal.continue_infix-returns-in-Stuck-clause-value
continue_infix-returns-in-Stuck-clause-value t c =
    let read = reads c.args.types.now c.args.allowed in
    let none = ap (λ k. read k c.args.tokens.now) (sym c.right_level.ensures) ∙ sym c.in_ok-stuck.ensures.value
    ∙ ap seen_found c.in-Stuck.is in (
      sym (infix_by read c.args.operator (tree_of c.args.left.expr.value) c.args.place c.args.tokens.now None none),
      c.stuck_at.ensures.pair,
    )

pub continue_infix-returns-in_ok-infix-in-Found-clause-value :
    goal.continue_infix-returns-in_ok-infix-in-Found-clause-value
continue_infix-returns-in_ok-infix-in-Found-clause-value t c =
    let read = reads c.args.types.now c.args.allowed in
    let one = ap (λ k. read k c.args.tokens.now) (sym c.right_level.ensures) ∙ sym c.in_ok-stuck.ensures.value
    ∙ ap seen_found c.in-Found.is in
    ap Some c.in_ok-infix-in-Found.ensures.pair
    ∙ sym (infix_by read c.args.operator (tree_of c.args.left.expr.value) c.args.place c.args.tokens.now (Some
    (pair_of c.in-Found.right)) one)

pub continue_subscript-returns-in-Stuck-clause-value : goal.continue_subscript-returns-in-Stuck-clause-value
continue_subscript-returns-in-Stuck-clause-value t c =
    let read = reads c.args.types.now c.args.allowed in
    let none = ap (λ k. read k c.args.tokens.now) (sym c.rank.ensures) ∙ sym c.in_ok-stuck.ensures.value
    ∙ ap seen_found c.in-Stuck.is in (
      sym (subscript_none read (tree_of c.args.array.expr.value) c.args.place c.args.tokens.now none),
      c.stuck_at.ensures.pair,
    )

pub inside_form-returns-in-Stuck-clause-value : goal.inside_form-returns-in-Stuck-clause-value
inside_form-returns-in-Stuck-clause-value t c =
    let read = reads c.args.types.now c.args.allowed in
    sym (inside_none read c.args.tokens.now (ap (λ k. read k c.args.tokens.now) (sym c.rank.ensures)
    ∙ sym c.in_ok-at.ensures.value ∙ ap seen_found c.in-Stuck.is))

pub inside_form-returns-in-None-clause-value : goal.inside_form-returns-in-None-clause-value
inside_form-returns-in-None-clause-value t c =
    let read = reads c.args.types.now c.args.allowed in
    let one = ap (λ k. read k c.args.tokens.now) (sym c.rank.ensures) ∙ sym c.in_ok-at.ensures.value
    ∙ ap seen_found c.in-Found.is in
    sym (inside_by read c.args.tokens.now (tree_of c.in-Found.inside.expr.value) c.in-Found.inside.rest.now None
    one (sym c.in-None.ensures))

pub continue_subscript-returns-in-None-clause-value : goal.continue_subscript-returns-in-None-clause-value
continue_subscript-returns-in-None-clause-value t c =
    let read = reads c.args.types.now c.args.allowed in
    let one = ap (λ k. read k c.args.tokens.now) (sym c.rank.ensures) ∙ sym c.in_ok-stuck.ensures.value
    ∙ ap seen_found c.in-Found.is in (
      sym (subscript_by read (tree_of c.args.array.expr.value) c.args.place c.args.tokens.now (tree_of
          c.in-Found.index.expr.value) c.in-Found.index.rest.now None one (sym c.in-None.ensures)),
      c.stuck_at-in-None.ensures.pair,
    )
