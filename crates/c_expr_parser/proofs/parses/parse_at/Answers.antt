use Rattle.std.proofs.Common.{◌≡◌, ℕ, ◌-◌, List, length, take, drop, Some, sym, ap, ◌∙◌, subst, arith, length-drop}
use Rattle.std.proofs.lemmas.List.{take_all}
use Rattle.tm_terms.specs.declared.tokens.Token.{Token}
use Rattle.tm_terms.specs.declared.exprs.Expr.{Expr}
use Rattle.tm_terms.specs.ExprTrees.{tree_of, rank}
use Rattle.tm_terms.specs.ExprSpelling.{IsLongest}
use Rattle.c_expr_parser.specs.reading.Founds.{pair_of, seen_found}
use Rattle.c_expr_parser.specs.reading.Descent.{reads}
use Rattle.c_expr_parser.proofs.Ends.{ends_at}
use Rattle.c_expr_parser.proofs.CompleteSteps.{reads_longest, reads_none}
use Rattle.c_expr_parser.proofs.parses.parse_at.Goals as goal
use Rattle.c_expr_parser.proofs.parses.parse_at.Goals.{In-Found}

-- the slice from an index on
from_on : (from : ℕ) (tokens : List Token) → take (length tokens - from) (drop from tokens) ≡ drop from tokens
from_on from tokens = take_all (length tokens - from) (drop from tokens) (omega (arith, length-drop from tokens))

-- what was read
is_read : (c : In-Found) → reads c.args.types.now 500 (rank c.args.level) (drop c.args.from c.args.tokens.now) ≡ Some (pair_of c.in-Found.found)
is_read c =
    ap (λ k. reads c.args.types.now 500 k (drop c.args.from c.args.tokens.now)) (sym c.rank.ensures)
    ∙ ap (reads c.args.types.now 500 c.rank.result) (sym (from_on c.args.from c.args.tokens.now))
    ∙ sym c.in_ok-read.ensures.value ∙ ap seen_found c.in-Found.is

longest : (c : In-Found) → IsLongest c.args.types.now (rank c.args.level) 500 (drop c.args.from c.args.tokens.now) (tree_of c.in-Found.found.expr.value) c.in-Found.found.rest.now
longest c = reads_longest c.args.types.now 500 (rank c.args.level) (drop c.args.from c.args.tokens.now) (pair_of c.in-Found.found) (is_read c)

pub overflow_sub-end : goal.overflow_sub-end
overflow_sub-end c =
    (ends_at c.args.types.now (tree_of c.in-Found.found.expr.value) c.args.tokens.now c.args.from c.in-Found.found.rest.now (longest c).front.spelled).0

pub returns-in-Stuck-clause-none : goal.returns-in-Stuck-clause-none
returns-in-Stuck-clause-none c =
    reads_none c.args.types.now 500 (rank c.args.level) (drop c.args.from c.args.tokens.now)
    (ap (λ k. reads c.args.types.now 500 k (drop c.args.from c.args.tokens.now)) (sym c.rank.ensures)
    ∙ ap (reads c.args.types.now 500 c.rank.result) (sym (from_on c.args.from c.args.tokens.now))
    ∙ sym c.in_ok-read.ensures.value ∙ ap seen_found c.in-Stuck.is)

pub returns-in-Found-clause-longest : goal.returns-in-Found-clause-longest
returns-in-Found-clause-longest c =
    let l = longest (goal.at.returns-in-Found-clause-longest c).In-Found in
    let e = (ends_at c.args.types.now (tree_of c.in-Found.found.expr.value) c.args.tokens.now c.args.from c.in-Found.found.rest.now l.front.spelled).1 in
    let m = subst (λ (rest : List Token). IsLongest c.args.types.now (rank c.args.level) 500 (drop c.args.from c.args.tokens.now) (tree_of c.in-Found.found.expr.value) rest) (sym e) l in
    subst (λ (x : Expr). IsLongest c.args.types.now (rank c.args.level) 500 (drop c.args.from c.args.tokens.now) (tree_of x) (drop (length c.args.tokens.now - length c.in-Found.found.rest.now) c.args.tokens.now)) (sym c.into_inner.ensures) m
