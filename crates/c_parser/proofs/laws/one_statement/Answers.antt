use Rattle.std.proofs.Common.{max, sym, ap, ◌∙◌, arith}
use Rattle.c_expr_parser.proofs.Tokens.{from_some}
use Rattle.tm_trees.specs.FileTrees.{statement_height}
use Rattle.c_parser.proofs.StatementComplete.{statement_complete}
use Rattle.c_parser.proofs.laws.one_statement.Goals as goal

pub returns : goal.returns
returns c = λ types s t ts rest after p q.
    let h = max (statement_height s) (statement_height t) in
    let same = from_some (sym (statement_complete types h s ts rest p (omega arith)) ∙ statement_complete types h t ts after q (omega arith)) in
    (ap (λ x. x.0) same, ap (λ x. x.1) same)
