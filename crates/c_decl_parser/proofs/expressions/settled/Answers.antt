use Rattle.std.proofs.Common.{sym, ◌∙◌}
use Rattle.tm_terms.specs.ExprTrees.{tree_of, rank}
use Rattle.c_decl_parser.proofs.SettledReading.{goes_on}
use Rattle.c_decl_parser.proofs.expressions.settled.Goals as goal

pub returns-then-continues : goal.returns-then-continues
returns-then-continues c =
    goes_on c.args.allowed (rank c.args.level) (tree_of c.args.found.expr.value) c.args.found.rest.now (sym c.continues.ensures ∙ c.if-continues.true)
