use Rattle.std.proofs.Common.{Some, None, sym, ap, ◌∙◌}
use Rattle.tm_terms.specs.ExprTrees.{rank}
use Rattle.c_expr_parser.specs.reading.Founds.{pair_of, seen_found}
use Rattle.c_decl_parser.proofs.SettledReading.{from_reads}
use Rattle.c_decl_parser.proofs.expressions.expression.Goals as goal

pub returns-in-Stuck : goal.returns-in-Stuck
returns-in-Stuck c =
    from_reads c.args.types.now c.args.allowed (rank c.args.level) c.args.tokens.now None c.requires (sym (ap seen_found c.in-Stuck.is) ∙ c.in_ok-at.ensures.value)

pub returns-in-Found : goal.returns-in-Found
returns-in-Found c =
    c.settled.ensures
    ∙ from_reads c.args.types.now c.args.allowed (rank c.args.level) c.args.tokens.now (Some (pair_of c.in-Found.found)) c.requires (sym (ap seen_found c.in-Found.is) ∙ c.in_ok-at.ensures.value)
