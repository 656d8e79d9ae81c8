use Rattle.std.proofs.Common.{None, Some, sym, ap, ◌∙◌}
use Rattle.tm_terms.specs.ExprTrees.{tree_of, rank}
use Rattle.c_decl_parser.specs.reading.Parts.{seen}
use Rattle.c_decl_parser.proofs.DeclarationSteps.{until_at_once, until_none, until_read}
use Rattle.c_decl_parser.proofs.expressions.until.Goals as goal

pub returns-in-Some : goal.returns-in-Some
returns-in-Some c =
    sym (until_at_once c.args.types.now c.args.allowed (rank c.args.level) c.args.mark c.args.tokens.now
    c.in-Some.rest.now (sym c.in-Some.ensures))

pub returns-in-Stuck : goal.returns-in-Stuck
returns-in-Stuck c =
    let stuck = sym c.in_ok-at-in-None.ensures ∙ ap (seen tree_of) c.in-Stuck.is in
    sym (until_none c.args.types.now c.args.allowed (rank c.args.level) c.args.mark c.args.tokens.now
    (sym c.in-None.ensures) stuck)

pub returns-in-None-after : goal.returns-in-None-after
returns-in-None-after c =
    let one = sym c.in_ok-at-in-None.ensures ∙ ap (seen tree_of) c.in-Found.is in
    sym (until_read c.args.types.now c.args.allowed (rank c.args.level) c.args.mark c.args.tokens.now
    (tree_of c.in-Found.expr) c.in-Found.next.now None (sym c.in-None.ensures) one (sym c.in-None-after.ensures))

pub returns-in-Some-after : goal.returns-in-Some-after
returns-in-Some-after c =
    let one = sym c.in_ok-at-in-None.ensures ∙ ap (seen tree_of) c.in-Found.is in
    sym (until_read c.args.types.now c.args.allowed (rank c.args.level) c.args.mark c.args.tokens.now
    (tree_of c.in-Found.expr) c.in-Found.next.now (Some c.in-Some-after.rest.now) (sym c.in-None.ensures) one
    (sym c.in-Some-after.ensures))
