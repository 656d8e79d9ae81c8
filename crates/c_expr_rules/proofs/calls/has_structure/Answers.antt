use Rattle.std.proofs.Common.{sym, ◌∙◌}
use Rattle.c_expr_rules.proofs.GivenLists.{found_structure}
use Rattle.c_expr_rules.proofs.calls.has_structure.Goals as goal

pub returns-then-is_structure : goal.returns-then-is_structure
returns-then-is_structure c =
    sym (found_structure c.args.arguments.now c.loop-argument.argument-index c.argument-item.result c.loop-argument-test.true c.argument-item.is (sym c.is_structure.ensures ∙ c.if-is_structure.true))
    ∙ c.loop-argument.invariant
