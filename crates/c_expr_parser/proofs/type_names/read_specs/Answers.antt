use Rattle.std.proofs.Common.{◌+◌, ◌-◌, length, sym, ◌∙◌, arith}
use Rattle.c_expr_parser.proofs.TypeSteps.{specs_stop, specs_done, specs_next}
use Rattle.c_expr_parser.proofs.type_names.read_specs.Goals as goal

pub loop-i-preserved : goal.loop-i-preserved
loop-i-preserved c =
    let next = specs_next c.args.types.now (length c.args.tokens.now - c.loop-i._i) (length c.args.tokens.now - (c.loop-i._i + 1)) c.loop-i.seen c.loop-i.specs.items c.loop-i.rest.now c.in-Some.spec c.in-Some.next.now (omega arith) (sym c.in-Some.ensures) in
    let pushed = c.in_ok-push_spec-in-Some.ensures in let seen = c.sees_type-still_seen.ensures in let before = c.loop-i.invariant in cc

pub returns-in-None : goal.returns-in-None
returns-in-None c =
    sym (specs_stop c.args.types.now (length c.args.tokens.now - c.loop-i._i) c.loop-i.seen c.loop-i.specs.items c.loop-i.rest.now (sym c.in-None.ensures)) ∙ c.loop-i.invariant

pub returns : goal.returns
returns c =
    sym (specs_done c.args.types.now (length c.args.tokens.now - c.loop-i._i) c.loop-i.seen c.loop-i.specs.items c.loop-i.rest.now (omega arith)) ∙ c.loop-i.invariant
