use Rattle.std.proofs.Common.{◌+◌, ◌-◌, length, sym, ◌∙◌, arith}
use Rattle.c_expr_parser.proofs.TypeSteps.{pointers_stop, pointers_done, pointers_next}
use Rattle.c_expr_parser.proofs.type_names.read_pointers.Goals as goal

pub loop-i-preserved : goal.loop-i-preserved
loop-i-preserved c =
    let next = pointers_next (length c.args.tokens.now - c.loop-i._i) (length c.args.tokens.now - (c.loop-i._i + 1)) c.loop-i.started c.loop-i.words.items c.loop-i.rest.now c.in-Some.word (omega arith) (sym c.in-Some.ensures) in
    let pushed = c.in_ok-push_pointer-in-Some.ensures in let rest = c.without_first-rest.ensures in let before = c.loop-i.invariant in cc

pub returns-in-None : goal.returns-in-None
returns-in-None c =
    sym (pointers_stop (length c.args.tokens.now - c.loop-i._i) c.loop-i.started c.loop-i.words.items c.loop-i.rest.now (sym c.in-None.ensures)) ∙ c.loop-i.invariant

pub returns : goal.returns
returns c =
    sym (pointers_done (length c.args.tokens.now - c.loop-i._i) c.loop-i.started c.loop-i.words.items c.loop-i.rest.now (omega arith)) ∙ c.loop-i.invariant
