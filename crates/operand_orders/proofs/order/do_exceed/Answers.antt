use Rattle.std.proofs.Common.{◌∙◌, ◌≤◌, length, sym, arith}
use Rattle.std.proofs.lemmas.Bool.{true≢false}
use Rattle.operand_orders.specs.reading.Operands.{Exceeds}
use Rattle.operand_orders.specs.reading.Views.{solved}
use Rattle.operand_orders.proofs.Elements.{found_one, none_more, none_found}
use Rattle.operand_orders.proofs.order.do_exceed.Goals as goal

pub returns-then-exceeds : goal.returns-then-exceeds
returns-then-exceeds c =
    found_one (Exceeds (solved c.args.view) c.args.cell c.args.joined.now) c.args.copies.now c.loop-copy.copy-index 0
    c.loop-copy-test.true (c.exceeds.ensures.0 c.if-exceeds.true)

pub loop-copy-preserved : goal.loop-copy-preserved
loop-copy-preserved c =
    none_more (Exceeds (solved c.args.view) c.args.cell c.args.joined.now) c.args.copies.now c.loop-copy.copy-index 0
    c.loop-copy-test.true (λ h. true≢false (sym (c.exceeds.ensures.1 h) ∙ c.if-exceeds.false)) c.loop-copy.invariant

pub returns : goal.returns
returns c =
    let end : length c.args.copies.now ≤ c.loop-copy.copy-index = omega arith in
    none_found (Exceeds (solved c.args.view) c.args.cell c.args.joined.now) c.args.copies.now c.loop-copy.copy-index end
    c.loop-copy.invariant
