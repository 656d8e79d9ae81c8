use Rattle.std.proofs.Common.{◌≡◌}
use Rattle.std.specs.FinMap.{get}
use Rattle.std.proofs.lemmas.Result.{IfOk-weaker}
use Rattle.pointer_dom.specs.Values.{Values, joined_values}
use Rattle.post_recheck.specs.transfer_rows.StateForms.{own_of}
use Rattle.operand_orders.specs.reading.Operands.{IsJoinedBy}
use Rattle.operand_orders.proofs.Joining.{joined_by, joined_none}
use Rattle.operand_orders.proofs.order.joined_in.Goals as goal

pub returns-in-Some : goal.returns-in-Some
returns-in-Some c =
    IfOk-weaker c.join.result (λ (both : Values). both ≡ joined_values c.args.joined c.in-Some.entry.now.value)
    (λ (both : Values). IsJoinedBy (own_of c.args.state.now c.args.cell) c.args.joined both)
    (λ both h. joined_by (get c.args.state.now.cells c.args.cell) c.in-Some.entry.now c.in-Some.ensures
    c.args.joined both
    h) c.join.ensures

pub returns-in-None : goal.returns-in-None
returns-in-None c = joined_none (get c.args.state.now.cells c.args.cell) c.in-None.ensures c.args.joined
