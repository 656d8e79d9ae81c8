use Rattle.std.proofs.Common.{ap, sym, ◌∙◌}
use Rattle.operand_orders.specs.reading.Touches.{is_waiting}
use Rattle.operand_orders.specs.reading.Views.{solved}
use Rattle.operand_orders.proofs.Touching.{waits_then, waits_else}
use Rattle.operand_orders.proofs.touches.waits_at.Goals as goal

pub returns-then-is_waiting : goal.returns-then-is_waiting
returns-then-is_waiting c =
    waits_then (solved c.args.view) c.args.edge
    (ap is_waiting (sym c.operation.ensures) ∙ sym c.is_waiting.ensures ∙ c.if-is_waiting.true) c.is_reached.result
    c.is_reached.ensures

pub returns-else-is_waiting : goal.returns-else-is_waiting
returns-else-is_waiting c =
    let never = waits_else (solved c.args.view) c.args.edge
    (ap is_waiting (sym c.operation.ensures) ∙ sym c.is_waiting.ensures ∙ c.if-is_waiting.false) in
    (λ t. never.0 (sym c.if-is_waiting.false ∙ t), λ w. c.if-is_waiting.false ∙ never.1 w)
