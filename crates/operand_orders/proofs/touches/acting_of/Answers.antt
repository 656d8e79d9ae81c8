use Rattle.std.proofs.Common.{ℕ}
use Rattle.operand_orders.specs.Reached.{operation_at}
use Rattle.operand_orders.specs.Order.{IsActing}
use Rattle.operand_orders.specs.reading.Touches.{AreMarksOf}
use Rattle.std.proofs.lemmas.Result.{IfOk-weaker}
use Rattle.operand_orders.specs.reading.Marks.{AreMarks}
use Rattle.operand_orders.specs.reading.Views.{solved}
use Rattle.operand_orders.proofs.Touching.{marks_told}
use Rattle.operand_orders.proofs.touches.acting_of.Goals as goal

pub returns : goal.returns
returns c =
    let marks = c.in_ok-marks.marks.items in
    IfOk-weaker c.marks_of.result (AreMarks marks) (AreMarksOf (λ (edge : ℕ). IsActing (operation_at (solved
    c.args.view) edge)))
    (λ made h. marks_told (λ (edge : ℕ). IsActing (operation_at (solved c.args.view) edge)) marks
    c.in_ok-marks.ensures made h) c.marks_of.ensures
