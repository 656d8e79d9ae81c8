use Rattle.operand_orders.specs.reading.Touches.{IsSeenAt, AreMarksOf}
use Rattle.std.proofs.lemmas.Result.{IfOk-weaker}
use Rattle.operand_orders.specs.reading.Marks.{AreMarks}
use Rattle.operand_orders.specs.reading.Views.{solved}
use Rattle.operand_orders.proofs.Touching.{marks_told}
use Rattle.operand_orders.proofs.touches.seen_of.Goals as goal

pub returns : goal.returns
returns c =
    let marks = c.in_ok-marks.marks.items in
    IfOk-weaker c.marks_of.result (AreMarks marks) (AreMarksOf (IsSeenAt (solved c.args.view)))
    (λ made h. marks_told (IsSeenAt (solved c.args.view)) marks c.in_ok-marks.ensures made h) c.marks_of.ensures
