use Rattle.std.proofs.Common.{ℕ, ◌≡◌, ◌↔◌, true, subst, arith}
use Rattle.operand_orders.specs.Order.{IsStoredByOthers}
use Rattle.operand_orders.specs.reading.Views.{solved}
use Rattle.operand_orders.proofs.Touching.{marks_more}
use Rattle.operand_orders.proofs.others.others_of.Goals as goal

pub loop-cell-preserved : goal.loop-cell-preserved
loop-cell-preserved c =
    let Is = IsStoredByOthers (solved c.args.view) in
    marks_more Is c.loop-cell.cell c.loop-cell.others.items c.push.new.self.items c.is_stored_by_others-is.result
    c.loop-cell.invariant c.in_ok-push.ensures.items
    (subst (λ (k : ℕ). (c.is_stored_by_others-is.result ≡ true) ↔ Is k) c.in_ok-small.ensures
    c.is_stored_by_others-is.ensures)

pub returns : goal.returns
returns c = λ k lt. c.loop-cell.invariant.each k (let count = c.loop-cell.invariant.count in omega (arith, count, lt))
