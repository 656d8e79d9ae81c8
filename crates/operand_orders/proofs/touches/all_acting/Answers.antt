use Rattle.std.proofs.Common.{ℕ, ◌≡◌, ◌↔◌, ◌∙◌, true, ap, sym, subst, Bool, arith}
use Rattle.operand_orders.specs.Reached.{operation_at}
use Rattle.operand_orders.specs.Order.{IsActing}
use Rattle.operand_orders.specs.reading.Touches.{is_acting}
use Rattle.operand_orders.specs.reading.Views.{solved}
use Rattle.operand_orders.proofs.Touching.{acting_is, marks_more, marks_all, acts_nowhere}
use Rattle.operand_orders.proofs.touches.all_acting.Goals as goal

pub loop-edge-preserved : goal.loop-edge-preserved
loop-edge-preserved c =
    let op = operation_at (solved c.args.view) c.loop-edge.edge in
    marks_more (λ (edge : ℕ). IsActing (operation_at (solved c.args.view) edge)) c.loop-edge.edge
    c.loop-edge.marks.items
    c.push.new.self.items c.is_acting.result c.loop-edge.invariant c.in_ok-push.ensures.items
    (subst (λ (r : Bool). (r ≡ true) ↔ IsActing op) (sym (c.is_acting.ensures ∙ ap is_acting c.operation.ensures))
    (acting_is op))

pub returns : goal.returns
returns c =
    marks_all (λ (edge : ℕ). IsActing (operation_at (solved c.args.view) edge)) c.loop-edge.edge c.loop-edge.marks.items
    c.loop-edge.invariant (λ k le h. acts_nowhere (solved c.args.view) k (omega (arith, le)) h)
