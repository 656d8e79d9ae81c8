use Rattle.std.proofs.Common.{ℕ, ◌≡◌, ◌↔◌, true, subst, arith}
use Rattle.operand_orders.specs.reading.Touches.{IsSeenAt}
use Rattle.operand_orders.specs.reading.Views.{solved}
use Rattle.operand_orders.proofs.Touching.{marks_more, marks_all, seen_below}
use Rattle.operand_orders.proofs.touches.all_seen.Goals as goal

pub loop-edge-preserved : goal.loop-edge-preserved
loop-edge-preserved c =
    let Is = IsSeenAt (solved c.args.view) in
    marks_more Is c.loop-edge.edge c.loop-edge.marks.items c.push.new.self.items c.seen_at.result c.loop-edge.invariant
    c.in_ok-push.ensures.items
    (subst (λ (e : ℕ). (c.seen_at.result ≡ true) ↔ Is e) c.in_ok-held.ensures c.seen_at.ensures)

pub returns : goal.returns
returns c =
    marks_all (IsSeenAt (solved c.args.view)) c.loop-edge.edge c.loop-edge.marks.items c.loop-edge.invariant
    (λ k le h. let below = seen_below c.args.view c.requires.indexed k h in absurd (omega (arith, le, below)))
