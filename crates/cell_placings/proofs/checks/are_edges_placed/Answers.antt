use Rattle.std.proofs.Common.{◌≡◌, arith, subst}
use native.Mathlib.Decide.{dec_lt}
use Rattle.cell_placings.specs.OwnerTrees.{tree_of}
use Rattle.cell_placings.specs.Checks.{IsEdgePlaced}
use Rattle.cell_placings.proofs.checks.are_edges_placed.Goals as goal

pub loop-edge-preserved : goal.loop-edge-preserved
loop-edge-preserved c = λ e lt.
    elim (dec_lt e c.loop-edge.edge) [
      | yes l ↦ c.loop-edge.invariant e l
      | no m ↦ (let here : c.loop-edge.edge ≡ e = omega (arith, m, lt) in
          subst (λ k. IsEdgePlaced c.args.graph.now (tree_of c.args.owners.now) k) here
          (c.is_edge_placed.ensures.0 c.if-not-is_edge_placed.false))
    ]
