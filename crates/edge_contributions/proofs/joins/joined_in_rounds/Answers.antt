use Rattle.std.proofs.Common.{◌≡◌, sym, ap, subst}
use Rattle.edge_contributions.specs.reading.Bounds.{HaveSameBounds}
use Rattle.edge_contributions.proofs.BoundsKept.{same_again}
use Rattle.edge_contributions.proofs.joins.joined_in_rounds.Goals as goal
use Rattle.edge_contributions.proofs.joins.joined_in_rounds.Goals.{then-len-ge2+in_ok-left, else-len-ge2}

pub loop-round-preserved : goal.loop-round-preserved
loop-round-preserved g c =
    let met = g.met.V.Lattice g.world.𝓛 g.world.𝓜 g.world.𝓡 ((λ s x. x), (λ x. x), (λ x. x), λ x. x) in
    elim c.if-len-ge2.branch [
      | then-len-ge2+in_ok-left w ↦
          let here : w.deref.result.now ≡ c.loop-round.left.items = search in
          subst (HaveSameBounds g.V.Lattice.is_value g.V.Lattice.leq c.args.parts.items) (sym (ap (λ v. v.items) w.left-is))
          (same_again g.V.Lattice.is_value g.V.Lattice.leq g.V.Lattice.joined met.order met.join_laws c.args.parts.items
          c.loop-round.left.items w.in_ok-left.left.items c.loop-round.invariant
          (subst (λ xs. HaveSameBounds g.V.Lattice.is_value g.V.Lattice.leq xs w.in_ok-left.left.items) here
          w.in_ok-left.ensures))
      | else-len-ge2 w ↦ subst (HaveSameBounds g.V.Lattice.is_value g.V.Lattice.leq c.args.parts.items)
          (sym (ap (λ v. v.items) w.left-is)) c.loop-round.invariant
    ]
