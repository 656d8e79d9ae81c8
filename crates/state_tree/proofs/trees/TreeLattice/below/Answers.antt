use Rattle.std.proofs.Common.{sym, subst}
use Rattle.tm_lattice.specs.Tables.{IsTableBelow}
use Rattle.state_tree.specs.reading.Parts.{together}
use Rattle.state_tree.proofs.Parting.{together_below, below_together, have_parts}
use Rattle.state_tree.proofs.trees.TreeLattice.below.Goals as goal

pub returns : goal.returns
returns g c =
    let leq = g.V.Lattice.leq in
    let one = c.self.inside.parts in
    let other = c.other.inside.parts in
    let parts = have_parts g.V.Lattice.is_value g.V.Lattice.nothing one c.is_nothing-empty.ensures.value in (
      λ yes. subst (λ s. IsTableBelow leq s c.args.other.now) c.self.view_is (subst (IsTableBelow leq (together one)) c.other.view_is
          (together_below 8 leq one other c.self.invariant c.other.invariant (c.below.ensures.0 yes))),
      λ le. c.below.ensures.1 (below_together 8 leq one other c.self.invariant c.other.invariant parts
          (subst (λ s. IsTableBelow leq s (together other)) (sym c.self.view_is) (subst (IsTableBelow leq c.args.self.now) (sym c.other.view_is) le))),
    )
