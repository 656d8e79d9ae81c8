use Rattle.cell_env.proofs.StateOrder.{both_below, not_below}
use Rattle.cell_env.proofs.states.StateLattice.below.Goals as goal

pub returns-then-below : goal.returns-then-below
returns-then-below g c =
    both_below g.V.Lattice.leq _ _ c.args.self.now c.args.other.now c.self.view_is c.other.view_is c.below-then-below.result (c.below.ensures.0 c.if-below.true) c.below-then-below.ensures

pub returns-else-below : goal.returns-else-below
returns-else-below g c =
    not_below g.V.Lattice.leq _ _ c.args.self.now c.args.other.now c.self.view_is c.other.view_is c.below.result c.below.ensures c.if-below.false
