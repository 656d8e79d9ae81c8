use Rattle.interfere_set.proofs.StoreOrder.{both_below, not_below}
use Rattle.interfere_set.proofs.stores.StoreLattice.below.Goals as goal

pub returns-then-below : goal.returns-then-below
returns-then-below c =
    both_below _ _ c.args.self.now c.args.other.now c.self.view_is c.other.view_is c.below-then-below.result (c.below.ensures.0 c.if-below.true) c.below-then-below.ensures

pub returns-else-below : goal.returns-else-below
returns-else-below c = not_below _ _ c.args.self.now c.args.other.now c.self.view_is c.other.view_is c.below.result c.below.ensures c.if-below.false
