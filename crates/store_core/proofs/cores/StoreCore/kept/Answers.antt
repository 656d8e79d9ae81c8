use Rattle.std.proofs.Common.{◌≤◌, length, None, ap, subst, arith}
use Rattle.store_core.specs.KeptValues.{IsKept}
use Rattle.store_core.proofs.Keeping.{kept_outside}
use Rattle.store_core.proofs.cores.StoreCore.kept.Goals as goal

pub returns-in-None : goal.returns-in-None
returns-in-None g c =
    let core = c.self.invariant in
    let look = c.in-None.ensures.lookup in
    let le : length c.self.inside.slots.items ≤ c.args.task = omega (arith, look.3, ap length c.deref.ensures.value) in
    subst (λ k. IsKept g.P.Store.Lattice g.P.Passer g.P.Warm.made g.P.Warm.made_over k.program k.past c.args.task None) c.self.view_is
    (kept_outside g.P.Store.Lattice g.P.Passer g.P.Warm.made g.P.Warm.made_over _ _ _ _ _ _ _ core c.args.task le)
