use Rattle.std.proofs.Common.{◌≤◌, length, sym, ap, ◌∙◌, arith}
use Rattle.store_core.specs.Histories.{lent_to}
use Rattle.store_core.specs.reading.Slots.{loan_at}
use Rattle.store_core.proofs.Keeping.{idle_outside}
use Rattle.store_core.proofs.cores.StoreCore.lent.Goals as goal

pub returns-in-None : goal.returns-in-None
returns-in-None g c =
    let core = c.self.invariant in
    let look = c.in-None.ensures.lookup in
    let le : c.self.inside.workers ≤ c.args.worker = omega (arith, look.3, ap length c.deref.ensures.value, core.loan_count) in
    let idle = idle_outside g.P.Store.Lattice g.P.Passer g.P.Warm.made g.P.Warm.made_over _ _ _ _ _ _ _ core c.args.worker le in
    ap (loan_at g.P.Store.Lattice g.P.Passer g.P.Warm.made g.P.Warm.made_over c.args.self.now.program c.args.self.now.past) (sym idle ∙ ap (λ k. lent_to k.past c.args.worker) c.self.view_is)
