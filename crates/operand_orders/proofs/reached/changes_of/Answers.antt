use Rattle.std.proofs.Common.{◌↔◌, ◌≤◌, length, subst, arith}
use Rattle.std.specs.Prelude.{Contains}
use Rattle.std.proofs.lemmas.List.{take_all}
use Rattle.operand_orders.specs.Order.{IsInitialising}
use Rattle.operand_orders.specs.reading.Views.{solved}
use Rattle.access_races.proofs.Joins.{grown}
use Rattle.operand_orders.proofs.Touching.{change_more}
use Rattle.operand_orders.proofs.reached.changes_of.Goals as goal

pub loop-store-preserved : goal.loop-store-preserved
loop-store-preserved c = λ p.
    grown (c.in_ok-add_change.ensures p) (c.loop-store.invariant p)
    (change_more (IsInitialising (solved c.args.view)) c.args.stores.now c.loop-store.store-index c.loop-store-test.true
    p)

pub returns : goal.returns
returns c = λ p.
    let end : length c.args.stores.now ≤ c.loop-store.store-index = omega arith in
    subst (λ xs. Contains c.loop-store.changes.items p
    ↔ (Contains xs p × (IsInitialising (solved c.args.view) p.first → ⊥)))
    (take_all c.loop-store.store-index c.args.stores.now end) (c.loop-store.invariant p)
