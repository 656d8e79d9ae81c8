use Rattle.std.proofs.Common.{◌↔◌, IsTrue, sym, subst}
use Rattle.std.specs.Prelude.{IfOk}
use Rattle.operand_orders.specs.reading.Views.{solved}
use Rattle.open_choices.specs.reading.Found.{Finds}
use Rattle.open_choices.proofs.edges.finds.Goals as goal

pub returns-in-Load : goal.returns-in-Load
returns-in-Load c =
    subst (λ look. IfOk c.loads_unset.result (λ is. IsTrue is ↔ Finds (solved c.args.view) c.args.edge c.args.state.now
    look))
    (sym c.in-Load.is) c.loads_unset.ensures

pub returns-in-Store : goal.returns-in-Store
returns-in-Store c =
    subst (λ look. IfOk c.stores_constant.result (λ is. IsTrue is ↔ Finds (solved c.args.view) c.args.edge
    c.args.state.now look))
    (sym c.in-Store.is) c.stores_constant.ensures

pub returns-in-Move : goal.returns-in-Move
returns-in-Move c =
    subst (λ look. IfOk c.is_moved_away.result (λ is. IsTrue is ↔ Finds (solved c.args.view) c.args.edge
    c.args.state.now look))
    (sym c.in-Move.is) c.is_moved_away.ensures

pub returns-in-Negative : goal.returns-in-Negative
returns-in-Negative c =
    subst (λ look. IfOk c.is_negative_store.result (λ is. IsTrue is ↔ Finds (solved c.args.view) c.args.edge
    c.args.state.now look))
    (sym c.in-Negative.is) c.is_negative_store.ensures
