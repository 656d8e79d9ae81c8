use Rattle.std.proofs.Common.{List, ◌↔◌, subst}
use Rattle.std.specs.Prelude.{Contains}
use Rattle.std.proofs.lemmas.Result.{IfOk-weaker}
use Rattle.operand_orders.specs.declared.pairs.Pair.{Pair}
use Rattle.operand_orders.specs.Order.{IsInitialising}
use Rattle.operand_orders.specs.reading.Touches.{AreAccesses, Changes, IsTableOf}
use Rattle.operand_orders.specs.reading.Views.{solved}
use Rattle.operand_orders.proofs.Touching.{changes_told, table_is}
use Rattle.operand_orders.proofs.touches.stores_by_expressions.Goals as goal

pub returns : goal.returns
returns c =
    let b = solved c.args.view in
    let pairs = c.in_ok-pairs.pairs.items in
    let told = subst (λ (xs : List Pair). (p : Pair) → Contains pairs p
    ↔ (Contains xs p × (IsInitialising b p.first → ⊥))) c.all.ensures c.in_ok-pairs.ensures in
    IfOk-weaker c.accesses_of.result (AreAccesses pairs) (IsTableOf (Changes b))
    (λ made h. table_is (Changes b) pairs made h (changes_told b c.args.stores.now c.requires pairs told))
    c.accesses_of.ensures
