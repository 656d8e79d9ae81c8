use Rattle.std.proofs.Common.{true}
use Rattle.std.proofs.lemmas.Result.{IfOk-weaker}
use Rattle.operand_orders.specs.Reached.{Stores}
use Rattle.operand_orders.specs.reading.Touches.{AreAccesses, Reaches, IsTableOf}
use Rattle.operand_orders.specs.reading.Views.{solved}
use Rattle.operand_orders.proofs.Touching.{stores_are, table_is, retold}
use Rattle.operand_orders.proofs.touches.stores_of.Goals as goal

pub returns : goal.returns
returns c =
    let b = solved c.args.view in
    let pairs = c.in_ok-pairs.pairs.items in
    IfOk-weaker c.accesses_of.result (AreAccesses pairs) (IsTableOf (Stores b))
    (λ made h. table_is (Stores b) pairs made h
    (retold (Reaches b true) (Stores b) (stores_are b) pairs c.in_ok-pairs.ensures)) c.accesses_of.ensures
