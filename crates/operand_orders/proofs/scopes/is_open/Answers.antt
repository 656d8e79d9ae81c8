use Rattle.std.proofs.Common.{sym, ◌∙◌}
use Rattle.operand_orders.specs.reading.Views.{solved}
use Rattle.operand_orders.proofs.Lives.{open_is}
use Rattle.operand_orders.proofs.scopes.is_open.Goals as goal

pub returns-else-is_static : goal.returns-else-is_static
returns-else-is_static c =
    open_is (solved c.args.view) c.args.lives.now c.requires.lives c.args.edge c.args.object
    (sym c.is_static.ensures ∙ c.if-is_static.false) c.of.result.now c.of.ensures c.is_in_one.result
    c.is_in_one.ensures
