use Rattle.std.proofs.Common.{◌≡◌, ◌↔◌, ◌⊎◌, ◌≤◌, length, get_or, subst, arith}
use Rattle.std.specs.Prelude.{Contains}
use Rattle.std.proofs.lemmas.List.{take_all}
use Rattle.operand_orders.specs.reading.Pairs.{pair}
use Rattle.access_races.proofs.Joins.{joined, pushed}
use Rattle.operand_orders.proofs.Touching.{cells_more}
use Rattle.operand_orders.proofs.reached.add_cells.Goals as goal

pub loop-cell-preserved : goal.loop-cell-preserved
loop-cell-preserved c = λ p.
    joined (pushed c.loop-cell.pairs.items c.push.new.self.items
    (pair c.args.edge (get_or c.args.cells.now c.loop-cell.cell-index 0)) c.in_ok-push.ensures.items p)
    (c.loop-cell.invariant p)
    (cells_more c.args.cells.now c.loop-cell.cell-index c.loop-cell-test.true c.args.edge p)

pub returns : goal.returns
returns c = λ p.
    let end : length c.args.cells.now ≤ c.loop-cell.cell-index = omega arith in
    subst (λ cells. Contains c.loop-cell.pairs.items p
    ↔ (Contains c.args.pairs.now.items p ⊎ ((p.first ≡ c.args.edge) × Contains cells p.second)))
    (take_all c.loop-cell.cell-index c.args.cells.now end) (c.loop-cell.invariant p)
