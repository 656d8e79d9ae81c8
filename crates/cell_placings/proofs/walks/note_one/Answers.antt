use Rattle.std.proofs.Common.{arith}
use Rattle.cell_placings.proofs.Noting.{noted_at}
use Rattle.cell_placings.proofs.walks.note_one.Goals as goal

pub returns : goal.returns
returns c = λ e.
    noted_at c.args.time c.args.next c.args.seen c.args.histories.now c.args.cell c.index-histories-cell.result
    c.note.new.self c.keeper-node.result (omega arith) c.keeper-node.ensures
    (c.in_ok-note.ensures e)
