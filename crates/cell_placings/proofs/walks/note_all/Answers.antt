use Rattle.std.proofs.Common.{arith}
use Rattle.cell_placings.proofs.Noting.{noted_none, noted_next, noted_all}
use Rattle.cell_placings.proofs.walks.note_all.Goals as goal

pub loop-cell-init : goal.loop-cell-init
loop-cell-init c = noted_none c.args.time c.args.next c.args.seen c.args.histories.now

pub loop-cell-preserved : goal.loop-cell-preserved
loop-cell-preserved c =
    noted_next c.args.time c.args.next c.args.seen c.args.cells.now c.loop-cell.cell-index c.args.histories.now
    c.loop-cell.histories c.note_one.new.histories (omega arith) c.requires c.loop-cell.invariant
    (c.in_ok-note_one.ensures c.if-not-branch.false)

pub returns : goal.returns
returns c = λ e.
    noted_all c.args.time c.args.next c.args.seen c.args.cells.now c.loop-cell.cell-index c.args.histories.now
    c.loop-cell.histories (omega arith) c.loop-cell.invariant
