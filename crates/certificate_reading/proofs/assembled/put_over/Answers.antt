use Rattle.certificate_reading.specs.reading.Cells.{cell_with}
use Rattle.certificate_reading.proofs.PuttingOver.{put_again}
use Rattle.certificate_reading.proofs.assembled.put_over.Goals as goal

pub returns-then-stands : goal.returns-then-stands
returns-then-stands c =
    put_again c.args.cells.now c.args.cell (cell_with c.args.value.now c.args.marks) (c.stands.ensures c.if-stands.true)
