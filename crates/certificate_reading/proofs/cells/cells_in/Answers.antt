use Rattle.std.proofs.Common.{sym, subst}
use Rattle.tm_laid.specs.Layouts.{laid_tree}
use Rattle.certificate_reading.specs.reading.Cells.{AreCellsIn}
use Rattle.certificate_reading.proofs.CellsRead.{cells_again}
use Rattle.certificate_reading.proofs.cells.cells_in.Goals as goal

pub returns-in_ok-shared-in-Some-clause-cells : goal.returns-in_ok-shared-in-Some-clause-cells
returns-in_ok-shared-in-Some-clause-cells c =
    let laid = laid_tree c.args.laid.now in
    let shape = c.args.shape.now in
    let found = cells_again laid shape c.args.kept.now c.rest.result.now c.in-Some.more.now c.requires.seen
    c.requires.shared c.requires.local c.requires.kept c.in-Some.ensures in
    subst (λ t. AreCellsIn laid shape t c.in_ok-shared-in-Some.field-0 c.turn_to.new.self) c.rest.ensures
    (subst (λ t. AreCellsIn laid shape c.rest.result.now t c.turn_to.new.self) (sym c.in_ok-shared-in-Some.ensures)
    (subst (λ t. AreCellsIn laid shape c.rest.result.now c.args.kept.now.cells t) (sym c.in_ok-turn_to-in-Some.ensures) found))
