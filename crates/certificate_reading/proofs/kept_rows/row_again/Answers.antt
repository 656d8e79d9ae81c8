use Rattle.tm_laid.specs.Layouts.{laid_tree}
use Rattle.certificate_reading.proofs.RowsAgain.{taken_row}
use Rattle.certificate_reading.proofs.kept_rows.row_again.Goals as goal

pub returns-in-Some : goal.returns-in-Some
returns-in-Some c =
    taken_row (laid_tree c.args.laid.now) c.args.extents.now c.args.text.now c.args.cell c.args.kept c.in-Some.found
    c.in-Some.ensures c.requires.kept
