use Rattle.tm_laid.specs.Layouts.{laid_tree}
use Rattle.value_ranges.proofs.Listing.{cell_key}
use Rattle.value_ranges.proofs.cells.own_key.Goals as goal

pub returns-in-Some : goal.returns-in-Some
returns-in-Some c = λ key.
    cell_key (laid_tree c.args.laid.now) c.args.cell c.object_of.result c.object_of.ensures key c.in-Some.field-0
    c.in-Some.is
