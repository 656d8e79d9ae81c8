use Rattle.std.proofs.Common.{◌≡◌, drop}
use Rattle.tm_laid.specs.Layouts.{laid_tree, begins_with, scalars_from, scalars_of_type, stands_at}
use Rattle.cell_types.proofs.stands.stands_at.Given as goal

abbrev pub invariant-loop-cell : goal.invariant-loop-cell
invariant-loop-cell l =
    let laid = laid_tree l.laid in
    begins_with (drop l.cell (scalars_from laid l.object l.offset)) (drop l.cell (scalars_of_type laid.file l.of)) ≡ stands_at laid l.object l.offset l.of
