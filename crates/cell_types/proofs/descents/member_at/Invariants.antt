use Rattle.std.proofs.Common.{◌≡◌, drop}
use Rattle.tm_typed.specs.Scopes.{cells_of}
use Rattle.tm_typed.specs.TypedFiles.{typed_file_tree}
use Rattle.tm_laid.specs.Layable.{tables_of}
use Rattle.cell_types.specs.reading.Descents.{member_at}
use Rattle.cell_types.proofs.descents.member_at.Given as goal

abbrev pub invariant-loop-member : goal.invariant-loop-member
invariant-loop-member l =
    let count = cells_of (tables_of (typed_file_tree l.file)) in
    member_at count (drop l.member-index l.members) l.cell ≡ member_at count l.members l.initial.cell
