use Rattle.std.proofs.Common.{arith}
use Rattle.tm_laid.specs.Layouts.{laid_tree}
use Rattle.value_ranges.proofs.CellEnds.{cell_noted}
use Rattle.value_ranges.proofs.grouped.note_cell.Goals as goal

pub note-requires : goal.note-requires
note-requires c =
    let cell = (c.object_of.ensures c.in-Some-object_of.object).0 c.in-Some-object_of.is in
    let there = cell.there in
    let room = c.requires.room in
    omega (arith, there, room)

pub returns-in-Some-object_of : goal.returns-in-Some-object_of
returns-in-Some-object_of c =
    let object = c.in-Some-object_of.object in
    let cell = (c.object_of.ensures object).0 c.in-Some-object_of.is in
    let there = cell.there in
    let room = c.requires.room in
    cell_noted (laid_tree c.args.laid.now) c.args.cells.now c.args.cell object c.in-Some.bounds c.in-Some.is cell
    c.requires.proper c.args.noted.now.items c.note.new.noted.items (omega (arith, there, room)) c.note.ensures
