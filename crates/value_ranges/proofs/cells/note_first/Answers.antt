use Rattle.std.proofs.Common.{arith}
use Rattle.tm_laid.specs.Layouts.{laid_tree}
use Rattle.value_ranges.proofs.Listing.{key_there, first_noted}
use Rattle.value_ranges.proofs.cells.note_first.Goals as goal

pub note_value-requires : goal.note_value-requires
note_value-requires c =
    let cell = (c.key_of.ensures c.in-Some.object).0 c.in-Some.is in
    let there = key_there c.args.grouping (laid_tree c.args.laid.now) c.in-Some.object _ cell in
    let room = c.requires.room in
    omega (arith, there, room)

pub returns-in-Some : goal.returns-in-Some
returns-in-Some c =
    first_noted c.args.grouping (laid_tree c.args.laid.now) c.args.cell c.index.result.now c.index.ensures
    (let lt = c.if-cell-len.true in let len = c.len.ensures in let ok = c.args.laid.now.cells.ok.0 in
    omega (arith, lt, len, ok)) c.key_of.result c.key_of.ensures c.index-in-Some.result.now
    c.index-in-Some.ensures c.requires.cell c.in-Some.object c.in-Some.is c.args.noted.now.items
    c.note_value.new.noted.items c.note_value.ensures
