use Rattle.std.proofs.Common.{◌∙◌, sym, arith}
use Rattle.value_ranges.proofs.Listing.{object_of_number, value_noted, no_value_noted}
use Rattle.value_ranges.proofs.cells.note_value.Goals as goal

pub note-requires : goal.note-requires
note-requires c =
    let same = object_of_number c.args.object c.args.initial c.in-Some.bounds
    (sym c.first_bounds.ensures ∙ c.in-Some.is) in
    let lt = c.requires in
    omega (arith, same, lt)

pub returns-in-Some : goal.returns-in-Some
returns-in-Some c =
    value_noted c.args.object c.args.initial c.in-Some.bounds (sym c.first_bounds.ensures ∙ c.in-Some.is)
    c.args.noted.now.items c.note.new.noted.items c.requires c.note.ensures

pub returns-in_default : goal.returns-in_default
returns-in_default c =
    no_value_noted c.args.object c.args.initial (sym c.first_bounds.ensures ∙ c.in_default.is) c.args.noted.now.items
