use Rattle.std.proofs.Common.{subst, to_z, of_z, arith}
use Rattle.std.specs.Int.{w128}
use Rattle.std.proofs.lemmas.Int.{ints, to_z-of_z}
use Rattle.value_ranges.specs.reading.Notes.{HasNoted}
use Rattle.value_ranges.proofs.Widening.{numbers_noted, no_numbers}
use Rattle.value_ranges.proofs.bounds.note_numbers.Goals as goal

pub returns-then-not-is_empty : goal.returns-then-not-is_empty
returns-then-not-is_empty c =
    let low = to_z-of_z w128 c.lo-low.result (omega (arith, ints, c.lo-low.type_inv)) in
    let high = to_z-of_z w128 c.hi-high.result (omega (arith, ints, c.hi-high.type_inv)) in
    let noted = c.args.noted.now.items in
    let new = c.note.new.noted.items in
    numbers_noted c.args.object c.args.numbers c.lo-low.result c.hi-high.result c.lo-low.ensures.least
    c.hi-high.ensures.greatest noted new c.requires
    (subst (λ z. HasNoted (record { object = c.args.object; low = z; high = c.hi-high.result }) noted new) low
    (subst (λ z. HasNoted (record {
      object = c.args.object;
      low = to_z w128 (of_z w128 c.lo-low.result);
      high = z;
    }) noted new) high c.note.ensures))

pub returns-else-not-is_empty : goal.returns-else-not-is_empty
returns-else-not-is_empty c =
    no_numbers c.args.noted.now.items c.args.object c.args.numbers (c.is_empty.ensures.0 c.if-not-is_empty.false)
