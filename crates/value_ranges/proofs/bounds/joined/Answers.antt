use Rattle.std.proofs.Common.{subst, sym, to_z, of_z, arith}
use Rattle.std.specs.Int.{w128}
use Rattle.std.proofs.lemmas.Int.{ints, to_z-of_z}
use Rattle.value_ranges.specs.reading.Notes.{IsJoined}
use Rattle.value_ranges.proofs.Widening.{joined_none, joined_some}
use Rattle.value_ranges.proofs.bounds.joined.Goals as goal

pub returns-in-None : goal.returns-in-None
returns-in-None c = joined_none c.args.old c.args.more c.in-None.is

pub returns-in-Some : goal.returns-in-Some
returns-in-Some c =
    let low = to_z-of_z w128 c.least_of.result (omega (arith, ints, c.least_of.type_inv)) in
    let high = to_z-of_z w128 c.greatest_of.result (omega (arith, ints, c.greatest_of.type_inv)) in
    subst (λ z. IsJoined c.args.old c.args.more (record {
      object = c.args.more.object;
      low = z;
      high = to_z w128 (of_z w128 c.greatest_of.result);
    })) (sym low)
    (subst (λ z. IsJoined c.args.old c.args.more (record {
      object = c.args.more.object;
      low = c.least_of.result;
      high = z;
    })) (sym high)
    (joined_some c.args.old c.in-Some.bounds c.args.more c.in-Some.is c.least_of.result c.greatest_of.result
    c.least_of.ensures.one c.least_of.ensures.other c.least_of.ensures.is c.greatest_of.ensures.one
    c.greatest_of.ensures.other c.greatest_of.ensures.is))
