use Rattle.std.proofs.Common.{arith}
use Rattle.std.specs.Int.{w128}
use Rattle.std.proofs.lemmas.Int.{ints, clamps, to_z-of_z}
use Rattle.transfer_int.proofs.Fitted.{first_in, last_in, met_exactly, none_met, low_kept, high_kept}
use Rattle.transfer_int.proofs.Placing.{ends_of}
use Rattle.transfer_int.proofs.fittings.met.Goals as goal

pub progression-requires-clause-from : goal.progression-requires-clause-from
progression-requires-clause-from c =
    let low = low_kept c.args.ty c.args.span.lo c.lo.result c.max.result (omega (arith, ints)) (record { sfits = c.max.type_inv }) c.lo.ensures c.max.ensures.value in
    let first = to_z-of_z w128 c.in-Some.row.first (omega (arith, ints)) in
    let f = first_in c.args.ty _ _ _ _ _ c.in-Some.ensures in
    omega (arith, ints, clamps, low, first, f.in_span.low, ends_of c.args.ty)

pub progression-requires-clause-to : goal.progression-requires-clause-to
progression-requires-clause-to c =
    let high = high_kept c.args.ty c.args.span.hi c.hi.result c.min.result (omega (arith, ints)) (record { sfits = c.min.type_inv }) c.hi.ensures c.min.ensures.value in
    let first = to_z-of_z w128 c.in-Some.row.first (omega (arith, ints)) in
    let f = last_in c.args.ty _ _ _ _ _ c.in-Some.ensures in
    omega (arith, ints, clamps, high, first, f.in_span.high, ends_of c.args.ty)

pub returns-in-None : goal.returns-in-None
returns-in-None c =
    none_met c.args.ty _ c.args.class _ _ c.empty.result
    (low_kept c.args.ty c.args.span.lo c.lo.result c.max.result (omega (arith, ints)) (record { sfits = c.max.type_inv }) c.lo.ensures c.max.ensures.value)
    (high_kept c.args.ty c.args.span.hi c.hi.result c.min.result (omega (arith, ints)) (record { sfits = c.min.type_inv }) c.hi.ensures c.min.ensures.value)
    c.in-None.ensures c.empty.ensures

pub returns-in-Some : goal.returns-in-Some
returns-in-Some c =
    let first = to_z-of_z w128 c.in-Some.row.first (omega (arith, ints)) in
    met_exactly c.args.ty _ c.args.class c.in-Some.row.first c.in-Some.row.extent c.in-Some.row.step _ _ c.progression.result
    (low_kept c.args.ty c.args.span.lo c.lo.result c.max.result (omega (arith, ints)) (record { sfits = c.max.type_inv }) c.lo.ensures c.max.ensures.value)
    (high_kept c.args.ty c.args.span.hi c.hi.result c.min.result (omega (arith, ints)) (record { sfits = c.min.type_inv }) c.hi.ensures c.min.ensures.value)
    c.in-Some.ensures (rw first at c.progression.ensures)
