use Rattle.std.proofs.Common.{◌≡◌, pos, ◌+ℤ◌, to_z, refl, arith}
use Rattle.std.specs.Int.{w128}
use Rattle.std.proofs.lemmas.Int.{ints, to_z-of_z}
use Rattle.transfer_int.proofs.Fitted.{first_in, last_in, by_last, first_outside, refuted}
use Rattle.transfer_int.proofs.fittings.leaves.Goals as goal

pub returns-then-not-holds : goal.returns-then-not-holds
returns-then-not-holds c =
    let low = to_z-of_z w128 c.args.span.lo (omega (arith, ints)) in
    let high = to_z-of_z w128 c.args.span.hi (omega (arith, ints)) in
    let first = to_z-of_z w128 c.in-Some.row.first (omega (arith, ints)) in
    (λ e. first_outside c.args.ty _ _ _ _ _ (rw (low, high) at c.in-Some.ensures) (refuted c.holds.result (rw first at c.holds.ensures) c.if-not-holds.true), λ o. refl)

pub overflow_cast-row : goal.overflow_cast-row
overflow_cast-row c =
    let low = to_z-of_z w128 c.args.span.lo (omega (arith, ints)) in
    let high = to_z-of_z w128 c.args.span.hi (omega (arith, ints)) in
    let f = first_in c.args.ty _ _ _ _ _ c.in-Some.ensures in
    let l = last_in c.args.ty _ _ _ _ _ c.in-Some.ensures in
    omega (arith, ints, low, high, f.in_span.low, l.in_span.high, c.requires.narrow)

pub overflow_add-row : goal.overflow_add-row
overflow_add-row c =
    let low = to_z-of_z w128 c.args.span.lo (omega (arith, ints)) in
    let high = to_z-of_z w128 c.args.span.hi (omega (arith, ints)) in
    let first = to_z-of_z w128 c.in-Some.row.first (omega (arith, ints)) in
    let f = first_in c.args.ty _ _ _ _ _ c.in-Some.ensures in
    let l = last_in c.args.ty _ _ _ _ _ c.in-Some.ensures in
    let n : to_z w128 c.in-Some.row.extent ≡ pos c.in-Some.row.extent = omega (arith, ints, low, high, f.in_span.low, l.in_span.high, c.requires.narrow) in
    omega (arith, ints, low, high, first, n, f.in_span.low, l.in_span.high)

pub returns-else-not-holds : goal.returns-else-not-holds
returns-else-not-holds c =
    let low = to_z-of_z w128 c.args.span.lo (omega (arith, ints)) in
    let high = to_z-of_z w128 c.args.span.hi (omega (arith, ints)) in
    let first = to_z-of_z w128 c.in-Some.row.first (omega (arith, ints)) in
    let f = first_in c.args.ty _ _ _ _ _ c.in-Some.ensures in
    let l = last_in c.args.ty _ _ _ _ _ c.in-Some.ensures in
    let extent : to_z w128 c.in-Some.row.extent ≡ pos c.in-Some.row.extent = omega (arith, ints, low, high, f.in_span.low, l.in_span.high, c.requires.narrow) in
    let last = to_z-of_z w128 (c.in-Some.row.first +ℤ pos c.in-Some.row.extent) (omega (arith, ints, low, high, f.in_span.low, l.in_span.high)) in
    by_last c.args.ty _ _ _ _ _ c.holds-in-Some.result (rw (first, extent, last) at c.holds-in-Some.ensures) (rw (low, high) at c.in-Some.ensures)
    ((rw first at c.holds.ensures).0 c.if-not-holds.false)
