use Rattle.std.proofs.Common.{◌≡◌, to_z, of_z, nat_abs, arith}
use Rattle.std.specs.Int.{w128}
use Rattle.std.proofs.lemmas.Int.{ints}
use Rattle.strided_dom.specs.Progression.{stride_of}
use Rattle.strided_dom.proofs.Reach.{kept}
use Rattle.transfer_int.proofs.Placing.{start_in, start_kept, wrapped_none, strides_divide, some_member, wrapped_exactly}
use Rattle.transfer_int.proofs.conversions.wrapped.Goals as goal

pub returns-then-is_empty : goal.returns-then-is_empty
returns-then-is_empty c = wrapped_none _ _ (c.is_empty.ensures.0 c.if-is_empty.true)

pub placed-requires-clause-in_type : goal.placed-requires-clause-in_type
placed-requires-clause-in_type c = start_in _ _ _ c.requires c.convert.ensures

pub placed-requires-clause-congruent : goal.placed-requires-clause-congruent
placed-requires-clause-congruent c =
    let d = strides_divide c.args.a.now (some_member _ _ c.is_empty.ensures c.if-is_empty.false) in
    let m : nat_abs (to_z w128 (of_z w128 c.stride.result)) ≡ stride_of c.args.a.now = omega (arith, ints, c.stride.ensures.value, c.stride.ensures.bound) in
    rw (m, c.abs_diff.ensures, kept c.hi.ensures.in_reach, kept c.lo-2.ensures.in_reach, c.hi.ensures.value, c.lo-2.ensures.value) d

pub returns : goal.returns
returns c =
    let m : nat_abs (to_z w128 (of_z w128 c.stride.result)) ≡ stride_of c.args.a.now = omega (arith, ints, c.stride.ensures.value, c.stride.ensures.bound) in
    let x = rw (kept c.lo.ensures.in_reach, c.lo.ensures.value) at c.convert.ensures in
    let e = rw (kept c.hi.ensures.in_reach, kept c.lo-2.ensures.in_reach, c.hi.ensures.value, c.lo-2.ensures.value) at c.abs_diff.ensures in
    wrapped_exactly c.args.ty c.args.a.now c.placed.result (to_z w128 (of_z w128 c.convert.result)) c.abs_diff.result _ c.requires (some_member _ _ c.is_empty.ensures c.if-is_empty.false)
    (start_kept _ _ _ c.requires x) e m c.placed.ensures
