use Rattle.std.proofs.Common.{◌≡◌, ℕ, ℤ, pos, false, ◌+ℤ◌, ◌<ℤ◌, ◌≤ℤ◌, ◌<◌, ◌^◌, FitsSigned, of_z, to_z, arith}
use Rattle.std.specs.Int.{w128}
use Rattle.std.specs.Prelude.{int_rem, unsigned_abs}
use Rattle.std.proofs.lemmas.Int.{ints, to_z-of_z, rem_below, quot_fits}
use Rattle.std.proofs.lemmas.Nat.{pow_pos}
use Rattle.tm_cint.specs.IntTypes.{IsIn, is_signed, width_of}
use Rattle.tm_cint.specs.declared.int_types.IntType.{IntType}
use Rattle.tm_cint.proofs.Wide.{remainder_fits}
use Rattle.transfer_int.proofs.Fitted.{by_rest, by_rest_up}
use Rattle.transfer_int.proofs.Placing.{ends_of}
use Rattle.transfer_int.proofs.RowPairs.{unsigned_start}
use Rattle.transfer_int.proofs.UnsignedProducts.{unsigned_end}
use Rattle.transfer_int.proofs.fittings.turned.Goals as goal

size_kept : (t : IntType) (n : ℕ) → n ≡ 2 ^ width_of t → to_z w128 n ≡ pos (2 ^ width_of t)
size_kept t n e = omega (arith, ints, e, ends_of t)

below : (t : IntType) (v : ℤ) → unsigned_abs (int_rem v (pos (2 ^ width_of t))) < 2 ^ width_of t
below t v = rem_below v (pos (2 ^ width_of t)) (pow_pos (width_of t))

rest_kept : (t : IntType) (v : ℤ) (n : ℕ) → FitsSigned w128 v → n ≡ 2 ^ width_of t
    → to_z w128 (of_z w128 (int_rem (to_z w128 (of_z w128 v)) (to_z w128 n))) ≡ int_rem v (pos (2 ^ width_of t))
rest_kept t v n f e = rw (to_z-of_z _ _ f, size_kept t n e)
    (to_z-of_z w128 (int_rem v (pos (2 ^ width_of t))) (remainder_fits v (pos (2 ^ width_of t)) f))

pub overflow_cast-size : goal.overflow_cast-size
overflow_cast-size c = omega (arith, ints, c.size-size.ensures, ends_of c.args.ty)

pub nonzero_rem-rest : goal.nonzero_rem-rest
nonzero_rem-rest c =
    let some = pow_pos (width_of c.args.ty) in (
      omega (arith, c.size-size.ensures, some),
      rw (to_z-of_z _ _ c.ranges.v, size_kept c.args.ty c.size-size.result c.size-size.ensures)
          (quot_fits w128 c.args.v (pos (2 ^ width_of c.args.ty)) c.ranges.v (omega (arith, ints, some))),
    )

pub overflow_add-result : goal.overflow_add-result
overflow_add-result c =
    let rest = rest_kept c.args.ty c.args.v c.size-size.result c.ranges.v c.size-size.ensures in
    rw (rest, size_kept c.args.ty c.size-size.result c.size-size.ensures)
    (omega (arith, ints, below c.args.ty c.args.v, ends_of c.args.ty))

from_rest : (t : IntType) (v r : ℤ) → is_signed t ≡ false → r ≡ int_rem v (pos (2 ^ width_of t))
    → pos 0 ≤ℤ r → IsIn t r
from_rest t v r u e h = record {
  at_least = omega (arith, ints, unsigned_start t u, h);
  at_most = omega (arith, ints, unsigned_end t u, e, below t v, h);
}

from_rest_up : (t : IntType) (v r : ℤ) → is_signed t ≡ false
    → r ≡ int_rem v (pos (2 ^ width_of t)) +ℤ pos (2 ^ width_of t) → int_rem v (pos (2 ^ width_of t)) <ℤ pos 0
    → IsIn t r
from_rest_up t v r u e h = record {
  at_least = omega (arith, ints, unsigned_start t u, e, below t v);
  at_most = omega (arith, ints, unsigned_end t u, e, h);
}

pub returns-then-rest-lt0-clause-in_type : goal.returns-then-rest-lt0-clause-in_type
returns-then-rest-lt0-clause-in_type c =
    let rest = rest_kept c.args.ty c.args.v c.size-size.result c.ranges.v c.size-size.ensures in
    let size = size_kept c.args.ty c.size-size.result c.size-size.ensures in
    let negative = rw rest at c.if-rest-lt0.true in
    from_rest_up c.args.ty c.args.v _ c.requires
    (rw (rest, size) (to_z-of_z w128 (int_rem c.args.v (pos (2 ^ width_of c.args.ty)) +ℤ pos (2 ^ width_of c.args.ty))
    (omega (arith, ints, below c.args.ty c.args.v, ends_of c.args.ty)))) (omega (arith, ints, negative))

pub returns-then-rest-lt0-clause-congruent : goal.returns-then-rest-lt0-clause-congruent
returns-then-rest-lt0-clause-congruent c =
    let rest = rest_kept c.args.ty c.args.v c.size-size.result c.ranges.v c.size-size.ensures in
    let size = size_kept c.args.ty c.size-size.result c.size-size.ensures in
    by_rest_up (width_of c.args.ty) c.args.v _
    (rw (rest, size) (to_z-of_z w128 (int_rem c.args.v (pos (2 ^ width_of c.args.ty)) +ℤ pos (2 ^ width_of c.args.ty))
    (omega (arith, ints, below c.args.ty c.args.v, ends_of c.args.ty))))

pub returns-else-rest-lt0-clause-in_type : goal.returns-else-rest-lt0-clause-in_type
returns-else-rest-lt0-clause-in_type c =
    let rest = rest_kept c.args.ty c.args.v c.size-size.result c.ranges.v c.size-size.ensures in
    let natural = rw rest at c.if-rest-lt0.false in
    from_rest c.args.ty c.args.v _ c.requires rest (rw rest (omega (arith, ints, natural)))

pub returns-else-rest-lt0-clause-congruent : goal.returns-else-rest-lt0-clause-congruent
returns-else-rest-lt0-clause-congruent c =
    by_rest (width_of c.args.ty) c.args.v _
    (rest_kept c.args.ty c.args.v c.size-size.result c.ranges.v c.size-size.ensures)
