use Rattle.std.proofs.Common.{◌≡◌, pos, ◌+ℤ◌, ◌-ℤ◌, to_z, refl, sym, subst, arith}
use Rattle.std.specs.Prelude.{MatchOption, unsigned_abs}
use Rattle.std.specs.Int.{w128}
use Rattle.std.proofs.lemmas.Int.{ints, to_z-of_z}
use Rattle.transfer_int.specs.reading.Fittings.{IsMember, AreMembers, from_to}
use Rattle.transfer_int.proofs.Fitted.{none_in, all_in, modulo_zero}
use Rattle.transfer_int.proofs.fittings.members.Goals as goal

pub returns-then-step-eq0 : goal.returns-then-step-eq0
returns-then-step-eq0 c =
    let low = to_z-of_z _ _ c.ranges.lo in
    let high = to_z-of_z _ _ c.ranges.hi in
    let residue = to_z-of_z w128 c.args.class.residue (omega (arith, ints)) in
    let modulus = to_z-of_z w128 c.args.class.modulus (omega (arith, ints)) in
    let e : unsigned_abs c.args.class.modulus ≡ 0 = omega (arith, ints, modulus, c.unsigned_abs-step.ensures.value, c.if-step-eq0.true) in
    subst (λ k. MatchOption c.residue_alone.result ((v : _) → ¬ IsMember (from_to c.args.lo c.args.hi) k v) (λ row. AreMembers (from_to c.args.lo c.args.hi) k row.first row.extent row.step))
    (sym (modulo_zero c.args.class e)) (rw (low, high, residue) at c.residue_alone.ensures)

pub returns-then-room-up : goal.returns-then-room-up
returns-then-room-up c =
    let low = to_z-of_z _ _ c.ranges.lo in
    let high = to_z-of_z _ _ c.ranges.hi in
    let residue = to_z-of_z w128 c.args.class.residue (omega (arith, ints)) in
    let modulus = to_z-of_z w128 c.args.class.modulus (omega (arith, ints)) in
    none_in c.args.lo c.args.hi c.args.class c.unsigned_abs-step.result c.distance_up-up.result c.abs_diff-room.result (rw modulus at c.unsigned_abs-step.ensures.value)
    (omega (arith, c.if-step-eq0.false)) c.distance_up-up.ensures.below (rw (low, residue) at c.distance_up-up.ensures.congruent)
    (omega (arith, ints, c.abs_diff-room.ensures, low, high, c.if-hi-lo.false)) c.if-room-up.true

pub returns : goal.returns
returns c =
    let low = to_z-of_z _ _ c.ranges.lo in
    let high = to_z-of_z _ _ c.ranges.hi in
    let residue = to_z-of_z w128 c.args.class.residue (omega (arith, ints)) in
    let modulus = to_z-of_z w128 c.args.class.modulus (omega (arith, ints)) in
    let wide : pos c.abs_diff-room.result ≡ c.args.hi -ℤ c.args.lo = omega (arith, ints, c.abs_diff-room.ensures, low, high, c.if-hi-lo.false) in
    let narrow = c.requires.narrow in
    let fits = c.if-room-up.false in
    let up : to_z w128 c.distance_up-up.result ≡ pos c.distance_up-up.result = omega (arith, ints, wide, narrow, fits) in
    let first = to_z-of_z w128 (c.args.lo +ℤ pos c.distance_up-up.result) (omega (arith, ints, wide, narrow, fits)) in
    rw (low, up, first)
    (all_in c.args.lo c.args.hi c.args.class c.unsigned_abs-step.result c.distance_up-up.result c.abs_diff-room.result (rw modulus at c.unsigned_abs-step.ensures.value)
    (omega (arith, c.if-step-eq0.false)) c.distance_up-up.ensures.below (rw (low, residue) at c.distance_up-up.ensures.congruent) wide _ refl fits)
