use Rattle.std.proofs.Common.{◌≡◌, ◌≢◌, ℕ, ◌*◌, ◌^◌, ◌≤◌, ℤ, pos, ◌+ℤ◌, ◌-ℤ◌, ◌≤ℤ◌, nat_abs, SFits, of_z, ap, arith}
use Rattle.std.specs.Int.{w128}
use Rattle.std.proofs.lemmas.Int.{ints}
use Rattle.strided_dom.specs.Progression.{IsInReach}
use Rattle.tm_numbers.specs.Congruence.{IsCongruent}
use Rattle.strided_dom.specs.reading.Fields.{AreEnds}
use Rattle.tm_numbers.proofs.Congruences.{cong_sym, cong_trans, cong_up}
use Rattle.strided_dom.proofs.Others.{without_single, without_first, without_last, without_middle, without_inner, stride_in_reach}
use Rattle.strided_dom.proofs.Reach.{kept, kept_stride, reach_between, reach_fits}
use Rattle.strided_dom.proofs.combinations.without_member.Goals as goal

module _ (lo hi : ℤ) (m : ℕ) (ends : AreEnds lo hi m) (apart : of_z w128 lo ≡ of_z w128 hi → ⊥) where
  differ : lo ≢ hi
  differ e = apart (ap (of_z w128) e)

  far : ((lo +ℤ pos m) ≤ℤ hi) × (m ≤ 2 ^ 101)
  far = stride_in_reach lo hi m ends differ

  above : IsInReach (lo +ℤ pos m)
  above = reach_between ends.low ends.high (omega (arith, ints)) far.0

  under : IsInReach (hi -ℤ pos m)
  under = reach_between ends.low ends.high (omega (arith, ints, far.0)) (omega (arith, ints))

  above_congruent : IsCongruent m hi (lo +ℤ pos m)
  above_congruent = cong_trans ends.congruent (cong_sym (cong_up m 1 (lo +ℤ pos m) lo (omega (arith, ints))))

  under_congruent : IsCongruent m (hi -ℤ pos m) lo
  under_congruent = cong_trans (cong_sym (cong_up m 1 hi (hi -ℤ pos m) (omega (arith, ints)))) ends.congruent

-- numbers with the same bits are equal
same_bits : (v w : ℤ) → SFits w128 v → SFits w128 w → of_z w128 v ≡ of_z w128 w → v ≡ w
same_bits v w f g e = omega (arith, ints)

pub returns-then-s : goal.returns-then-s
returns-then-s c =
    let same = same_bits _ _ (reach_fits _ c.requires.ends.low) (reach_fits _ c.requires.ends.high) c.if-s.true in
    λ a h. without_single a c.empty.result c.args.s.lo c.args.s.hi c.args.s.stride c.args.v h same c.requires.member c.empty.ensures

pub overflow_cast-step : goal.overflow_cast-step
overflow_cast-step c = omega (arith, ints, (far c.args.s.lo c.args.s.hi c.args.s.stride c.requires.ends c.if-s.false).1)

pub overflow_add-s : goal.overflow_add-s
overflow_add-s c =
    let f = far c.args.s.lo c.args.s.hi c.args.s.stride c.requires.ends c.if-s.false in
    rw (kept c.requires.ends.low, kept_stride f.1) (reach_fits _ (above c.args.s.lo c.args.s.hi c.args.s.stride c.requires.ends c.if-s.false))

pub between-requires-clause-low : goal.between-requires-clause-low
between-requires-clause-low c =
    let f = far c.args.s.lo c.args.s.hi c.args.s.stride c.requires.ends c.if-s.false in
    let r = above c.args.s.lo c.args.s.hi c.args.s.stride c.requires.ends c.if-s.false in
    rw (kept c.requires.ends.low, kept_stride f.1, kept r) r

pub between-requires-clause-high : goal.between-requires-clause-high
between-requires-clause-high c = rw (kept c.requires.ends.high) c.requires.ends.high

pub between-requires-clause-ordered : goal.between-requires-clause-ordered
between-requires-clause-ordered c =
    let f = far c.args.s.lo c.args.s.hi c.args.s.stride c.requires.ends c.if-s.false in
    let r = above c.args.s.lo c.args.s.hi c.args.s.stride c.requires.ends c.if-s.false in
    rw (kept c.requires.ends.low, kept_stride f.1, kept r, kept c.requires.ends.high) f.0

pub between-requires-clause-congruent : goal.between-requires-clause-congruent
between-requires-clause-congruent c =
    let f = far c.args.s.lo c.args.s.hi c.args.s.stride c.requires.ends c.if-s.false in
    let r = above c.args.s.lo c.args.s.hi c.args.s.stride c.requires.ends c.if-s.false in
    rw (kept c.requires.ends.low, kept_stride f.1, kept r, kept c.requires.ends.high)
    (above_congruent c.args.s.lo c.args.s.hi c.args.s.stride c.requires.ends c.if-s.false)

pub returns-then-v-s : goal.returns-then-v-s
returns-then-v-s c =
    let f = far c.args.s.lo c.args.s.hi c.args.s.stride c.requires.ends c.if-s.false in
    let r = above c.args.s.lo c.args.s.hi c.args.s.stride c.requires.ends c.if-s.false in
    let exact = rw (kept c.requires.ends.low, kept_stride f.1, kept r, kept c.requires.ends.high) at c.between.ensures in
    let same = same_bits _ _ c.ranges.v (reach_fits _ c.requires.ends.low) c.if-v-s.true in
    λ a h. without_first a c.between.result c.args.s.lo c.args.s.hi c.args.s.stride c.args.v h (differ c.args.s.lo c.args.s.hi c.args.s.stride c.requires.ends c.if-s.false) same exact

pub overflow_sub-s : goal.overflow_sub-s
overflow_sub-s c =
    let f = far c.args.s.lo c.args.s.hi c.args.s.stride c.requires.ends c.if-s.false in
    rw (kept c.requires.ends.high, kept_stride f.1) (reach_fits _ (under c.args.s.lo c.args.s.hi c.args.s.stride c.requires.ends c.if-s.false))

pub between-requires-then-v-s-2-clause-low : goal.between-requires-then-v-s-2-clause-low
between-requires-then-v-s-2-clause-low c = rw (kept c.requires.ends.low) c.requires.ends.low

pub between-requires-then-v-s-2-clause-high : goal.between-requires-then-v-s-2-clause-high
between-requires-then-v-s-2-clause-high c =
    let f = far c.args.s.lo c.args.s.hi c.args.s.stride c.requires.ends c.if-s.false in
    let r = under c.args.s.lo c.args.s.hi c.args.s.stride c.requires.ends c.if-s.false in
    rw (kept c.requires.ends.high, kept_stride f.1, kept r) r

pub between-requires-then-v-s-2-clause-ordered : goal.between-requires-then-v-s-2-clause-ordered
between-requires-then-v-s-2-clause-ordered c =
    let f = far c.args.s.lo c.args.s.hi c.args.s.stride c.requires.ends c.if-s.false in
    let r = under c.args.s.lo c.args.s.hi c.args.s.stride c.requires.ends c.if-s.false in
    rw (kept c.requires.ends.high, kept_stride f.1, kept r, kept c.requires.ends.low) (omega (arith, ints, f.0))

pub between-requires-then-v-s-2-clause-congruent : goal.between-requires-then-v-s-2-clause-congruent
between-requires-then-v-s-2-clause-congruent c =
    let f = far c.args.s.lo c.args.s.hi c.args.s.stride c.requires.ends c.if-s.false in
    let r = under c.args.s.lo c.args.s.hi c.args.s.stride c.requires.ends c.if-s.false in
    rw (kept c.requires.ends.high, kept_stride f.1, kept r, kept c.requires.ends.low)
    (under_congruent c.args.s.lo c.args.s.hi c.args.s.stride c.requires.ends c.if-s.false)

pub returns-then-v-s-2 : goal.returns-then-v-s-2
returns-then-v-s-2 c =
    let f = far c.args.s.lo c.args.s.hi c.args.s.stride c.requires.ends c.if-s.false in
    let r = under c.args.s.lo c.args.s.hi c.args.s.stride c.requires.ends c.if-s.false in
    let exact = rw (kept c.requires.ends.high, kept_stride f.1, kept r, kept c.requires.ends.low) at c.between-then-v-s-2.ensures in
    let same = same_bits _ _ c.ranges.v (reach_fits _ c.requires.ends.high) c.if-v-s-2.true in
    λ a h. without_last a c.between-then-v-s-2.result c.args.s.lo c.args.s.hi c.args.s.stride c.args.v h (differ c.args.s.lo c.args.s.hi c.args.s.stride c.requires.ends c.if-s.false) same exact

pub overflow_mul-s : goal.overflow_mul-s
overflow_mul-s c = omega (arith, (far c.args.s.lo c.args.s.hi c.args.s.stride c.requires.ends c.if-s.false).1)

-- the ends are two strides apart
two_apart : (lo hi : ℤ) (m d : ℕ) → lo ≤ℤ hi → d ≡ nat_abs (hi -ℤ lo) → d ≡ 2 * m → hi ≡ lo +ℤ pos (2 * m)
two_apart lo hi m d ordered e f = omega (arith, ints)

more_apart : (lo hi : ℤ) (m d : ℕ) → d ≡ nat_abs (hi -ℤ lo) → (d ≡ 2 * m → ⊥) → hi ≢ lo +ℤ pos (2 * m)
more_apart lo hi m d e f g = f (omega (arith, ints))

pub between-requires-then-abs_diff-s-clause-low : goal.between-requires-then-abs_diff-s-clause-low
between-requires-then-abs_diff-s-clause-low c = rw (kept c.requires.ends.low) c.requires.ends.low

pub between-requires-then-abs_diff-s-clause-high : goal.between-requires-then-abs_diff-s-clause-high
between-requires-then-abs_diff-s-clause-high c = rw (kept c.requires.ends.high) c.requires.ends.high

pub between-requires-then-abs_diff-s-clause-ordered : goal.between-requires-then-abs_diff-s-clause-ordered
between-requires-then-abs_diff-s-clause-ordered c = rw (kept c.requires.ends.low, kept c.requires.ends.high) c.requires.ends.ordered

pub between-requires-then-abs_diff-s-clause-congruent : goal.between-requires-then-abs_diff-s-clause-congruent
between-requires-then-abs_diff-s-clause-congruent c =
    let d = rw (kept c.requires.ends.low, kept c.requires.ends.high) at c.abs_diff.ensures in
    let three = two_apart c.args.s.lo c.args.s.hi c.args.s.stride c.abs_diff.result c.requires.ends.ordered d c.if-abs_diff-s.true in
    rw (kept c.requires.ends.high, kept c.requires.ends.low) (cong_up (2 * c.args.s.stride) 1 c.args.s.hi c.args.s.lo (omega (arith, ints, three)))

pub returns-then-abs_diff-s : goal.returns-then-abs_diff-s
returns-then-abs_diff-s c =
    let d = rw (kept c.requires.ends.low, kept c.requires.ends.high) at c.abs_diff.ensures in
    let three = two_apart c.args.s.lo c.args.s.hi c.args.s.stride c.abs_diff.result c.requires.ends.ordered d c.if-abs_diff-s.true in
    let exact = rw (kept c.requires.ends.high, kept c.requires.ends.low) at c.between-then-abs_diff-s.ensures in
    λ a h. without_middle a c.between-then-abs_diff-s.result c.args.s.lo c.args.s.hi c.args.s.stride c.args.v h
    (differ c.args.s.lo c.args.s.hi c.args.s.stride c.requires.ends c.if-s.false)
    (λ e. c.if-v-s.false (ap (of_z w128) e)) (λ e. c.if-v-s-2.false (ap (of_z w128) e)) c.requires.member three exact

pub between-requires-2-clause-low : goal.between-requires-2-clause-low
between-requires-2-clause-low c = rw (kept c.requires.ends.low) c.requires.ends.low

pub between-requires-2-clause-high : goal.between-requires-2-clause-high
between-requires-2-clause-high c = rw (kept c.requires.ends.high) c.requires.ends.high

pub between-requires-2-clause-ordered : goal.between-requires-2-clause-ordered
between-requires-2-clause-ordered c = rw (kept c.requires.ends.low, kept c.requires.ends.high) c.requires.ends.ordered

pub between-requires-2-clause-congruent : goal.between-requires-2-clause-congruent
between-requires-2-clause-congruent c = rw (kept c.requires.ends.high, kept c.requires.ends.low) c.requires.ends.congruent

pub returns : goal.returns
returns c =
    let d = rw (kept c.requires.ends.low, kept c.requires.ends.high) at c.abs_diff.ensures in
    let exact = rw (kept c.requires.ends.high, kept c.requires.ends.low) at c.between-2.ensures in
    λ a h. without_inner a c.between-2.result c.args.s.lo c.args.s.hi c.args.s.stride c.args.v h
    (differ c.args.s.lo c.args.s.hi c.args.s.stride c.requires.ends c.if-s.false)
    (λ e. c.if-v-s.false (ap (of_z w128) e)) (λ e. c.if-v-s-2.false (ap (of_z w128) e)) c.requires.member
    (more_apart c.args.s.lo c.args.s.hi c.args.s.stride c.abs_diff.result d c.if-abs_diff-s.false) exact
