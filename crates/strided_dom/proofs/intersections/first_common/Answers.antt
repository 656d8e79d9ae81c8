use Rattle.std.proofs.Common.{◌≡◌, ℕ, ◌+◌, ◌*◌, ◌/◌, ◌%◌, ◌≤◌, ◌<◌, ◌^◌, ℤ, pos, ◌+ℤ◌, ◌-ℤ◌, ◌≤ℤ◌, nat_abs, sym, subst, arith, mul-le-mul_right}
use Rattle.std.specs.Int.{◌∣◌}
use Rattle.std.proofs.lemmas.Int.{ints}
use Rattle.std.proofs.lemmas.Nat.Gcd.{dvd-zero, dvd_of_mod-eq-zero, mod-eq-zero_of_dvd}
use Rattle.strided_dom.specs.Progression.{IsInReach}
use Rattle.strided_dom.proofs.Commons.{common_first, no_common_flat, no_common_fixed, no_common_solution, no_common_beyond, common_found}
use Rattle.strided_dom.proofs.Reach.{kept, kept_stride, reach_fits}
use Rattle.strided_dom.proofs.intersections.first_common.Goals as goal

-- a number that is not below another lies their distance above it
apart : (v w : ℤ) (d : ℕ) → w ≤ℤ v → d ≡ nat_abs (v -ℤ w) → v ≡ w +ℤ pos d
apart v w d h e = omega (arith, ints)

pub returns-then-gap-eq0 : goal.returns-then-gap-eq0
returns-then-gap-eq0 c =
    let d = rw (kept c.requires.right, kept c.requires.left) at c.abs_diff-gap.ensures in
    let e = apart c.args.t.lo c.args.s.lo c.abs_diff-gap.result c.requires.order d in
    rw (kept c.requires.right)
    (common_first c.args.s.lo c.args.s.stride c.args.t.lo c.args.top c.args.t.stride c.abs_diff-gap.result e (subst (λ x. c.args.s.stride ∣ x) (sym c.if-gap-eq0.true) (dvd-zero c.args.s.stride)) c.requires.ordered)

pub returns-then-s-eq0 : goal.returns-then-s-eq0
returns-then-s-eq0 c =
    let d = rw (kept c.requires.right, kept c.requires.left) at c.abs_diff-gap.ensures in
    let e = apart c.args.t.lo c.args.s.lo c.abs_diff-gap.result c.requires.order d in
    no_common_flat c.args.s.lo c.args.s.stride c.args.t.lo c.args.top c.args.t.stride c.abs_diff-gap.result e c.if-s-eq0.true c.if-gap-eq0.false

pub returns-then-rest-eq0 : goal.returns-then-rest-eq0
returns-then-rest-eq0 c =
    let d = rw (kept c.requires.right, kept c.requires.left) at c.abs_diff-gap.ensures in
    let e = apart c.args.t.lo c.args.s.lo c.abs_diff-gap.result c.requires.order d in
    rw (kept c.requires.right)
    (common_first c.args.s.lo c.args.s.stride c.args.t.lo c.args.top c.args.t.stride c.abs_diff-gap.result e (dvd_of_mod-eq-zero c.args.s.stride c.if-rest-eq0.true) c.requires.ordered)

pub returns-then-t-eq0 : goal.returns-then-t-eq0
returns-then-t-eq0 c =
    let d = rw (kept c.requires.right, kept c.requires.left) at c.abs_diff-gap.ensures in
    let e = apart c.args.t.lo c.args.s.lo c.abs_diff-gap.result c.requires.order d in
    no_common_fixed c.args.s.lo c.args.s.stride c.args.t.lo c.args.top c.args.t.stride c.abs_diff-gap.result e c.if-t-eq0.true (λ h. c.if-rest-eq0.false (mod-eq-zero_of_dvd c.args.s.stride h))

pub returns-in-None : goal.returns-in-None
returns-in-None c =
    let d = rw (kept c.requires.right, kept c.requires.left) at c.abs_diff-gap.ensures in
    let e = apart c.args.t.lo c.args.s.lo c.abs_diff-gap.result c.requires.order d in
    no_common_solution c.args.s.lo c.args.s.stride c.args.t.lo c.args.top c.args.t.stride c.abs_diff-gap.result e (omega arith) (omega arith) c.in-None.ensures.answer

pub returns-then-steps-abs_diff : goal.returns-then-steps-abs_diff
returns-then-steps-abs_diff c =
    let d = rw (kept c.requires.right, kept c.requires.left) at c.abs_diff-gap.ensures in
    let e = apart c.args.t.lo c.args.s.lo c.abs_diff-gap.result c.requires.order d in
    let f = rw (kept c.requires.high, kept c.requires.right) at c.abs_diff.ensures in
    let t = apart c.args.top c.args.t.lo c.abs_diff.result c.requires.ordered f in
    no_common_beyond c.args.s.lo c.args.s.stride c.args.t.lo c.args.top c.args.t.stride c.abs_diff-gap.result e (omega arith) (omega arith)
    c.in-Some.steps c.in-Some.field-0-1 c.abs_diff.result (omega arith) t c.in-Some.ensures.answer c.if-steps-abs_diff.true

-- what is added to the start of the later set
added : (steps m far : ℕ) (lo' top : ℤ) → IsInReach lo' → IsInReach top → top ≡ lo' +ℤ pos far → 0 < m → steps ≤ far / m → (steps * m ≤ 2 ^ 101) × IsInReach (lo' +ℤ pos (steps * m))
added steps m far lo' top low high e some near =
    let a : steps * m ≤ far / m * m = mul-le-mul_right {m = steps} {n = far / m} m near in
    let q : far / m * m + far % m ≡ far = omega arith in
    (omega (arith, ints, a, q, low.low, high.high), record { low = omega (arith, ints, low.low); high = omega (arith, ints, a, q, high.high) })

pub overflow_mul-result : goal.overflow_mul-result
overflow_mul-result c =
    let f = rw (kept c.requires.high, kept c.requires.right) at c.abs_diff.ensures in
    let t = apart c.args.top c.args.t.lo c.abs_diff.result c.requires.ordered f in
    omega (arith, (added c.in-Some.steps c.args.t.stride c.abs_diff.result c.args.t.lo c.args.top c.requires.right c.requires.high t (omega arith) c.if-steps-abs_diff.false).0)

pub overflow_cast-result : goal.overflow_cast-result
overflow_cast-result c =
    let f = rw (kept c.requires.high, kept c.requires.right) at c.abs_diff.ensures in
    let t = apart c.args.top c.args.t.lo c.abs_diff.result c.requires.ordered f in
    omega (arith, ints, (added c.in-Some.steps c.args.t.stride c.abs_diff.result c.args.t.lo c.args.top c.requires.right c.requires.high t (omega arith) c.if-steps-abs_diff.false).0)

pub overflow_add-result : goal.overflow_add-result
overflow_add-result c =
    let f = rw (kept c.requires.high, kept c.requires.right) at c.abs_diff.ensures in
    let t = apart c.args.top c.args.t.lo c.abs_diff.result c.requires.ordered f in
    let a = added c.in-Some.steps c.args.t.stride c.abs_diff.result c.args.t.lo c.args.top c.requires.right c.requires.high t (omega arith) c.if-steps-abs_diff.false in
    rw (kept c.requires.right, kept_stride a.0) (reach_fits _ a.1)

pub returns-else-steps-abs_diff : goal.returns-else-steps-abs_diff
returns-else-steps-abs_diff c =
    let d = rw (kept c.requires.right, kept c.requires.left) at c.abs_diff-gap.ensures in
    let e = apart c.args.t.lo c.args.s.lo c.abs_diff-gap.result c.requires.order d in
    let f = rw (kept c.requires.high, kept c.requires.right) at c.abs_diff.ensures in
    let t = apart c.args.top c.args.t.lo c.abs_diff.result c.requires.ordered f in
    let a = added c.in-Some.steps c.args.t.stride c.abs_diff.result c.args.t.lo c.args.top c.requires.right c.requires.high t (omega arith) c.if-steps-abs_diff.false in
    rw (kept c.requires.right, kept_stride a.0, kept a.1)
    (common_found c.args.s.lo c.args.s.stride c.args.t.lo c.args.top c.args.t.stride c.abs_diff-gap.result e (omega arith) (omega arith)
    c.in-Some.steps c.in-Some.field-0-1 c.abs_diff.result (omega arith) t c.in-Some.ensures.answer c.if-steps-abs_diff.false)
