-- Numbers in reach are 128-bit integers, so nothing that is kept is lost.
use Rattle.std.proofs.Common.{◌≡◌, ℕ, ◌^◌, ◌≤◌, ℤ, pos, ◌≤ℤ◌, FitsSigned, arith, to_z, of_z}
use Rattle.std.specs.Int.{w128, int_min, int_max}
use Rattle.std.proofs.lemmas.Int.{ints, clamps, to_z-of_z}
use Rattle.strided_dom.specs.Progression.{IsInReach}

pub reach_fits : (v : ℤ) → IsInReach v → FitsSigned w128 v
reach_fits v h = omega (arith, ints, h.low, h.high)

-- a number in reach is read back as it was written
pub kept : {v : ℤ} → IsInReach v → to_z w128 (of_z w128 v) ≡ v
kept {v} h = to_z-of_z w128 v (reach_fits v h)

pub reach_kept : {v : ℤ} → IsInReach v → IsInReach (to_z w128 (of_z w128 v))
reach_kept {v} h = rw (kept h) h

pub reach_min : {r v w : ℤ} → r ≡ int_min v w → IsInReach v → IsInReach w → IsInReach r
reach_min {r} {v} {w} e h k = record { low = omega (arith, ints, clamps, h.low, k.low); high = omega (arith, ints, clamps, h.high, k.high) }

pub reach_max : {r v w : ℤ} → r ≡ int_max v w → IsInReach v → IsInReach w → IsInReach r
reach_max {r} {v} {w} e h k = record { low = omega (arith, ints, clamps, h.low, k.low); high = omega (arith, ints, clamps, h.high, k.high) }

pub reach_between : {v w u : ℤ} → IsInReach v → IsInReach w → v ≤ℤ u → u ≤ℤ w → IsInReach u
reach_between h k p q = record { low = omega (arith, ints, h.low); high = omega (arith, ints, k.high) }

pub kept_stride : {m : ℕ} → m ≤ 2 ^ 101 → to_z w128 m ≡ pos m
kept_stride {m} h = omega (arith, ints)
