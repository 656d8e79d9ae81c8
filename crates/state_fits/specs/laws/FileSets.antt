-- Sets of mutexes of a file are sets of the sixteen.
use Rattle.std.specs.Prelude.{◌≡◌, ℕ, ◌-◌, ◌^◌, ◌<◌, ◌≤◌, bit_or, min, length}
use Rattle.std.proofs.Common.{inl, inr, arith}
use Rattle.std.specs.Int.{bit_at}
use Rattle.std.proofs.lemmas.Bool.{cases_lt}
use Rattle.std.proofs.lemmas.Nat.{pow_below}
use Rattle.std.proofs.lemmas.Nat.Bits.{bit_at_or, bit_at_ones, bit_at_above, bit_at_ones_above}
use Rattle.std.proofs.lemmas.Nat.Bits.{bit_at-zero, same_from_bits}
use Rattle.temporary_types.specs.tm_laid.Layouts.{LaidTree}
use Rattle.temporary_types.specs.Sorts.{IsMutex}
use Rattle.edge_actions.specs.cell_env.Cells.{IsWithin}
use Rattle.edge_actions.specs.cell_env.laws.Bits.{within_trans}
use Rattle.state_fits.specs.Fits.{file_set}

-- a number of so many bits is within the set of all so many
within_ones : (k n : ℕ) → n < 2 ^ k → IsWithin n (2 ^ k - 1)
within_ones k n lt = same_from_bits (bit_or n (2 ^ k - 1)) (2 ^ k - 1) (λ i. bit i)
  where
    bit : (i : ℕ) → bit_at (bit_or n (2 ^ k - 1)) i ≡ bit_at (2 ^ k - 1) i
    bit i = elim (cases_lt i k) [
      | inl below ↦ (let one = bit_at_ones k i below in
          let at = bit_at_or n (2 ^ k - 1) i in omega (arith, at, one))
      | inr above ↦ (let none = bit_at_ones_above k i above in
          let nothing = bit_at_above n k i lt above in
          let at = bit_at_or n (2 ^ k - 1) i in omega (arith, at, none, nothing))
    ]

ones_within : (k : ℕ) → k ≤ 16 → IsWithin (2 ^ k - 1) 65535
ones_within k le = same_from_bits (bit_or (2 ^ k - 1) 65535) 65535 (λ i. bit i)
  where
    bit : (i : ℕ) → bit_at (bit_or (2 ^ k - 1) 65535) i ≡ bit_at 65535 i
    bit i = elim (cases_lt i 16) [
      | inl below ↦ (let one : bit_at 65535 i ≡ 1 = bit_at_ones 16 i below in
          let at = bit_at_or (2 ^ k - 1) 65535 i in omega (arith, at, one))
      | inr above ↦ (let none : bit_at 65535 i ≡ 0 = bit_at_ones_above 16 i above in
          let nothing = bit_at_ones_above k i (omega (arith, above, le)) in
          let at = bit_at_or (2 ^ k - 1) 65535 i in omega (arith, at, none, nothing))
    ]

pub none_within : (q : ℕ) → IsWithin 0 q
none_within q = same_from_bits (bit_or 0 q) q (λ i. (let at = bit_at_or 0 q i in
    let none = bit_at-zero i in omega (arith, at, none)))

pub in_sixteen : (laid : LaidTree) (p : ℕ) → IsWithin p (file_set laid) → IsWithin p 65535
in_sixteen laid p h =
    within_trans p (file_set laid) 65535 h (ones_within (min (length laid.file.mutexes) 16) (omega arith))

pub mutex_within : (laid : LaidTree) (m : ℕ) → IsMutex laid m → IsWithin (2 ^ m) (file_set laid)
mutex_within laid m h =
    let few = h.0 in
    let small = h.1 in
    within_ones (min (length laid.file.mutexes) 16) (2 ^ m)
    (pow_below m (min (length laid.file.mutexes) 16) (omega (arith, few, small)))
