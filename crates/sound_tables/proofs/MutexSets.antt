-- Sets of mutexes after locks, unlocks and probes.
use Rattle.std.specs.Prelude.{◌≡◌, ◌⊎◌, ℕ, ◌-◌, ◌^◌, ◌<◌, true, bit_and, bit_or}
use Rattle.std.proofs.Common.{inl, inr, arith}
use Rattle.std.specs.Int.{bit_at}
use Rattle.std.proofs.lemmas.Bool.{eqb-true, eq-eqb}
use Rattle.std.proofs.lemmas.Nat.Bits.{bit_at-lt, bit_at_or, bit_at_and, bit_at-pow_same, bit_at-pow_other, bit_at-zero}
use native.Mathlib.Decide.{ℕ_discrete}
use Rattle.program_shape.specs.mutex_configs.Sets.{has, with_mutex, without_mutex}
use Rattle.program_reports.proofs.low.transfer_rows.CoverSteps.{bit_stays, bit_joined_left, bit_joined_right}
use Rattle.program_shape.specs.Shape.{Has}

pub bit_of : (l m : ℕ) → has l m ≡ true → bit_at l m ≡ 1
bit_of l m h = eqb-true (bit_at l m) 1 h

pub from_bit : (l m : ℕ) → bit_at l m ≡ 1 → has l m ≡ true
from_bit l m h = eq-eqb (bit_at l m) 1 h

pub none_in : (m : ℕ) → Has 0 m → ⊥
none_in m h = let e = bit_of 0 m h.is in let z = bit_at-zero m in omega (arith, e, z)

pub in_with : (l m n : ℕ) → Has (with_mutex l m) n → Has l n ⊎ (n ≡ m)
in_with l m n h = by_case (ℕ_discrete n m)
  where
    by_case : Dec (n ≡ m) → Has l n ⊎ (n ≡ m)
    by_case (yes e) = inr e
    by_case (no ne) =
        let one = bit_of (bit_or l (2 ^ m)) n h.is in
        let sum = bit_at_or l (2 ^ m) n in
        let none = bit_at-pow_other m n ne in
        inl (record { small = h.small; is = from_bit l n (omega (arith, one, sum, none)) })

pub with_old : (l m n : ℕ) → Has l n → Has (with_mutex l m) n
with_old l m n h = record {
  small = h.small;
  is = from_bit (bit_or l (2 ^ m)) n (bit_joined_left l (2 ^ m) n (bit_of l n h.is));
}

pub with_new : (l m : ℕ) → m < 16 → Has (with_mutex l m) m
with_new l m small = record {
  small = small;
  is = from_bit (bit_or l (2 ^ m)) m (bit_joined_right l (2 ^ m) m (bit_at-pow_same m));
}

pub in_without : (l m n : ℕ) → Has (without_mutex l m) n → Has l n
in_without l m n h =
    let one = bit_of (bit_and l (65535 - 2 ^ m)) n h.is in
    let both = bit_at_and l (65535 - 2 ^ m) n in
    let low = bit_at-lt l n in
    record { small = h.small; is = from_bit l n (omega (arith, one, both, low)) }

pub without_old : (l m n : ℕ) → m < 16 → (n ≡ m → ⊥) → Has l n → Has (without_mutex l m) n
without_old l m n small ne h = record {
  small = h.small;
  is = from_bit (bit_and l (65535 - 2 ^ m)) n (bit_stays l m n ne small h.small (bit_of l n h.is));
}
