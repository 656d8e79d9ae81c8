-- The numbers between two numbers, and the values of types.
use Rattle.std.specs.Prelude.{◌≡◌, zero, suc, ℤ, pos, negsuc, ◌-ℤ◌, ◌≤ℤ◌, nat_abs, refl}
use Rattle.std.proofs.Common.{arith}
use Rattle.std.proofs.lemmas.Int.{ints}
use Rattle.strided_dom.specs.Progression.{Progression, Has, IsSpaced, IsExactly, IsInReach}
use Rattle.strided_dom.proofs.low.tm_numbers.Congruences.{cong_up}
use Rattle.pointer_dom.specs.laws.OffsetLaws.{same_members}
use Rattle.edge_actions.specs.Layouts.{numbers_up, numbers_between}

numbers_up_are : (low high : ℤ) (by : ℤ) → high -ℤ low ≡ by → IsExactly (IsSpaced low high 1) (numbers_up low by)
unfolding Has
numbers_up_are low high (pos zero) e = record {
  sound = λ v h. record { from = omega (arith, ints, h); to = omega (arith, ints, h, e); congruent = cong_up 1 0 v low (omega (arith, ints, h)) };
  complete = λ v q. (let from = q.from in let to = q.to in omega (arith, ints, from, to, e));
}
numbers_up_are low high (pos (suc more)) e = record {
  sound = λ v h. (let at = h.1.1 in let most = h.1.0 in
      record { from = omega (arith, ints, at); to = omega (arith, ints, at, most, e); congruent = cong_up 1 h.0 v low at });
  complete = λ v q. (let from = q.from in let to = q.to in
      (nat_abs (v -ℤ low), (omega (arith, ints, from, to, e), omega (arith, ints, from))));
}
numbers_up_are low high (negsuc n) e = record {
  sound = λ v h. absurd h;
  complete = λ v q. (let from = q.from in let to = q.to in absurd (omega (arith, ints, from, to, e)));
}

-- the set with exactly the numbers from low to high
pub one_range : (low high : ℤ) (s : Progression) → IsExactly (IsSpaced low high 1) s → s ≡ numbers_between low high
one_range low high s h = same_members (IsSpaced low high 1) s (numbers_between low high) h (numbers_up_are low high (high -ℤ low) refl)

-- numbers between two that a set may hold may be held
pub between_reaches : (low high v : ℤ) → IsInReach low → IsInReach high → low ≤ℤ v → v ≤ℤ high → IsInReach v
between_reaches low high v l h from to = (let least = l.low in let most = h.high in record { low = omega (arith, ints, least, from); high = omega (arith, ints, most, to) })
