-- A set as an operand of the rows: its members lie in its span and its class, and a smaller set has smaller ones.
use Rattle.std.proofs.Common.{◌≡◌, ◌+◌, ◌*◌, ℤ, pos, ◌+ℤ◌, refl, ap, arith}
use Rattle.std.proofs.lemmas.Int.{ints}
use Rattle.strided_dom.specs.Progression.{Progression, empty, single, row, Has, IsSubset, first_of, last_of, stride_of}
use Rattle.strided_dom.proofs.Members.{IsSome, has_last, spaced_from, stride_dvd, first_le_last}
use Rattle.interval_dom.specs.Interval.{InInterval, IsOrdered}
use Rattle.interval_dom.specs.Interval as I
use Rattle.congruence_dom.specs.Class.{InClass}
use Rattle.congruence_dom.specs.Class as C
use Rattle.congruence_dom.proofs.Congruences.{within}
use Rattle.tm_numbers.proofs.Divisibility.{from_natural}
use Rattle.tm_numbers.proofs.Congruences.{divided}
use Rattle.transfer_int.specs.Operands.{span_of_set, class_of_set}

pub in_span : (a : Progression) (x : ℤ) → Has a x → InInterval (span_of_set a) x
in_span a x h = let s = spaced_from a x h in record { low = s.from; high = s.to }

pub in_class : (a : Progression) (x : ℤ) → Has a x → InClass (class_of_set a) x
in_class a x h = divided (stride_of a) x (first_of a) (spaced_from a x h).congruent

pub ordered : (a : Progression) → IsOrdered (span_of_set a)
ordered a = first_le_last a

pub span_within : (a c : Progression) → IsSome a → IsSubset a c → I.IsWithin (span_of_set a) (span_of_set c)
span_within a c some b = record { low = (in_span c (first_of a) (b.within _ some)).low; high = (in_span c (last_of a) (b.within _ (has_last a some))).high }

pub class_within : (a c : Progression) → IsSome a → IsSubset a c → C.IsSubclass (class_of_set a) (class_of_set c)
class_within a c some b = within (class_of_set a) (class_of_set c) (from_natural (stride_of c) (pos (stride_of a)) (stride_dvd a c some b)) (in_class c (first_of a) (b.within _ some))

-- a set with a member below one number is that number
pub single_below : (a : Progression) (w : ℤ) → IsSome a → IsSubset a (single w) → a ≡ single w
unfolding Has first_of
single_below empty w some b = absurd some
single_below (single v) w some b = ap single (b.within v refl)
single_below (row first gap more) w some b =
    let x = b.within first (0, (omega arith, omega (arith, ints))) in
    let y = b.within (first +ℤ pos (1 * (gap + 1))) (1, (omega arith, refl)) in
    absurd (omega (arith, ints, x, y))
