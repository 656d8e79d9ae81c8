-- The products of two sets of unsigned values, taken without sign.
use Rattle.std.proofs.Common.{◌≡◌, ℕ, to_z, ◌-◌, ◌/◌, ◌%◌, ◌^◌, ◌≤◌, ◌<◌, ℤ, pos, ◌+ℤ◌, ◌-ℤ◌, ◌*ℤ◌, false, refl, sym, ap, ◌∙◌, subst, arith}
use Rattle.std.specs.Prelude.{unsigned_abs}
use Rattle.std.specs.Int.{◌∣◌, w128}
use Rattle.std.proofs.lemmas.Int.{ints}
use Rattle.std.proofs.lemmas.Nat.{pow_pos, div-add-mod'}
use Rattle.std.proofs.Math.Nat.{mod-lt}
use Rattle.strided_dom.specs.Progression.{Progression, IsExactly, IsSpaced, first_of, last_of}
use Rattle.strided_dom.proofs.Members.{IsSome, has_last, first_le_last}
use Rattle.interval_dom.specs.Interval.{Span, InInterval, span_of_unsigned}
use Rattle.interval_dom.specs.Rows as IR
use Rattle.interval_dom.specs.declared.intervals.IntervalU.{IntervalU}
use Rattle.interval_dom.proofs.Ranges.{natural_row}
use Rattle.congruence_dom.specs.Class.{InClass, class_of_unsigned}
use Rattle.tm_numbers.specs.Divisors.{Divides}
use Rattle.congruence_dom.specs.Rows as CR
use Rattle.congruence_dom.specs.declared.classes.Cong.{Cong}
use Rattle.congruence_dom.specs.declared.classes.CongU.{CongU}
use Rattle.congruence_dom.proofs.Congruences.{mul_holds}
use Rattle.tm_numbers.proofs.Divisibility.{divides_same, to_natural}
use Rattle.tm_cint.specs.IntTypes.{IsIn, is_signed, width_of, hi_of}
use Rattle.tm_cint.specs.declared.int_types.IntType.{IntType}
use Rattle.tm_cint.specs.declared.int_types.IntType.TheVariants.{Bool, Char, UChar, Short, UShort, Int, UInt, Long, ULong, LLong, ULLong}
use Rattle.transfer_int.specs.Operands.{AreValues, span_of_set, class_of_set}
use Rattle.transfer_int.specs.Rows.{InRowPair}
use Rattle.transfer_int.specs.Values.{turns, IsWrapped}
use Rattle.transfer_int.proofs.Sets.{in_class}
use Rattle.tm_numbers.proofs.Congruences.{divided, congruent_from}
use Rattle.transfer_int.proofs.Placing.{rewrapped, ends_of}
use Rattle.transfer_int.proofs.RowPairs.{unsigned_start}

pub unsigned_end : (t : IntType) → is_signed t ≡ false → hi_of t ≡ pos (2 ^ width_of t - 1)
unsigned_end Bool e = refl
unsigned_end Char e = absurd cc
unsigned_end UChar e = refl
unsigned_end Short e = absurd cc
unsigned_end UShort e = refl
unsigned_end Int e = absurd cc
unsigned_end UInt e = refl
unsigned_end Long e = absurd cc
unsigned_end ULong e = refl
unsigned_end LLong e = absurd cc
unsigned_end ULLong e = refl

-- the rest of a number, as 128 bits keep it
pub rest_kept : (t : IntType) (n : ℕ) → to_z w128 (n % 2 ^ width_of t) ≡ pos (n % 2 ^ width_of t)
rest_kept t n = (let r : n % 2 ^ width_of t < 2 ^ width_of t = mod-lt n (pow_pos (width_of t)) in omega (arith, ints, r, ends_of t))

pub rest_in : (t : IntType) (n : ℕ) → is_signed t ≡ false → IsIn t (pos (n % 2 ^ width_of t))
rest_in t n e =
    let r : n % 2 ^ width_of t < 2 ^ width_of t = mod-lt n (pow_pos (width_of t)) in
    record { at_least = omega (arith, ints, unsigned_start t e); at_most = omega (arith, ints, unsigned_end t e, r) }

module _ (t : IntType) (a b : Progression) (left : AreValues t a) (right : AreValues t b) (some : IsSome a) (some' : IsSome b) (unsigned : is_signed t ≡ false)
    (i : IntervalU) (j : CongU) (span : span_of_unsigned i ≡ IR.mul_row (span_of_set a) (span_of_set b)) (class : class_of_unsigned j ≡ CR.mul_row (class_of_set a) (class_of_set b)) where
  ends : span_of_unsigned i ≡ record { lo = first_of a *ℤ first_of b; hi = last_of a *ℤ last_of b }
  ends = span ∙ sym (natural_row (span_of_set a) (span_of_set b) (first_le_last a) (first_le_last b)
      (omega (arith, ints, (left.all (first_of a) some).at_least, unsigned_start t unsigned)) (omega (arith, ints, (right.all (first_of b) some').at_least, unsigned_start t unsigned)))

  lo_is : pos i.lo ≡ first_of a *ℤ first_of b
  lo_is = ap (λ (s : Span). s.lo) ends

  hi_is : pos i.hi ≡ last_of a *ℤ last_of b
  hi_is = ap (λ (s : Span). s.hi) ends

  residue_is : pos j.residue ≡ first_of a *ℤ first_of b
  residue_is = ap (λ (c : Cong). c.residue) class

  last_divides : Divides (pos j.modulus) (pos i.hi -ℤ pos i.lo)
  last_divides =
      let h = subst (λ c. InClass c (last_of a *ℤ last_of b)) (sym class)
      (mul_holds (class_of_set a) (class_of_set b) (last_of a) (last_of b) tt (in_class a (last_of a) (has_last a some)) (in_class b (last_of b) (has_last b some'))) in
      divides_same (pos j.modulus) (omega (arith, ints, lo_is, hi_is, residue_is)) h

  pub steps : i.lo ≤ i.hi → j.modulus ∣ (i.hi - i.lo)
  steps o =
      let e : unsigned_abs (pos i.hi -ℤ pos i.lo) ≡ i.hi - i.lo = omega (arith, ints, o) in
      subst (λ n. j.modulus ∣ n) e (to_natural (pos j.modulus) (pos i.hi -ℤ pos i.lo) last_divides)

  pub products_exactly : (low : ℤ) (s : Progression) → i.lo ≤ i.hi → low ≡ pos (i.lo % 2 ^ width_of t)
      → ((first k : ℤ) → first ≡ low +ℤ turns t k → IsExactly (IsWrapped t (IsSpaced first (first +ℤ pos (i.hi - i.lo)) j.modulus)) s)
      → IsExactly (IsWrapped t (InRowPair IR.mul_row CR.mul_row a b)) s
  products_exactly low s o e h =
      rewrapped t (IsSpaced (pos i.lo) (pos i.lo +ℤ pos (i.hi - i.lo)) j.modulus) (InRowPair IR.mul_row CR.mul_row a b) s to from
      (h (pos i.lo) (pos (i.lo / 2 ^ width_of t)) (let q = div-add-mod' i.lo (2 ^ width_of t) in omega (arith, ints, q, e)))
    where
      to : (v : ℤ) → IsSpaced (pos i.lo) (pos i.lo +ℤ pos (i.hi - i.lo)) j.modulus v → InRowPair IR.mul_row CR.mul_row a b v
      to v p =
          let r : pos j.residue ≡ pos i.lo = residue_is ∙ sym lo_is in
          let within : InInterval (span_of_unsigned i) v = record { low = p.from; high = omega (arith, ints, p.to, o) } in
          let congruent : InClass (class_of_unsigned j) v = divides_same (pos j.modulus) (omega (arith, ints, r)) (divided j.modulus v (pos i.lo) p.congruent) in
          record { left = some; right = some'; in_span = subst (λ x. InInterval x v) span within; in_class = subst (λ x. InClass x v) class congruent }

      from : (v : ℤ) → InRowPair IR.mul_row CR.mul_row a b v → IsSpaced (pos i.lo) (pos i.lo +ℤ pos (i.hi - i.lo)) j.modulus v
      from v p =
          let r : pos j.residue ≡ pos i.lo = residue_is ∙ sym lo_is in
          let within : InInterval (span_of_unsigned i) v = subst (λ x. InInterval x v) (sym span) p.in_span in
          let congruent : InClass (class_of_unsigned j) v = subst (λ x. InClass x v) (sym class) p.in_class in
          record {
            from = within.low;
            to = omega (arith, ints, within.high, o);
            congruent = congruent_from j.modulus v (pos i.lo) (divides_same (pos j.modulus) (omega (arith, ints, r)) congruent);
          }
