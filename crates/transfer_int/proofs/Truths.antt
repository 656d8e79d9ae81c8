-- Conversion of a set to `_Bool`.
use Rattle.std.proofs.Common.{◌≡◌, ◌≢◌, zero, suc, ℤ, pos, negsuc, ◌≤ℤ◌, true, false, refl, sym, ap, ◌∙◌, subst, arith}
use Rattle.std.specs.Prelude as P
use Rattle.std.specs.Prelude.{int_le}
use Rattle.std.proofs.lemmas.Int.{ints}
use Rattle.strided_dom.specs.Progression.{Progression, empty, single, Has, IsExactly, IsLeastNumber, IsGreatestNumber, IsSpaced}
use Rattle.tm_numbers.specs.Congruence.{IsCongruent}
use Rattle.strided_dom.proofs.Members.{not_in_empty}
use Rattle.tm_numbers.proofs.Congruences.{cong_up}
use Rattle.tm_cint.specs.Conversions.{converted_value}
use Rattle.tm_cint.specs.declared.int_types.IntType.TheVariants.{Bool}
use Rattle.transfer_int.specs.Values.{IsConverted}

not_zero : (x : ℤ) → x ≢ pos 0 → converted_value x Bool ≡ pos 1
not_zero (pos zero) n = absurd (n refl)
not_zero (pos (suc k)) n = refl
not_zero (negsuc k) n = refl

zero_or_one : (x : ℤ) → (pos 0 ≤ℤ converted_value x Bool) × (converted_value x Bool ≤ℤ pos 1)
zero_or_one (pos zero) = (omega (arith, ints), omega (arith, ints))
zero_or_one (pos (suc k)) = (omega (arith, ints), omega (arith, ints))
zero_or_one (negsuc k) = (omega (arith, ints), omega (arith, ints))

pub none : (a : Progression) → a ≡ empty → IsExactly (IsConverted Bool a) a
none a e = record {
  sound = λ v h. absurd (not_in_empty v (subst (λ x. Has x v) e h));
  complete = λ v h. absurd (not_in_empty h.0 (subst (λ x. Has x h.0) e h.1.0));
}

pub one : (a s : Progression) (m : ℤ) → Has a m → (Has a (pos 0) → ⊥) → s ≡ single (pos 1) → IsExactly (IsConverted Bool a) s
unfolding Has
one a s m h n e = record {
  sound = λ v p. (let q : v ≡ pos 1 = subst (λ x. Has x v) e p in (m, (h, q ∙ sym (not_zero m (λ z. n (subst (λ x. Has a x) z h))))));
  complete = λ v p. (let q : v ≡ pos 1 = p.1.1 ∙ not_zero p.0 (λ z. n (subst (λ x. Has a x) z p.1.0)) in subst (λ x. Has x v) (sym e) q);
}

pub zero_alone : (a s : Progression) (lo hi : ℤ) → Has a (pos 0) → IsLeastNumber (Has a) lo → IsGreatestNumber (Has a) hi → lo ≡ hi → s ≡ single (pos 0) → IsExactly (IsConverted Bool a) s
unfolding Has
zero_alone a s lo hi h least greatest same e = record {
  sound = λ v p. (let q : v ≡ pos 0 = subst (λ x. Has x v) e p in (pos 0, (h, q)));
  complete = λ v p.
      (let z : p.0 ≡ pos 0 = omega (arith, ints, same, least.bound p.0 p.1.0, greatest.bound p.0 p.1.0, least.bound (pos 0) h, greatest.bound (pos 0) h) in
      let q : v ≡ pos 0 = p.1.1 ∙ ap (λ x. converted_value x Bool) z in
      subst (λ x. Has x v) (sym e) q);
}

pub both : (a s : Progression) (lo hi : ℤ) → Has a (pos 0) → Has a lo → Has a hi → lo ≢ hi → IsExactly (IsSpaced (pos 0) (pos 1) 1) s → IsExactly (IsConverted Bool a) s
both a s lo hi h l g n e = record {
  sound = λ v p. (let q = e.sound v p in by_value v q.from q.to);
  complete = λ v p.
      (let q = zero_or_one p.0 in
      let from : pos 0 ≤ℤ v = omega (arith, ints, q.0, p.1.1) in
      let to : v ≤ℤ pos 1 = omega (arith, ints, q.1, p.1.1) in
      e.complete v (record { from = from; to = to; congruent = congruent v from to }));
}
  where
    congruent : (v : ℤ) → pos 0 ≤ℤ v → v ≤ℤ pos 1 → IsCongruent 1 v (pos 0)
    congruent (pos n) f t = cong_up 1 n (pos n) (pos 0) (omega (arith, ints))
    congruent (negsuc n) f t = absurd (omega (arith, ints, f))

    by_end : (p : P.Bool) → int_le lo (pos 0) ≡ p → (q : P.Bool) → int_le (pos 0) lo ≡ q → IsConverted Bool a (pos 1)
    by_end true d true e = (hi, (g, sym (not_zero hi (λ z. n (omega (arith, ints, z, d, e))))))
    by_end true d false e = (lo, (l, sym (not_zero lo (λ z. omega (arith, ints, z, e)))))
    by_end false d q e = (lo, (l, sym (not_zero lo (λ z. omega (arith, ints, z, d)))))

    by_value : (v : ℤ) → pos 0 ≤ℤ v → v ≤ℤ pos 1 → IsConverted Bool a v
    by_value (pos zero) f t = (pos 0, (h, refl))
    by_value (pos (suc zero)) f t = by_end (int_le lo (pos 0)) refl (int_le (pos 0) lo) refl
    by_value (pos (suc (suc k))) f t = absurd (omega (arith, ints, t))
    by_value (negsuc k) f t = absurd (omega (arith, ints, f))
