-- Where R lies in the type, fitting changes nothing.
use Rattle.std.proofs.Common.{◌≡◌, ℤ, pos, ◌+ℤ◌, ◌-ℤ◌, ◌≤ℤ◌, nat_abs, true, false, refl, subst, arith}
use Rattle.std.specs.Prelude as P
use Rattle.std.proofs.lemmas.Int.{ints}
use Rattle.strided_dom.specs.Progression.{Progression, empty, Has, IsExactly, IsSpaced}
use Rattle.tm_numbers.proofs.Congruences.{cong_up}
use Rattle.strided_dom.proofs.Members.{not_in_empty}
use Rattle.tm_cint.specs.IntTypes.{IsIn, is_signed}
use Rattle.tm_cint.specs.declared.int_types.IntType.{IntType}
use Rattle.transfer_int.specs.Values.{turns, IsFitted}
use Rattle.transfer_int.proofs.Holding.{inside}

pub fits_inside : (t : IntType) (R : ℤ → Type 0) (v : ℤ) → ((r : ℤ) → R r → IsIn t r) → IsFitted t R v → R v
fits_inside t R v within h = by_sign (is_signed t) refl
  where
    no_turns : turns t (pos 0) ≡ pos 0
    no_turns = omega (arith, ints)

    by_sign : (s : P.Bool) → is_signed t ≡ s → R v
    by_sign true e = (h.met e).0
    by_sign false e =
        let w = (h.wrapped e).in_turn (pos 0) (λ r p. (let e : r ≡ r -ℤ turns t (pos 0) = omega (arith, ints, no_turns) in subst (λ x. IsIn t x) e (within r p))) in
        let same : v +ℤ turns t (pos 0) ≡ v = omega (arith, ints, no_turns) in
        subst R same w

pub fitted_inside : (t : IntType) (R : ℤ → Type 0) (s : Progression) → ((r : ℤ) → R r → IsIn t r) → IsExactly R s → IsExactly (IsFitted t R) s
fitted_inside t R s within exact = record {
  sound = λ v p. (let r = exact.sound v p in inside t R v (within v r) r);
  complete = λ v p. exact.complete v (fits_inside t R v within p);
}

pub none_in : (a : Progression) (v : ℤ) → a ≡ empty → Has a v → ⊥
none_in a v e h = not_in_empty v (subst (λ s. Has s v) e h)

-- the numbers from the one end to the other in steps of 1
pub unspaced : (P : ℤ → Type 0) (lo hi : ℤ) (s : Progression) → ((v : ℤ) → lo ≤ℤ v → v ≤ℤ hi → P v) → ((v : ℤ) → P v → (lo ≤ℤ v) × (v ≤ℤ hi)) → IsExactly (IsSpaced lo hi 1) s → IsExactly P s
unspaced P lo hi s from to exact = record {
  sound = λ v p. (let h = exact.sound v p in from v h.from h.to);
  complete = λ v p. (let h = to v p in exact.complete v (record { from = h.0; to = h.1; congruent = cong_up 1 (nat_abs (v -ℤ lo)) v lo (omega (arith, ints, h.0)) }));
}
