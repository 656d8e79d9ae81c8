-- The numbers of an interval row and a congruence row, and what a type makes of them.
use Rattle.std.proofs.Common.{◌≡◌, ℕ, suc, ◌-◌, ◌*◌, ◌/◌, ◌%◌, ◌^◌, ◌<◌, ◌≤◌, ℤ, pos, negsuc, neg_ℤ, ◌+ℤ◌, ◌-ℤ◌, ◌*ℤ◌, ◌≤ℤ◌, ◌<ℤ◌, FitsSigned, to_z, of_z, true, false, not, refl, sym, ◌∙◌, subst, arith}
use Rattle.std.specs.Prelude as P
use Rattle.std.specs.Prelude.{unsigned_abs, int_div, int_rem, IsTrue}
use Rattle.std.specs.Int.{w128, int_min, int_max}
use Rattle.std.proofs.Math.Nat.{mod-lt, mul-le-mul_left}
use Rattle.std.proofs.lemmas.Nat.{div-add-mod', le-div}
use Rattle.std.proofs.lemmas.Int.{ints, clamps, quot-rem, to_z-of_z}
use Rattle.strided_dom.specs.Progression.{Progression, empty, Has, IsExactly, IsSpaced}
use Rattle.strided_dom.proofs.Members.{not_in_empty}
use Rattle.interval_dom.specs.Interval.{Span}
use Rattle.tm_numbers.specs.Divisors.{Divides}
use Rattle.congruence_dom.specs.declared.classes.Cong.{Cong}
use Rattle.tm_numbers.proofs.Divisibility.{divides_same, divides_add, divides_sub, divides_zero}
use Rattle.tm_numbers.proofs.Divisibility.{divides_abs, divides_from_abs, from_natural}
use Rattle.tm_numbers.proofs.Integers.{mul_neg, sub_mul}
use Rattle.tm_cint.specs.IntTypes.{IsIn, lo_of, hi_of, is_signed}
use Rattle.tm_numbers.specs.Congruence.{IsCongruent}
use Rattle.tm_cint.specs.declared.int_types.IntType.{IntType}
use Rattle.tm_cint.specs.declared.operators.BinOp.{BinOp}
use Rattle.transfer_int.specs.reading.Fittings.{IsMember, IsMet, HasOutside, AreMembers, from_to}
use Rattle.transfer_int.specs.Rows.{InRows}
use Rattle.transfer_int.specs.Values.{IsWrapped, IsFitted, Leaves}
use Rattle.tm_numbers.proofs.Congruences.{congruent_by, divides, divided, congruent_from}
use Rattle.transfer_int.proofs.Placing.{nearest, ends_of}
use Rattle.transfer_int.proofs.Wrapping.{fitting_grows}

-- ---- rows that hold the same numbers

pub refitted : (t : IntType) (R S : ℤ → Type 0) (s : Progression) → ((v : ℤ) → R v → S v) → ((v : ℤ) → S v → R v)
    → IsExactly (IsFitted t R) s → IsExactly (IsFitted t S) s
refitted t R S s to from h = record { sound = λ v p. fitting_grows t R S v to (h.sound v p); complete = λ v p. h.complete v (fitting_grows t S R v from p) }

-- an operator of a signed type leaves it where some number of its R is outside
pub leaves_from : (op : BinOp) (t : IntType) (a b : Progression) (R : ℤ → Type 0) → ((v : ℤ) → R v → InRows op t a b v) → is_signed t ≡ true
    → HasOutside t R → Leaves op t a b
leaves_from op t a b R to s h = record { signed = s; number = h.number; in_rows = to h.number h.in_rows; outside = h.outside }

pub outside_from : (op : BinOp) (t : IntType) (a b : Progression) (R : ℤ → Type 0) → ((v : ℤ) → InRows op t a b v → R v) → Leaves op t a b → HasOutside t R
outside_from op t a b R from h = record { number = h.number; in_rows = from h.number h.in_rows; outside = h.outside }

-- ---- the first number of a class from a number on

divides_back : (m x y : ℤ) → Divides m (x -ℤ y) → Divides m (y -ℤ x)
divides_back m x y h = divides_same m (omega (arith, ints)) (divides_sub m (pos 0) (x -ℤ y) (divides_zero m) h)

pub up_to_residue : (lo residue : ℤ) (step d : ℕ) → 1 ≤ step → pos d ≡ residue -ℤ lo → Divides (pos step) ((lo +ℤ pos (d % step)) -ℤ residue)
up_to_residue lo residue step d p e = divides_back (pos step) residue (lo +ℤ pos (d % step)) (nearest lo residue d step p e)

pub at_residue : (lo residue : ℤ) (step d : ℕ) → 1 ≤ step → pos d ≡ lo -ℤ residue → d % step ≡ 0 → Divides (pos step) ((lo +ℤ pos 0) -ℤ residue)
at_residue lo residue step d p e z = record { quotient = pos (d / step); is = (let q = div-add-mod' d step in omega (arith, ints, q, e, z)) }

pub past_residue : (lo residue : ℤ) (step d : ℕ) → 1 ≤ step → pos d ≡ lo -ℤ residue → Divides (pos step) ((lo +ℤ pos (step - d % step)) -ℤ residue)
past_residue lo residue step d p e = record {
  quotient = pos (suc (d / step));
  is = (let q = div-add-mod' d step in let r : d % step < step = mod-lt d p in omega (arith, ints, q, e, r));
}

-- ---- all numbers of a class in an interval

module _ (lo hi : ℤ) (class : Cong) (step up room : ℕ) (modulus : step ≡ unsigned_abs class.modulus) (some : 1 ≤ step) (below : up < step)
    (near : Divides (pos step) ((lo +ℤ pos up) -ℤ class.residue)) (wide : pos room ≡ hi -ℤ lo) where
  abbrev first : ℤ
  first = lo +ℤ pos up

  steps_from : (v : ℤ) → IsMember (from_to lo hi) class v → Divides (pos step) (v -ℤ first)
  steps_from v h =
      let d : Divides (pos step) (v -ℤ class.residue) = subst (λ m. Divides (pos m) (v -ℤ class.residue)) (sym modulus) (divides_abs class.modulus (v -ℤ class.residue) h.in_class) in
      divides_same (pos step) (omega (arith, ints)) (divides_sub (pos step) (v -ℤ class.residue) (first -ℤ class.residue) d near)

  natural : (z : ℤ) → neg_ℤ (pos step) <ℤ z → Divides (pos step) z → (q : ℕ) × (z ≡ pos (step * q))
  natural z low h = by_sign h.quotient h.is
    where
      by_sign : (q : ℤ) → z ≡ pos step *ℤ q → (q : ℕ) × (z ≡ pos (step * q))
      by_sign (pos n) e = (n, e)
      by_sign (negsuc n) e = absurd (let f = mul_neg (pos step) (pos (suc n)) in omega (arith, ints, e, f, low))

  steps_of : (v : ℤ) → IsMember (from_to lo hi) class v → (q : ℕ) × (v -ℤ first ≡ pos (step * q))
  steps_of v h = natural (v -ℤ first) (omega (arith, ints, h.in_span.low, below)) (steps_from v h)

  pub none_in : room < up → (v : ℤ) → IsMember (from_to lo hi) class v → ⊥
  none_in short v h = let q = steps_of v h in omega (arith, ints, h.in_span.high, short, wide, q.1)

  -- what is within n is within the greatest multiple of the step within n
  within_multiple : (n q : ℕ) → step * q ≤ n → step * q ≤ n - n % step
  within_multiple n q h =
      let e = div-add-mod' n step in
      let le = le-div q n step some (omega (arith, h)) in
      let m = mul-le-mul_left {m = q} {n = n / step} step le in
      omega (arith, e, m)

  pub all_in : (rest : ℕ) → rest ≡ (room - up) % step → up ≤ room → AreMembers (from_to lo hi) class first (room - up - rest) step
  all_in rest r fits = record {
    steps = divides step ((room - up) / step) (room - up - rest) (let e = div-add-mod' (room - up) step in omega (arith, e, r));
    sound = λ v h. record {
      in_span = record { low = omega (arith, ints, h.from); high = omega (arith, ints, h.to, wide, fits) };
      in_class = divides_from_abs class.modulus (v -ℤ class.residue)
          (subst (λ m. Divides (pos m) (v -ℤ class.residue)) modulus
          (divides_same (pos step) (omega (arith, ints)) (divides_add (pos step) (v -ℤ first) (first -ℤ class.residue) (divided step v first h.congruent) near)));
    };
    complete = λ v h.
        (let q = steps_of v h in
        let w = within_multiple (room - up) q.0 (omega (arith, ints, q.1, h.in_span.high, wide, fits)) in
        record {
          from = omega (arith, ints, q.1);
          to = omega (arith, ints, q.1, w, r);
          congruent = congruent_from step v first (steps_from v h);
        });
  }

-- the residue alone
pub residue_in : (lo hi residue : ℤ) → lo ≤ℤ residue → residue ≤ℤ hi → AreMembers (from_to lo hi) (record { residue = residue; modulus = pos 0 }) residue 0 0
residue_in lo hi residue from to = record {
  steps = divides 0 0 0 (omega arith);
  sound = λ v h. record {
    in_span = record { low = omega (arith, ints, from, h.from); high = omega (arith, ints, to, h.to) };
    in_class = record { quotient = pos 0; is = omega (arith, ints, h.from, h.to) };
  };
  complete = λ v h. (let e : v -ℤ residue ≡ pos 0 = omega (arith, ints, h.in_class.is) in
      record { from = omega (arith, ints, e); to = omega (arith, ints, e); congruent = congruent_from 0 v residue h.in_class });
}

-- a class modulo 0
pub modulo_zero : (class : Cong) → unsigned_abs class.modulus ≡ 0 → class ≡ record { residue = class.residue; modulus = pos 0 }
modulo_zero class e = (let z : class.modulus ≡ pos 0 = omega (arith, ints, e) in λ i. record { residue = class.residue; modulus = z i })

-- ---- what a type makes of them

module _ (t : IntType) (span : Span) (class : Cong) (first : ℤ) (extent step : ℕ) where
  pub first_in : AreMembers span class first extent step → IsMember span class first
  first_in h = h.sound first (record { from = omega (arith, ints); to = omega (arith, ints); congruent = congruent_from step first first (record { quotient = pos 0; is = omega (arith, ints) }) })

  pub last_in : AreMembers span class first extent step → IsMember span class (first +ℤ pos extent)
  last_in h = h.sound (first +ℤ pos extent)
      (record { from = omega (arith, ints); to = omega (arith, ints); congruent = congruent_from step (first +ℤ pos extent) first (divides_same (pos step) (omega (arith, ints)) (from_natural step (pos extent) h.steps)) })

  -- the interval was met with the type's
  pub met_exactly : (lo hi : ℤ) (s : Progression) → lo ≡ int_max span.lo (lo_of t) → hi ≡ int_min span.hi (hi_of t) → AreMembers (from_to lo hi) class first extent step
      → IsExactly (IsSpaced first (first +ℤ pos extent) step) s → IsExactly (IsMet t (IsMember span class)) s
  met_exactly lo hi s e f h exact = record {
    sound = λ v p.
        (let q = h.sound v (exact.sound v p) in
        record {
          in_rows = record { in_span = record { low = omega (arith, ints, clamps, e, q.in_span.low); high = omega (arith, ints, clamps, f, q.in_span.high) }; in_class = q.in_class };
          in_type = record { at_least = omega (arith, ints, clamps, e, q.in_span.low); at_most = omega (arith, ints, clamps, f, q.in_span.high) };
        });
    complete = λ v p. exact.complete v (h.complete v (met_in lo hi e f v p));
  }
    where
      met_in : (lo hi : ℤ) → lo ≡ int_max span.lo (lo_of t) → hi ≡ int_min span.hi (hi_of t) → (v : ℤ) → IsMet t (IsMember span class) v → IsMember (from_to lo hi) class v
      met_in lo hi e f v p = record {
        in_span = record {
          low = omega (arith, ints, clamps, e, p.in_rows.in_span.low, p.in_type.at_least);
          high = omega (arith, ints, clamps, f, p.in_rows.in_span.high, p.in_type.at_most);
        };
        in_class = p.in_rows.in_class;
      }

  -- they are outside where their first or their last number is
  pub first_outside : AreMembers span class first extent step → (IsIn t first → ⊥) → HasOutside t (IsMember span class)
  first_outside h n = record { number = first; in_rows = first_in h; outside = n }

  pub last_outside : AreMembers span class first extent step → (IsIn t (first +ℤ pos extent) → ⊥) → HasOutside t (IsMember span class)
  last_outside h n = record { number = first +ℤ pos extent; in_rows = last_in h; outside = n }

  pub none_outside : AreMembers span class first extent step → IsIn t first → IsIn t (first +ℤ pos extent) → HasOutside t (IsMember span class) → ⊥
  none_outside h i j o =
      let s = h.complete o.number o.in_rows in
      o.outside (record { at_least = omega (arith, ints, s.from, i.at_least); at_most = omega (arith, ints, s.to, j.at_most) })

  pub by_last : (b : P.Bool) → ((b ≡ true → IsIn t (first +ℤ pos extent)) × (IsIn t (first +ℤ pos extent) → b ≡ true)) → AreMembers span class first extent step → IsIn t first
      → (IsTrue (not b) → HasOutside t (IsMember span class)) × (HasOutside t (IsMember span class) → IsTrue (not b))
  by_last true d h i = (λ e. absurd cc, λ o. absurd (none_outside h i (d.0 refl) o))
  by_last false d h i = (λ e. last_outside h (λ j. (let f = d.1 j in absurd cc)), λ o. refl)

-- no number
pub none_met : (t : IntType) (span : Span) (class : Cong) (lo hi : ℤ) (s : Progression) → lo ≡ int_max span.lo (lo_of t) → hi ≡ int_min span.hi (hi_of t)
    → ((v : ℤ) → IsMember (from_to lo hi) class v → ⊥) → s ≡ empty → IsExactly (IsMet t (IsMember span class)) s
none_met t span class lo hi s e f n z = record {
  sound = λ v p. absurd (not_in_empty v (subst (λ x. Has x v) z p));
  complete = λ v p. absurd (n v (record {
    in_span = record { low = omega (arith, ints, clamps, e, p.in_rows.in_span.low, p.in_type.at_least); high = omega (arith, ints, clamps, f, p.in_rows.in_span.high, p.in_type.at_most) };
    in_class = p.in_rows.in_class;
  }));
}

pub none_wrapped : (t : IntType) (R : ℤ → Type 0) (s : Progression) → ((v : ℤ) → R v → ⊥) → s ≡ empty → IsExactly (IsWrapped t R) s
none_wrapped t R s n z = record {
  sound = λ v p. absurd (not_in_empty v (subst (λ x. Has x v) z p));
  complete = λ v p. absurd (n p.some p.in_rows);
}

-- ---- the value of an unsigned type that differs by turns

pub by_rest : (n : ℕ) (v r : ℤ) → r ≡ int_rem v (pos (2 ^ n)) → IsCongruent (2 ^ n) v r
by_rest n v r e = congruent_by (2 ^ n) v r (int_div v (pos (2 ^ n))) (let q = quot-rem v (pos (2 ^ n)) in omega (arith, ints, q, e))

pub by_rest_up : (n : ℕ) (v r : ℤ) → r ≡ int_rem v (pos (2 ^ n)) +ℤ pos (2 ^ n) → IsCongruent (2 ^ n) v r
by_rest_up n v r e = congruent_by (2 ^ n) v r (int_div v (pos (2 ^ n)) -ℤ pos 1)
    (let q = quot-rem v (pos (2 ^ n)) in let f = sub_mul (int_div v (pos (2 ^ n))) (pos 1) (pos (2 ^ n)) in omega (arith, ints, q, e, f))

-- ---- numbers as 128 bits keep them

pub low_kept : (t : IntType) (x l r : ℤ) → FitsSigned w128 x → FitsSigned w128 r → l ≡ lo_of t → r ≡ int_max (to_z w128 (of_z w128 x)) (to_z w128 (of_z w128 l))
    → to_z w128 (of_z w128 r) ≡ int_max x (lo_of t)
low_kept t x l r fits fits' e f =
    let low : to_z w128 (of_z w128 l) ≡ lo_of t = omega (arith, ints, e, ends_of t) in
    to_z-of_z w128 r fits' ∙ (rw (to_z-of_z w128 x fits, low) at f)

pub high_kept : (t : IntType) (x h r : ℤ) → FitsSigned w128 x → FitsSigned w128 r → h ≡ hi_of t → r ≡ int_min (to_z w128 (of_z w128 x)) (to_z w128 (of_z w128 h))
    → to_z w128 (of_z w128 r) ≡ int_min x (hi_of t)
high_kept t x h r fits fits' e f =
    let high : to_z w128 (of_z w128 h) ≡ hi_of t = omega (arith, ints, e, ends_of t) in
    to_z-of_z w128 r fits' ∙ (rw (to_z-of_z w128 x fits, high) at f)

-- a test that failed
pub refuted : {X : Type 0} (b : P.Bool) → ((b ≡ true → X) × (X → b ≡ true)) → b ≡ false → X → ⊥
refuted b h e p = (let f = h.1 p in absurd cc)
