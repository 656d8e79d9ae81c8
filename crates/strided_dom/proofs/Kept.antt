-- A set and the fields that it is kept by.
use Rattle.std.proofs.Common.{◌≡◌, ◌≢◌, ℕ, zero, suc, ◌+◌, ◌*◌, ◌/◌, ◌^◌, ℤ, pos, nat_abs, ◌+ℤ◌, ◌-ℤ◌, ◌≤ℤ◌, Bool, true, false, int_lt, cond, FitsSigned, ◌&&◌, IsTrue, ◌↔◌, refl, sym, ap, ap₂, ◌∙◌, arith, mul-div_cancel}
use Rattle.std.proofs.lemmas.Int.{ints}
use Rattle.std.specs.Int.{w128}
use Rattle.strided_dom.specs.Progression.{Progression, empty, single, Has, IsExactly, IsSpaced, IsLeastNumber, IsGreatestNumber, IsInReach, first_of, last_of, stride_of}
use Rattle.tm_numbers.specs.Congruence.{IsCongruent}
use Rattle.strided_dom.specs.reading.Fields.{stepped, steps_between, progression_of, fields_of, IsKept, AreEndsOf}
use Rattle.strided_dom.specs.laws.FieldsLaws.{fields_of-progression_of}
use Rattle.strided_dom.specs.declared.sets.Strided.TheInside.{Inside}
use Rattle.tm_numbers.proofs.Congruences.{cong_up, strides_between}
use Rattle.strided_dom.proofs.Members.{IsSome, spaced_from, has_from, has_last, has_next}

some_of_stepped : (lo : ℤ) (m n : ℕ) → IsSome (stepped lo m n) × (lo ≡ first_of (stepped lo m n))
unfolding stepped Has first_of
some_of_stepped lo zero n = (refl, refl)
some_of_stepped lo (suc gap) zero = (refl, refl)
some_of_stepped lo (suc gap) (suc more) = ((0, (omega arith, omega (arith, ints))), refl)

parts_of_stepped : (lo : ℤ) (m n : ℕ) → (n ≡ 0 → m ≡ 0) → (lo +ℤ pos (n * m) ≡ last_of (stepped lo m n)) × (m ≡ stride_of (stepped lo m n))
unfolding stepped last_of stride_of
parts_of_stepped lo zero n h = (omega (arith, ints), refl)
parts_of_stepped lo (suc gap) zero h = (omega (arith, ints), h refl)
parts_of_stepped lo (suc gap) (suc more) h = ((let e : (more + 1) * (gap + 1) ≡ suc more * suc gap = omega arith in omega (arith, ints)), omega arith)

-- how far hi lies above lo
reach_of : (s : Inside) → IsKept s → int_lt s.hi s.lo ≡ false → s.hi ≡ s.lo +ℤ pos (steps_between s.lo s.hi s.stride * s.stride)
reach_of s h some = by s.stride refl
  where
    by : (m : ℕ) → s.stride ≡ m → s.hi ≡ s.lo +ℤ pos (steps_between s.lo s.hi s.stride * s.stride)
    by zero e = let z : steps_between s.lo s.hi s.stride * s.stride ≡ 0 = (ap (λ x. steps_between s.lo s.hi s.stride * x) e ∙ omega arith) in omega (arith, ints, h.flat some e)
    by (suc gap) e = let r = h.spread some gap e in r.1.1 ∙ ap (λ x. s.lo +ℤ pos x) (sym (ap₂ (λ n m. n * m) r.1.0 e))

no_steps : (s : Inside) → IsKept s → int_lt s.hi s.lo ≡ false → steps_between s.lo s.hi s.stride ≡ 0 → s.stride ≡ 0
no_steps s h some z = by s.stride refl
  where
    by : (m : ℕ) → s.stride ≡ m → s.stride ≡ 0
    by zero e = e
    by (suc gap) e = (let r = h.spread some gap e in cc)

-- fields that are kept, and of which hi is not below lo, are the ends and the stride
pub span_from_kept : (s : Inside) → IsKept s → int_lt s.hi s.lo ≡ false → AreEndsOf (progression_of s) s.lo s.hi s.stride
unfolding progression_of
span_from_kept s h e = by (int_lt s.hi s.lo) e
  where
    by : (b : Bool) → b ≡ false → AreEndsOf (cond b empty (stepped s.lo s.stride (steps_between s.lo s.hi s.stride))) s.lo s.hi s.stride
    by true e = cc
    by false _ =
        let n = steps_between s.lo s.hi s.stride in
        let parts = parts_of_stepped s.lo s.stride n (no_steps s h e) in
        record {
          some = (some_of_stepped s.lo s.stride n).0;
          first = (some_of_stepped s.lo s.stride n).1;
          last = reach_of s h e ∙ parts.0;
          step = parts.1;
          low = h.low;
          high = h.high;
        }

pub empty_from_kept : (s : Inside) → int_lt s.hi s.lo ≡ true → progression_of s ≡ empty
unfolding progression_of
empty_from_kept s e = rw e

-- fields that may be kept
pub kept_from : (s : Inside) → IsInReach s.lo → IsInReach s.hi → s.lo ≤ℤ s.hi → IsCongruent s.stride s.hi s.lo → (s.lo ≡ s.hi → s.stride ≡ 0) → IsKept s
kept_from s low high ordered h flat = record {
  low = low;
  high = high;
  none = λ p. absurd (omega (arith, ints));
  flat = λ _ e. flat_is k.0 e k.1;
  spread = λ _ gap e. spread_is gap k.0 e k.1 (λ z. flat (omega (arith, ints, k.1)));
}
  where
    k : (k : ℕ) × (s.hi ≡ s.lo +ℤ pos (k * s.stride))
    k = strides_between h ordered

    flat_is : (k : ℕ) → s.stride ≡ 0 → s.hi ≡ s.lo +ℤ pos (k * s.stride) → s.hi ≡ s.lo
    flat_is k z e = let p : k * s.stride ≡ 0 = rw z (omega arith) in omega (arith, ints)

    spread_is : (gap k : ℕ) → s.stride ≡ suc gap → s.hi ≡ s.lo +ℤ pos (k * s.stride) → (k * s.stride ≡ 0 → s.stride ≡ 0)
        → (more : ℕ) × ((steps_between s.lo s.hi s.stride ≡ suc more) × (s.hi ≡ s.lo +ℤ pos (suc more * suc gap)))
    spread_is gap zero e reach some = (let z : s.stride ≡ 0 = some (omega arith) in absurd (omega arith))
    spread_is gap (suc more) e reach some =
        let d : nat_abs (s.hi -ℤ s.lo) ≡ suc more * s.stride = omega (arith, ints) in
        (more, (ap (λ x. x / s.stride) d ∙ mul-div_cancel (suc more) (omega arith), reach ∙ ap (λ m. s.lo +ℤ pos (suc more * m)) e))

-- the set of fields that are kept has exactly the numbers that are spaced so
pub exactly_from_span : (s : Progression) (lo hi : ℤ) (m : ℕ) → AreEndsOf s lo hi m → IsExactly (IsSpaced lo hi m) s
exactly_from_span s lo hi m h = record {
  sound = λ v p. rw (h.first, h.last, h.step) (spaced_from s v p);
  complete = λ v p. has_from s v h.some (rw (h.first, h.last, h.step) at p);
}

irreflexive : (v : ℤ) → int_lt v v ≡ false
irreflexive v = by (int_lt v v) refl
  where
    by : (b : Bool) → int_lt v v ≡ b → b ≡ false
    by true e = absurd (omega (arith, ints))
    by false e = refl

pub progression_of-one : (v : ℤ) → progression_of record { lo = v; hi = v; stride = 0 } ≡ single v
unfolding progression_of stepped
progression_of-one v = rw (irreflexive v)

-- a number in reach is an i128
pub fits_from_reach : (v : ℤ) → IsInReach v → FitsSigned w128 v
fits_from_reach v h = omega (arith, ints, h.low, h.high)

-- a set is the set of the fields that it is kept by, and its fields are those
pub kept_fields : (s : Inside) (t : Progression) → IsKept s → progression_of s ≡ t → fields_of t ≡ s
kept_fields s t h e = ap fields_of (sym e) ∙ fields_of-progression_of s h

-- whether the set is empty
pub empty_iff : (s : Inside) (t : Progression) → IsKept s → progression_of s ≡ t → (IsTrue (int_lt s.hi s.lo) ↔ (t ≡ empty))
unfolding Has first_of
empty_iff s t h e = by (int_lt s.hi s.lo) refl
  where
    by : (b : Bool) → int_lt s.hi s.lo ≡ b → (IsTrue b ↔ (t ≡ empty))
    by true test = (λ _. sym e ∙ empty_from_kept s test, λ _. refl)
    by false test = ((λ p. cc), λ z. (let p = (span_from_kept s h test).some in absurd (rw (e ∙ z) at p)))

-- the set that is made of fields that may be kept
pub exactly_from_fields : (s : Inside) → IsKept s → s.lo ≤ℤ s.hi → IsExactly (IsSpaced s.lo s.hi s.stride) (progression_of s)
exactly_from_fields s h ordered =
    exactly_from_span (progression_of s) s.lo s.hi s.stride (span_from_kept s h (not_below s ordered))
  where
    not_below : (s : Inside) → s.lo ≤ℤ s.hi → int_lt s.hi s.lo ≡ false
    not_below s ordered = by (int_lt s.hi s.lo) refl
      where
        by : (b : Bool) → int_lt s.hi s.lo ≡ b → b ≡ false
        by true e = absurd (omega (arith, ints))
        by false e = refl

-- whether two sets are equal, by their fields
pub and_assoc : (a b c r s t : Bool) → r ≡ a → s ≡ (r && b) → t ≡ (s && c) → t ≡ (a && (b && c))
and_assoc true b c r s t p q w = w ∙ ap (λ x. x && c) (q ∙ ap (λ x. x && b) p)
and_assoc false b c r s t p q w = w ∙ ap (λ x. x && c) (q ∙ ap (λ x. x && b) p)

pub exactly_single : (lo hi : ℤ) (m : ℕ) → lo ≡ hi → IsExactly (IsSpaced lo hi m) (single lo)
unfolding Has
exactly_single lo hi m e = record {
  sound = λ v p. record { from = omega (arith, ints); to = omega (arith, ints); congruent = cong_up m 0 v lo (omega (arith, ints)) };
  complete = λ v p. omega (arith, ints, p.from, p.to);
}

-- the least and the greatest member of a set that is not empty
pub span_of_some : (s : Inside) (t : Progression) → IsKept s → progression_of s ≡ t → t ≢ empty → AreEndsOf t s.lo s.hi s.stride
span_of_some s t h e some = by (int_lt s.hi s.lo) refl
  where
    by : (b : Bool) → int_lt s.hi s.lo ≡ b → AreEndsOf t s.lo s.hi s.stride
    by true test = absurd (some (sym e ∙ empty_from_kept s test))
    by false test = rw (← e) (span_from_kept s h test)

pub least_from_span : {t : Progression} {lo hi : ℤ} {m : ℕ} → AreEndsOf t lo hi m → IsLeastNumber (Has t) lo
least_from_span {t} {lo} {hi} {m} h = record {
  member = rw h.first h.some;
  bound = λ y p. rw h.first (spaced_from t y p).from;
}

pub greatest_from_span : {t : Progression} {lo hi : ℤ} {m : ℕ} → AreEndsOf t lo hi m → IsGreatestNumber (Has t) hi
greatest_from_span {t} {lo} {hi} {m} h = record {
  member = rw h.last (has_last t h.some);
  bound = λ y p. rw h.last (spaced_from t y p).to;
}

-- the stride is no greater than the distance of the ends
pub stride_bound : {t : Progression} {lo hi : ℤ} {m : ℕ} → AreEndsOf t lo hi m → pos m ≤ℤ pos (2 ^ 101)
stride_bound {t} {lo} {hi} {m} h =
    let a : (lo +ℤ pos m) ≤ℤ hi = rw (h.first, h.last, h.step) (spaced_from t _ (has_next t h.some)).to in
    omega (arith, ints, h.low.low, h.high.high)
