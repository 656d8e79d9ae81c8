-- The rows of remainders.
use Rattle.std.proofs.Common.{◌≡◌, ◌≢◌, ◌⊎◌, inl, inr, ⊎_elim, ℕ, zero, suc, ◌+◌, ◌*◌, ◌<◌, ◌≤◌, ◌^◌, max, ℤ, pos, negsuc, neg_ℤ, ◌+ℤ◌, ◌-ℤ◌, ◌≤ℤ◌, true, false, refl, sym, ap, ◌∙◌, subst, arith}
use Rattle.std.specs.Prelude as P
use Rattle.std.specs.Prelude.{◌<ℤ◌, ◌↔◌, IsTrue, not, unsigned_abs}
use Rattle.std.proofs.lemmas.Int.{ints, clamps}
use Rattle.std.proofs.lemmas.Bool.{cases_lt}
use Rattle.strided_dom.specs.Progression.{Progression, empty, single, row, Has, IsSubset, IsExactly, first_of, last_of}
use Rattle.strided_dom.proofs.Members.{has_last, spaced_from}
use Rattle.interval_dom.specs.Interval.{Span, span_of}
use Rattle.interval_dom.specs.Interval as I
use Rattle.interval_dom.specs.declared.intervals.Interval.{Interval}
use Rattle.interval_dom.specs.Rows as IR
use Rattle.congruence_dom.specs.Rows as C
use Rattle.congruence_dom.specs.declared.classes.Cong.{Cong}
use Rattle.tm_cint.specs.declared.int_types.IntType.{IntType}
use Rattle.transfer_int.specs.reading.Fittings.{AreRows}
use Rattle.transfer_int.specs.Operands.{AreValues, IsDivisor, span_of_set}
use Rattle.transfer_int.specs.reading.Parts.{IsPart}
use Rattle.transfer_int.specs.reading.Remainders.{HasSomeDivisor, AreSmaller}
use Rattle.transfer_int.specs.Rows.{InRemainders, InRowPair}
use Rattle.transfer_int.specs.Values.{IsFitted}
use Rattle.transfer_int.proofs.Holding.{remainders_hold, rem_small}
use Rattle.transfer_int.proofs.Inside.{fitted_inside}

-- ---- divisors

zero_or_not : (v : ℤ) → (v ≡ pos 0) ⊎ (v ≢ pos 0)
zero_or_not (pos zero) = inl refl
zero_or_not (pos (suc n)) = inr (λ e. omega (arith, ints, e))
zero_or_not (negsuc n) = inr (λ e. omega (arith, ints, e))

zero_alone : (s : Progression) → IsSubset s (single (pos 0)) → (v : ℤ) → Has s v → v ≡ pos 0
unfolding Has
zero_alone s h v p = h.within v p

below_zero : (s : Progression) → ((v : ℤ) → Has s v → v ≡ pos 0) → IsSubset s (single (pos 0))
unfolding Has
below_zero s h = record { within = h }

divisor_or_none : (b : Progression) → HasSomeDivisor b ⊎ IsSubset b (single (pos 0))
unfolding Has
divisor_or_none empty = inr (record { within = λ v h. absurd h })
divisor_or_none (single w) = ⊎_elim (λ e. inr (record { within = λ v h. h ∙ e })) (λ n. inl (w, record { member = refl; not_zero = n })) (zero_or_not w)
divisor_or_none (row first gap more) =
    ⊎_elim (λ e. inl (first +ℤ pos (1 * (gap + 1)), record { member = (1, (omega arith, refl)); not_zero = λ z. omega (arith, ints, e, z) }))
    (λ n. inl (first, record { member = (0, (omega arith, omega (arith, ints))); not_zero = n })) (zero_or_not first)

pub divisor_iff : (b : Progression) (t : P.Bool) → (IsTrue t ↔ IsSubset b (single (pos 0))) → (IsTrue (not t) ↔ HasSomeDivisor b)
divisor_iff b true h = (λ e. absurd cc, λ d. absurd (d.1.not_zero (zero_alone b (h.0 refl) d.0 d.1.member)))
divisor_iff b false h = (λ e. ⊎_elim (λ d. d) (λ k. absurd (let f = h.1 k in cc)) (divisor_or_none b), λ d. refl)

pub no_divisor : (a b : Progression) (t : P.Bool) → (IsTrue t ↔ HasSomeDivisor b) → t ≡ false → (v : ℤ) → InRemainders a b v → ⊥
no_divisor a b t h e v r = (let f = h.1 (r.some, r.divisor) in cc)

-- ---- smaller members

size_within : (l h x : ℤ) → l ≤ℤ x → x ≤ℤ h → unsigned_abs x ≤ max (unsigned_abs l) (unsigned_abs h)
size_within l h x p q = omega (arith, ints)

in_size : (s : ℕ) (y : ℤ) → unsigned_abs y ≤ s → (neg_ℤ (pos s) ≤ℤ y) × (y ≤ℤ pos s)
in_size s y h = (omega (arith, ints), omega (arith, ints))

size_of : (s : ℕ) (y : ℤ) → neg_ℤ (pos s) ≤ℤ y → y ≤ℤ pos s → unsigned_abs y ≤ s
size_of s y h k = omega (arith, ints)

pub smaller_iff : (a b p : Progression) (lo hi low high : ℤ) (t : P.Bool) → Has a (first_of a) → lo ≡ first_of a → hi ≡ last_of a
    → low ≡ neg_ℤ (pos (max (unsigned_abs lo) (unsigned_abs hi))) → high ≡ pos (max (unsigned_abs lo) (unsigned_abs hi)) → IsExactly (IsPart b low high) p
    → (IsTrue t ↔ IsSubset p (single (pos 0))) → (IsTrue t ↔ AreSmaller a b)
smaller_iff a b p lo hi low high t some e f g h exact below = (λ u. to (below.0 u), λ u. below.1 (below_zero p (from u)))
  where
    size : ℕ
    size = max (unsigned_abs lo) (unsigned_abs hi)

    in_part : (y : ℤ) → Has b y → unsigned_abs y ≤ size → Has p y
    in_part y k n = let r = in_size size y n in exact.complete y (record { member = k; from = omega (arith, ints, r.0, g); to = omega (arith, ints, r.1, h) })

    to : IsSubset p (single (pos 0)) → AreSmaller a b
    to u x y k d =
        let s = spaced_from a x k in
        let n = size_within lo hi x (omega (arith, ints, s.from, e)) (omega (arith, ints, s.to, f)) in
        ⊎_elim (λ l. omega (arith, n, l)) (λ l. absurd (d.not_zero (zero_alone p u y (in_part y d.member l)))) (cases_lt size (unsigned_abs y))

    above_all : AreSmaller a b → (v : ℤ) → IsDivisor b v → size < unsigned_abs v
    above_all u v d =
        let l : unsigned_abs lo < unsigned_abs v = subst (λ x. unsigned_abs x < unsigned_abs v) (sym e) (u (first_of a) v some d) in
        let m : unsigned_abs hi < unsigned_abs v = subst (λ x. unsigned_abs x < unsigned_abs v) (sym f) (u (last_of a) v (has_last a some) d) in
        omega (arith, l, m)

    from : AreSmaller a b → (v : ℤ) → Has p v → v ≡ pos 0
    from u v k =
        let r = exact.sound v k in
        let n = size_of size v (omega (arith, ints, r.from, g)) (omega (arith, ints, r.to, h)) in
        ⊎_elim (λ z. z) (λ z. (let m = above_all u v (record { member = r.member; not_zero = z }) in absurd (omega (arith, n, m)))) (zero_or_not v)

-- ---- what the code gives

pub all_remain : (t : IntType) (a b : Progression) → AreValues t a → HasSomeDivisor b → AreSmaller a b → IsExactly (IsFitted t (InRemainders a b)) a
all_remain t a b values d small = fitted_inside t (InRemainders a b) a (λ r h. values.all r (h.small small)) (record { sound = from; complete = λ v h. h.small small })
  where
    from : (v : ℤ) → Has a v → InRemainders a b v
    from v h = subst (λ w. InRemainders a b w) (rem_small v d.0 (small v d.0 h d.1)) (remainders_hold a b v d.0 h d.1.member d.1.not_zero)

pub remainder_rows : (a b : Progression) (i : Interval) (k : Cong) (t : P.Bool) → AreRows (InRowPair IR.rem_row C.rem_row a b) i k → HasSomeDivisor b → (IsTrue t ↔ AreSmaller a b) → t ≡ false → AreRows (InRemainders a b) i k
remainder_rows a b i k t h d s e = record {
  narrow = h.narrow;
  sound = λ v m. record { rows = h.sound v m; some = d.0; divisor = d.1; small = λ l. absurd (let f = s.1 l in cc) };
  complete = λ v r. h.complete v r.rows;
}

pub span_divisor : (b : Progression) (i : Span) → i ≡ span_of_set b → HasSomeDivisor b → IR.HasDivisor i
span_divisor b i e (y, d) = subst IR.HasDivisor (sym e) (by_sign y d)
  where
    by_sign : (y : ℤ) → IsDivisor b y → IR.HasDivisor (span_of_set b)
    by_sign (negsuc n) d = inl (let l = (spaced_from b (negsuc n) d.member).from in omega (arith, ints, l))
    by_sign (pos zero) d = absurd (d.not_zero refl)
    by_sign (pos (suc n)) d = inr (let l = (spaced_from b (pos (suc n)) d.member).to in omega (arith, ints, l))

pub narrow_remainders : (p q i : Interval) → I.HasTypeValues q → span_of i ≡ IR.rem_row (span_of p) (span_of q) → (i.hi -ℤ i.lo) <ℤ pos (2 ^ 127)
narrow_remainders p q i h e =
    let lo = ap (λ (s : Span). s.lo) e in
    let hi = ap (λ (s : Span). s.hi) e in
    omega (arith, ints, clamps, lo, hi, limit)
  where
    limit : IR.rem_limit (span_of q) <ℤ pos (2 ^ 66)
    limit = omega (arith, ints, h.low, h.high, q.ordered)
