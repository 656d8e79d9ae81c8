-- Smaller operands have a smaller R, a smaller value and fewer classes.
use Rattle.std.proofs.Common.{inl, inr, ℕ, ◌-◌, ◌^◌, ◌≤◌, ℤ, pos, ◌-ℤ◌, ◌*ℤ◌, ◌≤ℤ◌, subst, arith}
use Rattle.std.specs.Int.{int_max}
use Rattle.std.specs.Prelude.{unsigned_abs}
use Rattle.std.proofs.Math.Nat.{pow-le-pow_right}
use Rattle.interval_dom.specs.Bitwise.{bit_length}
use Rattle.interval_dom.proofs.Lengths.{length_grows}
use Rattle.std.proofs.lemmas.Int.{ints, clamps}
use Rattle.strided_dom.specs.Progression.{Progression, Has, IsSubset, first_of}
use Rattle.strided_dom.proofs.Members.{some_from}
use Rattle.interval_dom.specs.Interval.{Span, InInterval}
use Rattle.interval_dom.specs.Interval as IV
use Rattle.interval_dom.specs.Laws as IL
use Rattle.interval_dom.specs.Rows as I
use Rattle.interval_dom.proofs.Sums as S
use Rattle.interval_dom.proofs.Products as M
use Rattle.interval_dom.proofs.Remainders as R
use Rattle.tm_numbers.specs.Powers.{power}
use Rattle.congruence_dom.specs.Laws as CL
use Rattle.congruence_dom.specs.Rows as C
use Rattle.congruence_dom.specs.declared.classes.Cong.{Cong}
use Rattle.congruence_dom.proofs.Congruences as K
use Rattle.congruence_dom.proofs.Quotients as Q
use Rattle.tm_numbers.proofs.Divisibility.{divides_same, divides_add, divides_sub, divides_scaled}
use Rattle.tm_numbers.proofs.Integers.{sub_mul}
use Rattle.transfer_int.specs.Operands.{span_of_set, class_of_set, IsDivisor, IsShifted, IsCount, IsResult, IsBetween}
use Rattle.transfer_int.specs.Rows.{InRowPair, InQuotients, InRemainders, InLeftShifts, InRightShifts, InBits, InAnd, InOr, InRows, IsUnder}
use Rattle.transfer_int.specs.Values.{IsTruth, IsValue, MayFail, Leaves, HasBadCount, ShiftsNegative}
use Rattle.transfer_int.proofs.Sets.{ordered, span_within, class_within, single_below}
use Rattle.transfer_int.proofs.Wrapping.{fitting_grows}
use Rattle.tm_cint.specs.declared.Class.{Class}
use Rattle.tm_cint.specs.declared.Class.TheVariants.{Overflow, Shift, Index, Pointer, Deref, Lock, Race, Div as DivByZero}
use Rattle.tm_cint.specs.declared.int_types.IntType.{IntType}
use Rattle.tm_cint.specs.declared.operators.BinOp.{BinOp}
use Rattle.tm_cint.specs.declared.operators.BinOp.TheVariants.{Add, Sub, Mul, Div, Rem, Shl, Shr, And, Or, Xor, Lt, Le, Gt, Ge, Eq, Ne}

size_le : (x t : ℤ) → pos 0 ≤ℤ x → x ≤ℤ t → unsigned_abs x ≤ unsigned_abs t
size_le x t h k = omega (arith, ints)

ones_grow : (m n : ℕ) → m ≤ n → pos (2 ^ bit_length m - 1) ≤ℤ pos (2 ^ bit_length n - 1)
ones_grow m n h =
    let k : 2 ^ bit_length m ≤ 2 ^ bit_length n = pow-le-pow_right (omega arith) (length_grows m n h) in
    omega (arith, ints)

ones_over_grows : (a b c d : Span) → pos 0 ≤ℤ a.hi → IV.IsWithin a c → IV.IsWithin b d → I.ones_over a b ≤ℤ I.ones_over c d
ones_over_grows a b c d z h k =
    ones_grow _ _ (size_le (int_max a.hi b.hi) (int_max c.hi d.hi) (omega (arith, ints, clamps)) (omega (arith, ints, clamps, h.high, k.high)))

in_within : (i j : Span) (x : ℤ) → IV.IsWithin i j → InInterval i x → InInterval j x
in_within i j x h p = record { low = omega (arith, ints, h.low, p.low); high = omega (arith, ints, h.high, p.high) }

between_grows : (P Q : ℤ → Type 0) (v : ℤ) → ((r : ℤ) → P r → Q r) → IsBetween P v → IsBetween Q v
between_grows P Q v more h = record { low = h.low; high = h.high; low_is = more h.low h.low_is; high_is = more h.high h.high_is; from = h.from; to = h.to }

module _ (a b c d : Progression) (v : ℤ) (p : IsSubset a c) (q : IsSubset b d) where
  has_first : (s t : Progression) → Has s (first_of s) → IsSubset s t → Has t (first_of t)
  has_first s t h k = some_from t (first_of s) (k.within (first_of s) h)

  pair_grows : (span : Span → Span → Span) (class : Cong → Cong → Cong) → IL.Grows IL.Always span → CL.Grows class → InRowPair span class a b v → InRowPair span class c d v
  pair_grows span class m n h = record {
    left = has_first a c h.left p;
    right = has_first b d h.right q;
    in_span = in_within _ _ v (m (span_of_set a) (span_of_set b) (span_of_set c) (span_of_set d) tt (ordered a) (ordered b) (span_within a c h.left p) (span_within b d h.right q)) h.in_span;
    in_class = n (class_of_set a) (class_of_set b) (class_of_set c) (class_of_set d) (class_within a c h.left p) (class_within b d h.right q) v h.in_class;
  }

  result_grows : (op : ℤ → ℤ → ℤ) (P Q P' Q' : ℤ → Type 0) (r : ℤ) → ((x : ℤ) → P x → P' x) → ((y : ℤ) → Q y → Q' y) → IsResult op P Q r → IsResult op P' Q' r
  result_grows op P Q P' Q' r m n h = record { left = h.left; right = h.right; in_left = m h.left h.in_left; in_right = n h.right h.in_right; is = h.is }

  divisor_grows : (y : ℤ) → IsDivisor b y → IsDivisor d y
  divisor_grows y h = record { member = q.within y h.member; not_zero = h.not_zero }

  shifted_grows : (x : ℤ) → IsShifted a x → IsShifted c x
  shifted_grows x h = record { member = p.within x h.member; not_negative = h.not_negative }

  count_grows : (t : IntType) (y : ℤ) → IsCount t b y → IsCount t d y
  count_grows t y h = record { member = q.within y h.member; count = h.count }

  quotients_grow : InQuotients a b v → InQuotients c d v
  quotients_grow h =
      let l = h.between.low_is in
      record {
        between = between_grows _ _ v (λ r x. result_grows _ _ _ _ _ r p.within divisor_grows x) h.between;
        exact = λ w e n k.
            (let g = Q.div_grows (class_of_set a) (class_of_set c) w n k (class_within a c (some_from a l.left l.in_left) p) in
            g.1 v (h.exact w (single_below b w (some_from b l.right l.in_right.member) (subst (λ s. IsSubset b s) e q)) n g.0));
      }

  remainders_grow : InRemainders a b v → InRemainders c d v
  remainders_grow h = record {
    rows = pair_grows I.rem_row C.rem_row R.rem_grows K.rem_grows h.rows;
    some = h.some;
    divisor = divisor_grows h.some h.divisor;
    small = λ k. p.within v (h.small (λ x y i j. k x y (p.within x i) (divisor_grows y j)));
  }

  left_shifts_grow : (t : IntType) → InLeftShifts t a b v → InLeftShifts t c d v
  left_shifts_grow t h =
      let l = h.between.low_is in
      record {
        between = between_grows _ _ v (λ r x. result_grows _ _ _ _ _ r shifted_grows (count_grows t) x) h.between;
        class = record {
          multiple = λ w n k m. h.class.multiple w n (λ x i. k x (shifted_grows x i)) (λ y j. m y (count_grows t y j));
          exact = λ n m x k i j.
              (let z = l.left in
              let near = j z (shifted_grows z l.in_left) in
              let e = h.class.exact n m z (λ y f. k y (count_grows t y f)) l.in_left
              (λ y f. divides_same m (omega (arith, ints)) (divides_sub m (y -ℤ x) (z -ℤ x) (j y (shifted_grows y f)) near)) in
              divides_same (m *ℤ power n) (omega (arith, ints, sub_mul z x (power n)))
              (divides_add (m *ℤ power n) (v -ℤ z *ℤ power n) ((z -ℤ x) *ℤ power n) e (divides_scaled m (z -ℤ x) (power n) near)));
        };
      }

  right_shifts_grow : (t : IntType) → InRightShifts t a b v → InRightShifts t c d v
  right_shifts_grow t h =
      let l = h.between.low_is in
      record {
        between = between_grows _ _ v (λ r x. result_grows _ _ _ _ _ r p.within (count_grows t) x) h.between;
        exact = λ n k m.
            (let g = Q.shr_grows (class_of_set a) (class_of_set c) n m (class_within a c (some_from a l.left l.in_left) p) in
            g.1 v (h.exact n (λ y f. k y (count_grows t y f)) g.0));
      }

  bits_grow : (f : ℕ → ℕ → ℕ) (t : IntType) → InBits f t a b v → InBits f t c d v
  bits_grow f t h = record {
    left = has_first a c h.left p;
    right = has_first b d h.right q;
    in_type = h.in_type;
    exact = λ x y e k. h.exact x y (single_below a x h.left (subst (λ s. IsSubset a s) e p)) (single_below b y h.right (subst (λ s. IsSubset b s) k q));
  }

  under_grows : (s t : Progression) → Has s (first_of s) → IsSubset s t → IsUnder s v → IsUnder t v
  under_grows s t some k h n =
      let w = span_within s t some k in
      let u = h (omega (arith, ints, n, w.low)) in
      (u.0, omega (arith, ints, u.1, w.high))

  and_grows : (t : IntType) → InAnd t a b v → InAnd t c d v
  and_grows t h = record { bits = bits_grow _ t h.bits; under_left = under_grows a c h.bits.left p h.under_left; under_right = under_grows b d h.bits.right q h.under_right }

  or_grows : (f : ℕ → ℕ → ℕ) (l k : ℤ) (t : IntType) → (Has a (first_of a) → Has b (first_of b) → k ≤ℤ l) → InOr f l t a b v → InOr f k t c d v
  or_grows f l k t e h =
      let i = span_within a c h.bits.left p in
      let j = span_within b d h.bits.right q in
      record {
        bits = bits_grow f t h.bits;
        spread = λ m n.
            (let u = h.spread (omega (arith, ints, m, i.low)) (omega (arith, ints, n, j.low)) in
            (omega (arith, ints, u.0, e h.bits.left h.bits.right), omega (arith, ints, u.1, ones_over_grows (span_of_set a) (span_of_set b) (span_of_set c) (span_of_set d) (omega (arith, ints, m, i.low, ordered a)) i j)));
      }

  lows_grow : Has a (first_of a) → Has b (first_of b) → int_max (first_of c) (first_of d) ≤ℤ int_max (first_of a) (first_of b)
  lows_grow h k = omega (arith, ints, clamps, (span_within a c h p).low, (span_within b d k q).low)

  truth_grows : (op : BinOp) (t : IntType) → IsTruth op t a b v → IsTruth op t c d v
  truth_grows op t h = record { left = h.left; right = h.right; in_left = p.within h.left h.in_left; in_right = q.within h.right h.in_right; is = h.is }

pub rows_grow : (op : BinOp) (t : IntType) (a b c d : Progression) (v : ℤ) → IsSubset a c → IsSubset b d → InRows op t a b v → InRows op t c d v
rows_grow Add t a b c d v p q h = pair_grows a b c d v p q I.add_row C.add_row S.add_grows K.add_grows h
rows_grow Sub t a b c d v p q h = pair_grows a b c d v p q I.sub_row C.sub_row S.sub_grows K.sub_grows h
rows_grow Mul t a b c d v p q h = pair_grows a b c d v p q I.mul_row C.mul_row M.mul_grows K.mul_grows h
rows_grow Div t a b c d v p q h = quotients_grow a b c d v p q h
rows_grow Rem t a b c d v p q h = remainders_grow a b c d v p q h
rows_grow Shl t a b c d v p q h = left_shifts_grow a b c d v p q t h
rows_grow Shr t a b c d v p q h = right_shifts_grow a b c d v p q t h
rows_grow And t a b c d v p q h = and_grows a b c d v p q t h
rows_grow Or t a b c d v p q h = or_grows a b c d v p q _ _ _ t (lows_grow a b c d v p q) h
rows_grow Xor t a b c d v p q h = or_grows a b c d v p q _ _ _ t (λ i j. omega (arith, ints)) h
rows_grow Lt t a b c d v p q h = absurd h
rows_grow Le t a b c d v p q h = absurd h
rows_grow Gt t a b c d v p q h = absurd h
rows_grow Ge t a b c d v p q h = absurd h
rows_grow Eq t a b c d v p q h = absurd h
rows_grow Ne t a b c d v p q h = absurd h

pub value_grows : (op : BinOp) (t : IntType) (a b c d : Progression) (v : ℤ) → IsSubset a c → IsSubset b d → IsValue op t a b v → IsValue op t c d v
value_grows Add t a b c d v p q h = fitting_grows t _ _ v (λ r x. rows_grow Add t a b c d r p q x) h
value_grows Sub t a b c d v p q h = fitting_grows t _ _ v (λ r x. rows_grow Sub t a b c d r p q x) h
value_grows Mul t a b c d v p q h = fitting_grows t _ _ v (λ r x. rows_grow Mul t a b c d r p q x) h
value_grows Div t a b c d v p q h = fitting_grows t _ _ v (λ r x. rows_grow Div t a b c d r p q x) h
value_grows Rem t a b c d v p q h = fitting_grows t _ _ v (λ r x. rows_grow Rem t a b c d r p q x) h
value_grows Shl t a b c d v p q h = fitting_grows t _ _ v (λ r x. rows_grow Shl t a b c d r p q x) h
value_grows Shr t a b c d v p q h = fitting_grows t _ _ v (λ r x. rows_grow Shr t a b c d r p q x) h
value_grows And t a b c d v p q h = fitting_grows t _ _ v (λ r x. rows_grow And t a b c d r p q x) h
value_grows Or t a b c d v p q h = fitting_grows t _ _ v (λ r x. rows_grow Or t a b c d r p q x) h
value_grows Xor t a b c d v p q h = fitting_grows t _ _ v (λ r x. rows_grow Xor t a b c d r p q x) h
value_grows Lt t a b c d v p q h = truth_grows a b c d v p q Lt t h
value_grows Le t a b c d v p q h = truth_grows a b c d v p q Le t h
value_grows Gt t a b c d v p q h = truth_grows a b c d v p q Gt t h
value_grows Ge t a b c d v p q h = truth_grows a b c d v p q Ge t h
value_grows Eq t a b c d v p q h = truth_grows a b c d v p q Eq t h
value_grows Ne t a b c d v p q h = truth_grows a b c d v p q Ne t h

leaves_grow : (op : BinOp) (t : IntType) (a b c d : Progression) → IsSubset a c → IsSubset b d → Leaves op t a b → Leaves op t c d
leaves_grow op t a b c d p q h = record { signed = h.signed; number = h.number; in_rows = rows_grow op t a b c d h.number p q h.in_rows; outside = h.outside }

bad_count_grows : (t : IntType) (a b c d : Progression) → IsSubset a c → IsSubset b d → HasBadCount t a b → HasBadCount t c d
bad_count_grows t a b c d p q h = record { left = h.left; right = h.right; in_left = p.within h.left h.in_left; in_right = q.within h.right h.in_right; bad = h.bad }

negative_grows : (t : IntType) (a b c d : Progression) → IsSubset a c → IsSubset b d → ShiftsNegative t a b → ShiftsNegative t c d
negative_grows t a b c d p q h =
    record { signed = h.signed; left = h.left; right = h.right; in_left = p.within h.left h.in_left; in_right = q.within h.right h.in_right; negative = h.negative }

pub fail_grows : (op : BinOp) (t : IntType) (a b c d : Progression) (class : Class) → IsSubset a c → IsSubset b d → MayFail op t a b class → MayFail op t c d class
fail_grows op t a b c d Overflow p q (inl h) = inl (h.0, leaves_grow op t a b c d p q h.1)
fail_grows op t a b c d Overflow p q (inr h) = inr (h.0, record { signed = h.1.signed; least = p.within _ h.1.least; minus_one = q.within _ h.1.minus_one })
fail_grows op t a b c d DivByZero p q h =
    let z = h.1 in
    (h.0, record { dividend = z.dividend; in_left = p.within z.dividend z.in_left; zero_divisor = q.within _ z.zero_divisor })
fail_grows op t a b c d Shift p q (e, inl h) = (e, inl (bad_count_grows t a b c d p q h))
fail_grows op t a b c d Shift p q (e, inr (f, inl h)) = (e, inr (f, inl (negative_grows t a b c d p q h)))
fail_grows op t a b c d Shift p q (e, inr (f, inr h)) = (e, inr (f, inr (leaves_grow Shl t a b c d p q h)))
fail_grows op t a b c d Index p q h = absurd h
fail_grows op t a b c d Pointer p q h = absurd h
fail_grows op t a b c d Deref p q h = absurd h
fail_grows op t a b c d Lock p q h = absurd h
fail_grows op t a b c d Race p q h = absurd h
