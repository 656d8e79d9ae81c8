-- R holds the mathematical result of every pair of members, the value every result, and the classes every error.
use Rattle.std.proofs.Common.{◌≡◌, ◌≢◌, ℕ, ◌+◌, ◌-◌, ◌^◌, ◌<◌, ◌≤◌, ℤ, pos, negsuc, neg_ℤ, ◌+ℤ◌, ◌-ℤ◌, ◌*ℤ◌, ◌≤ℤ◌, Result, Ok, true, false, ◌&&◌, refl, sym, ap, ◌∙◌, subst, arith, bit_and, bit_or, bit_xor}
use Rattle.std.specs.Prelude.{unsigned_abs, int_div, int_rem, int_le}
use Rattle.std.specs.Int.{int_shr}
use Rattle.std.proofs.lemmas.Int.{ints}
use Rattle.std.proofs.lemmas.Nat.{pow-add}
use Rattle.std.proofs.Math.Nat.{mod-eq_of_lt}
use Rattle.strided_dom.specs.Progression.{Progression, single, Has}
use Rattle.strided_dom.proofs.Members.{some_from}
use Rattle.interval_dom.specs.Interval.{Span}
use Rattle.interval_dom.specs.Laws as IL
use Rattle.interval_dom.specs.Rows as I
use Rattle.interval_dom.proofs.Sums as S
use Rattle.interval_dom.proofs.Products as M
use Rattle.interval_dom.proofs.Remainders as R
use Rattle.interval_dom.proofs.Guarded.{both_true, is_le}
use Rattle.tm_numbers.specs.Operands.{AnyNumbers, NotByZero}
use Rattle.tm_numbers.specs.Powers.{power}
use Rattle.congruence_dom.specs.Class.{InClass}
use Rattle.tm_numbers.specs.Divisors.{Divides}
use Rattle.congruence_dom.specs.Laws as CL
use Rattle.congruence_dom.specs.Rows as C
use Rattle.congruence_dom.specs.declared.classes.Cong.{Cong}
use Rattle.congruence_dom.proofs.Congruences as K
use Rattle.congruence_dom.proofs.Quotients as Q
use Rattle.tm_numbers.proofs.Divisibility.{divides_same, divides_product, divides_scaled}
use Rattle.tm_numbers.proofs.Integers.{sub_mul}
use Rattle.transfer_int.specs.Operands.{span_of_set, class_of_set, IsDivisor, IsShifted, IsCount, IsResult, IsBetween}
use Rattle.transfer_int.specs.Rows.{InRowPair, InQuotients, InRemainders, InLeftShifts, InRightShifts, InBits, InAnd}
use Rattle.transfer_int.specs.Values.{IsFitted, IsValue}
use Rattle.transfer_int.proofs.Sets.{in_span, in_class}
use Rattle.transfer_int.proofs.BitValues.{and_under_left, and_under_right, or_spread, xor_spread}
use Rattle.transfer_int.proofs.Wrapping.{fitting_holds}
use Rattle.tm_cint.specs.IntTypes.{IsIn, is_in}
use Rattle.tm_cint.specs.Conversions.{is_zero}
use Rattle.tm_cint.specs.Operators.{outcome, is_count, bitwise, IsRightOperand}
use Rattle.tm_cint.specs.declared.Class.{Class}
use Rattle.tm_cint.specs.declared.Class.TheVariants.{Overflow, Shift}
use Rattle.tm_cint.specs.declared.int_types.IntType.{IntType}
use Rattle.tm_cint.specs.declared.operators.BinOp.{BinOp}
use Rattle.tm_cint.specs.declared.operators.BinOp.TheVariants.{Add, Sub, Mul, Div, Rem, Shl, Shr, And, Or, Xor, Lt, Le, Gt, Ge, Eq, Ne}
use Rattle.tm_cint.proofs.Values.{right_of, left_of, fitted-same, int_rem-in, int_shr-in, outcome-in}

-- the members of a set of one number
only : (s : Progression) (z d : ℤ) → Has s z → s ≡ single d → z ≡ d
unfolding Has
only s z d m e = subst (λ q. Has q z) e m

-- ---- R

pub rem_small : (x y : ℤ) → unsigned_abs x < unsigned_abs y → int_rem x y ≡ x
rem_small (pos m) y l = ap pos (mod-eq_of_lt l)
rem_small (negsuc m) y l = ap (λ n. neg_ℤ (pos n)) (mod-eq_of_lt l)

pub powers_divide : (m n : ℕ) → m ≤ n → Divides (power m) (power n)
powers_divide m n l = record { quotient = power (n - m); is = ap pos (ap (λ (e : ℕ). 2 ^ e) (rest m n l) ∙ pow-add 2 m (n - m)) }
  where
    rest : (m n : ℕ) → m ≤ n → n ≡ m + (n - m)
    rest m n l = omega arith

module _ (a b : Progression) (x y : ℤ) (h : Has a x) (k : Has b y) where
  pub pair_holds : (Takes Takes' : ℤ → ℤ → Type 0) (span : Span → Span → Span) (class : Cong → Cong → Cong) (op : ℤ → ℤ → ℤ) → Takes x y → Takes' x y
      → IL.Holds IL.Always Takes span op → CL.Holds Takes' class op → InRowPair span class a b (op x y)
  pair_holds Takes Takes' span class op t t' m n = record {
    left = some_from a x h;
    right = some_from b y k;
    in_span = m (span_of_set a) (span_of_set b) x y tt t (in_span a x h) (in_span b y k);
    in_class = n (class_of_set a) (class_of_set b) x y t' (in_class a x h) (in_class b y k);
  }

  between_holds : (op : ℤ → ℤ → ℤ) (P Q : ℤ → Type 0) → P x → Q y → IsBetween (IsResult op P Q) (op x y)
  between_holds op P Q p q =
      let r : IsResult op P Q (op x y) = record { left = x; right = y; in_left = p; in_right = q; is = refl } in
      record { low = op x y; high = op x y; low_is = r; high_is = r; from = omega (arith, ints); to = omega (arith, ints) }

  pub quotients_hold : y ≢ pos 0 → InQuotients a b (int_div x y)
  quotients_hold n = record {
    between = between_holds int_div (Has a) (IsDivisor b) h (record { member = k; not_zero = n });
    exact = λ d e m g.
        (let s : d ≡ y = sym (only b y d k e) in
        subst (λ w. InClass (C.div_row (class_of_set a) d) (int_div x w)) s (Q.div_holds (class_of_set a) d x m g (in_class a x h)));
  }

  pub remainders_hold : y ≢ pos 0 → InRemainders a b (int_rem x y)
  remainders_hold n =
      let divisor : IsDivisor b y = record { member = k; not_zero = n } in
      record {
        rows = pair_holds NotByZero NotByZero I.rem_row C.rem_row int_rem n n R.rem_holds K.rem_holds;
        some = y;
        divisor = divisor;
        small = λ l. subst (λ w. Has a w) (sym (rem_small x y (l x y h divisor))) h;
      }

  pub left_shifts_hold : (t : IntType) → pos 0 ≤ℤ x → is_count t y ≡ true → InLeftShifts t a b (I.shift_left x y)
  left_shifts_hold t l c =
      let s : IsShifted a x = record { member = h; not_negative = l } in
      let n : IsCount t b y = record { member = k; count = c } in
      record {
        between = between_holds I.shift_left (IsShifted a) (IsCount t b) s n;
        class = record {
          multiple = λ d m p q. divides_product d (power m) x (power (unsigned_abs y)) (p x s) (powers_divide m (unsigned_abs y) (q y n));
          exact = λ e m z p q r.
              subst (λ w. Divides (m *ℤ power e) (x *ℤ power w -ℤ z *ℤ power e)) (sym (p y n))
              (divides_same (m *ℤ power e) (sub_mul x z (power e)) (divides_scaled m (x -ℤ z) (power e) (r x s)));
        };
      }

  right_shifts_hold : (t : IntType) → is_count t y ≡ true → InRightShifts t a b (I.shift_right x y)
  right_shifts_hold t c =
      let n : IsCount t b y = record { member = k; count = c } in
      record {
        between = between_holds I.shift_right (Has a) (IsCount t b) h n;
        exact = λ e p d. subst (λ w. InClass (C.shr_row (class_of_set a) e) (int_shr x w)) (sym (p y n)) (Q.shr_holds (class_of_set a) e x d (in_class a x h));
      }

  bits_hold : (f : ℕ → ℕ → ℕ) (t : IntType) → IsIn t (bitwise f t x y) → InBits f t a b (bitwise f t x y)
  bits_hold f t i = record {
    left = some_from a x h;
    right = some_from b y k;
    in_type = i;
    exact = λ u w e g. ap (λ s. bitwise f t s y) (only a x u h e) ∙ ap (λ s. bitwise f t u s) (only b y w k g);
  }

  and_holds : (t : IntType) → IsIn t x → IsIn t y → IsIn t (bitwise bit_and t x y) → InAnd t a b (bitwise bit_and t x y)
  and_holds t p q i = record {
    bits = bits_hold bit_and t i;
    under_left = λ l.
        (let s = in_span a x h in
        let u = and_under_left t x y p (omega (arith, ints, l, s.low)) in
        (u.0, omega (arith, ints, u.1, s.high)));
    under_right = λ l.
        (let s = in_span b y k in
        let u = and_under_right t x y q (omega (arith, ints, l, s.low)) in
        (u.0, omega (arith, ints, u.1, s.high)));
  }

-- ---- values

pub inside : (t : IntType) (S : ℤ → Type 0) (z : ℤ) → IsIn t z → S z → IsFitted t S z
inside t S z i p = fitting_holds Overflow t S z z p (fitted-same Overflow t z i)

pub not_zero : (y : ℤ) → is_zero y ≡ false → y ≢ pos 0
not_zero y e z = absurd (let f = sym (ap is_zero z) ∙ e in cc)

abbrev ok : ℤ → Result ℤ Class
ok z = Ok z

same : (p q : ℤ) → ok p ≡ ok q → p ≡ q
same p q e = cc

moved : (t : IntType) (S : ℤ → Type 0) (z r : ℤ) → IsFitted t S z → ok z ≡ ok r → IsFitted t S r
moved t S z r h e = subst (λ w. IsFitted t S w) (same z r e) h

pub value_holds : (op : BinOp) (t : IntType) (a b : Progression) (x y r : ℤ) → IsIn t x → IsRightOperand op t y → Has a x → Has b y → outcome op t x y ≡ Ok r → IsValue op t a b r
value_holds Add t a b x y r i j h k e = fitting_holds Overflow t _ _ r (pair_holds a b x y h k AnyNumbers AnyNumbers I.add_row C.add_row ◌+ℤ◌ tt tt S.add_holds K.add_holds) e
value_holds Sub t a b x y r i j h k e = fitting_holds Overflow t _ _ r (pair_holds a b x y h k AnyNumbers AnyNumbers I.sub_row C.sub_row ◌-ℤ◌ tt tt S.sub_holds K.sub_holds) e
value_holds Mul t a b x y r i j h k e = fitting_holds Overflow t _ _ r (pair_holds a b x y h k AnyNumbers AnyNumbers I.mul_row C.mul_row ◌*ℤ◌ tt tt M.mul_holds K.mul_holds) e
value_holds Div t a b x y r i j h k e =
    let d = right_of (is_zero y) _ _ r e in
    fitting_holds Overflow t _ _ r (quotients_hold a b x y h k (not_zero y d.0)) d.1
value_holds Rem t a b x y r i j h k e =
    let d = right_of (is_zero y) _ _ r e in
    let q = left_of (is_in t (int_div x y)) _ _ r d.1 in
    moved t _ (int_rem x y) r (inside t _ (int_rem x y) (int_rem-in t x y i) (remainders_hold a b x y h k (not_zero y d.0))) q.1
value_holds Shl t a b x y r i j h k e =
    let d = left_of (is_count t y && int_le (pos 0) x) _ _ r e in
    let g = both_true (is_count t y) (int_le (pos 0) x) d.0 in
    fitting_holds Shift t _ _ r (left_shifts_hold a b x y h k t (is_le (pos 0) x g.1) g.0) d.1
value_holds Shr t a b x y r i j h k e =
    let d = left_of (is_count t y) _ _ r e in
    moved t _ (I.shift_right x y) r (inside t _ (I.shift_right x y) (int_shr-in t x (unsigned_abs y) i) (right_shifts_hold a b x y h k t d.0)) d.1
value_holds And t a b x y r i j h k e =
    let z = outcome-in And t x y (bitwise bit_and t x y) i j refl in
    moved t _ (bitwise bit_and t x y) r (inside t _ _ z (and_holds a b x y h k t i j z)) e
value_holds Or t a b x y r i j h k e =
    let z = outcome-in Or t x y (bitwise bit_or t x y) i j refl in
    moved t _ (bitwise bit_or t x y) r (inside t _ _ z (record { bits = bits_hold a b x y h k bit_or t z; spread = λ m n. or_spread t a b x y i j h k m n })) e
value_holds Xor t a b x y r i j h k e =
    let z = outcome-in Xor t x y (bitwise bit_xor t x y) i j refl in
    moved t _ (bitwise bit_xor t x y) r (inside t _ _ z (record { bits = bits_hold a b x y h k bit_xor t z; spread = λ m n. xor_spread t a b x y i j h k m n })) e
value_holds Lt t a b x y r i j h k e = record { left = x; right = y; in_left = h; in_right = k; is = e }
value_holds Le t a b x y r i j h k e = record { left = x; right = y; in_left = h; in_right = k; is = e }
value_holds Gt t a b x y r i j h k e = record { left = x; right = y; in_left = h; in_right = k; is = e }
value_holds Ge t a b x y r i j h k e = record { left = x; right = y; in_left = h; in_right = k; is = e }
value_holds Eq t a b x y r i j h k e = record { left = x; right = y; in_left = h; in_right = k; is = e }
value_holds Ne t a b x y r i j h k e = record { left = x; right = y; in_left = h; in_right = k; is = e }
