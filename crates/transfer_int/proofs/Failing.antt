-- Every error on members is among the classes.
use Rattle.std.proofs.Common.{◌≡◌, ◌⊎◌, inl, inr, ⊎_elim, ℕ, zero, suc, ◌/◌, ℤ, pos, negsuc, neg_ℤ, ◌+ℤ◌, ◌-ℤ◌, ◌*ℤ◌, ◌≤ℤ◌, Result, Ok, Err, true, false, cond, ◌&&◌, refl, sym, ◌∙◌, subst, arith}
use Rattle.std.specs.Prelude as P
use Rattle.std.specs.Prelude.{int_div, int_rem, int_le, ◌<ℤ◌}
use Rattle.std.proofs.lemmas.Int.{ints}
use Rattle.std.proofs.Math.Nat.{div-le_self}
use Rattle.strided_dom.specs.Progression.{Progression, Has}
use Rattle.tm_numbers.specs.Operands.{AnyNumbers}
use Rattle.interval_dom.specs.Rows as I
use Rattle.interval_dom.proofs.Sums as S
use Rattle.interval_dom.proofs.Products as M
use Rattle.interval_dom.proofs.Quotients.{div_anti}
use Rattle.interval_dom.proofs.Guarded.{both_true, is_le}
use Rattle.congruence_dom.specs.Rows as C
use Rattle.congruence_dom.proofs.Congruences as K
use Rattle.transfer_int.specs.Rows.{InRows}
use Rattle.transfer_int.specs.Values.{is_fitted, is_division, MayFail, HasBadCount, ShiftsNegative}
use Rattle.transfer_int.proofs.Holding.{pair_holds, quotients_hold, left_shifts_hold, not_zero}
use Rattle.tm_cint.specs.IntTypes.{IsIn, is_in, is_signed, lo_of, hi_of}
use Rattle.tm_cint.specs.Conversions.{is_zero, wrapped}
use Rattle.tm_cint.specs.Operators.{outcome, fitted, is_count, IsRightOperand}
use Rattle.tm_cint.specs.declared.Class.{Class}
use Rattle.tm_cint.specs.declared.Class.TheVariants.{Overflow, Shift, Div as DivByZero}
use Rattle.tm_cint.specs.declared.int_types.IntType.{IntType}
use Rattle.tm_cint.specs.declared.int_types.IntType.TheVariants.{Bool, Char, UChar, Short, UShort, Int, UInt, Long, ULong, LLong, ULLong}
use Rattle.tm_cint.specs.declared.operators.BinOp.{BinOp}
use Rattle.tm_cint.specs.declared.operators.BinOp.TheVariants.{Add, Sub, Mul, Div, Rem, Shl, Shr, And, Or, Xor, Lt, Le, Gt, Ge, Eq, Ne}
use Rattle.tm_cint.proofs.Values.{zero_in, IsIn-between}
use Rattle.tm_cint.proofs.Ranges.{is_in-true}

-- ---- which error a choice gives

abbrev error : Class → Result ℤ Class
error k = Err k

abbrev ok : ℤ → Result ℤ Class
ok z = Ok z

no_error : {X : Type 0} (z : ℤ) (k : Class) → ok z ≡ error k → X
no_error z k e = absurd cc

from_right : (b : P.Bool) (k class : Class) (w : Result ℤ Class) → cond b (Err k) w ≡ error class → ((b ≡ true) × (class ≡ k)) ⊎ ((b ≡ false) × (w ≡ Err class))
from_right true k class w e = inl (refl, cc)
from_right false k class w e = inr (refl, e)

from_left : (b : P.Bool) (k class : Class) (w : Result ℤ Class) → cond b w (Err k) ≡ error class → ((b ≡ true) × (w ≡ Err class)) ⊎ ((b ≡ false) × (class ≡ k))
from_left true k class w e = inl (refl, e)
from_left false k class w e = inr (refl, cc)

outside : (t : IntType) (z : ℤ) → is_in t z ≡ false → IsIn t z → ⊥
outside t z e h = let f = sym (is_in-true t z h) ∙ e in absurd cc

fitted_error : (k : Class) (t : IntType) (z : ℤ) (class : Class) → fitted k t z ≡ Err class → (class ≡ k) × ((is_signed t ≡ true) × (IsIn t z → ⊥))
fitted_error k t z class e = by_sign (is_signed t) refl e
  where
    by_test : (b : P.Bool) → is_in t z ≡ b → cond b (Ok z) (Err k) ≡ error class → (class ≡ k) × (IsIn t z → ⊥)
    by_test true h e = no_error z class e
    by_test false h e = (cc, outside t z h)

    by_sign : (s : P.Bool) → is_signed t ≡ s → cond s (cond (is_in t z) (Ok z) (Err k)) (Ok (wrapped t z)) ≡ error class → (class ≡ k) × ((is_signed t ≡ true) × (IsIn t z → ⊥))
    by_sign true h e = let r = by_test (is_in t z) refl e in (r.0, (h, r.1))
    by_sign false h e = no_error (wrapped t z) class e

is_zero-equal : (y : ℤ) → is_zero y ≡ true → y ≡ pos 0
is_zero-equal (pos zero) e = refl
is_zero-equal (pos (suc n)) e = absurd cc
is_zero-equal (negsuc n) e = absurd cc

and_false : (p q : P.Bool) → (p && q) ≡ false → (p ≡ false) ⊎ (q ≡ false)
and_false true q e = inr e
and_false false q e = inl refl

-- ---- the least value by -1

-- a type with a negative value is signed, and has one more of them than of positive ones
signed_ends : (t : IntType) (d : ℕ) → lo_of t ≤ℤ negsuc d → (is_signed t ≡ true) × ((lo_of t ≡ negsuc 0 -ℤ hi_of t) × (pos 1 ≤ℤ hi_of t))
signed_ends Bool d h = absurd (omega (arith, ints, h))
signed_ends Char d h = (refl, (refl, omega (arith, ints)))
signed_ends UChar d h = absurd (omega (arith, ints, h))
signed_ends Short d h = (refl, (refl, omega (arith, ints)))
signed_ends UShort d h = absurd (omega (arith, ints, h))
signed_ends Int d h = (refl, (refl, omega (arith, ints)))
signed_ends UInt d h = absurd (omega (arith, ints, h))
signed_ends Long d h = (refl, (refl, omega (arith, ints)))
signed_ends ULong d h = absurd (omega (arith, ints, h))
signed_ends LLong d h = (refl, (refl, omega (arith, ints)))
signed_ends ULLong d h = absurd (omega (arith, ints, h))

abbrev IsLeastByMinusOne : IntType → ℤ → ℤ → Type 0
IsLeastByMinusOne t x y = (is_signed t ≡ true) × ((x ≡ lo_of t) × (y ≡ negsuc 0))

least_alone : (t : IntType) (x y : ℤ) → IsIn t x → IsIn t y → (IsIn t (int_div x y) → ⊥) → IsLeastByMinusOne t x y
least_alone t (pos a) (pos b) h k n =
    absurd (n (IsIn-between t (pos 0) (pos (a / b)) (pos a) (zero_in t) h (omega (arith, ints)) (omega (arith, ints, div-le_self a b))))
least_alone t (negsuc a) (pos b) h k n =
    absurd (n (IsIn-between t (negsuc a) (neg_ℤ (pos (suc a / b))) (pos 0) h (zero_in t) (omega (arith, ints, div-le_self (suc a) b)) (omega (arith, ints))))
least_alone t (pos a) (negsuc d) h k n =
    let s = signed_ends t d k.at_least in
    absurd (n (record { at_least = omega (arith, ints, div-le_self a (suc d), s.1.0, h.at_most); at_most = omega (arith, ints, s.1.1) }))
least_alone t (negsuc a) (negsuc zero) h k n =
    let s = signed_ends t 0 k.at_least in
    (s.0, (by_order (suc a) (lo_of t) (hi_of t) s.1.0 h.at_least (λ l. n (record { at_least = omega (arith, ints, s.1.0, s.1.1); at_most = l })), refl))
  where
    by_order : (m : ℕ) (l u : ℤ) → l ≡ negsuc 0 -ℤ u → l ≤ℤ neg_ℤ (pos m) → (pos (m / 1) ≤ℤ u → ⊥) → neg_ℤ (pos m) ≡ l
    by_order m l u e h n = by_test (int_le (pos m) u) refl
      where
        by_test : (p : P.Bool) → int_le (pos m) u ≡ p → neg_ℤ (pos m) ≡ l
        by_test true f = absurd (n (omega (arith, ints, f)))
        by_test false f = omega (arith, ints, f, e, h)
least_alone t (negsuc a) (negsuc (suc e)) h k n =
    let s = signed_ends t (suc e) k.at_least in
    let q = div_anti (suc a) 2 (suc (suc e)) (omega arith) (omega arith) in
    absurd (n (record { at_least = omega (arith, ints, s.1.0, s.1.1); at_most = omega (arith, ints, q, s.1.0, s.1.1, h.at_least) }))

-- ---- classes

module _ (t : IntType) (a b : Progression) (x y : ℤ) (i : IsIn t x) (h : Has a x) (k : Has b y) where
  fitted_fails : (op : BinOp) (z : ℤ) (class : Class) → (is_fitted op ≡ true) → InRows op t a b z → fitted Overflow t z ≡ Err class → MayFail op t a b class
  fitted_fails op z class f r e =
      let g = fitted_error Overflow t z class e in
      subst (λ c. MayFail op t a b c) (sym g.0) (inl (f, record { signed = g.1.0; number = z; in_rows = r; outside = g.1.1 }))

  zero_fails : (op : BinOp) (class : Class) → is_division op ≡ true → is_zero y ≡ true → class ≡ DivByZero → MayFail op t a b class
  zero_fails op class f z e =
      subst (λ c. MayFail op t a b c) (sym e) (f, record { dividend = x; in_left = h; zero_divisor = subst (λ w. Has b w) (is_zero-equal y z) k })

  bad_count : is_count t y ≡ false → HasBadCount t a b
  bad_count e = record { left = x; right = y; in_left = h; in_right = k; bad = e }

  negative : (z : ℤ) → lo_of t ≤ℤ z → int_le (pos 0) z ≡ false → (is_signed t ≡ true) × (z <ℤ pos 0)
  negative (pos n) l e = absurd (omega (arith, ints, e))
  negative (negsuc n) l e = ((signed_ends t n l).0, omega (arith, ints))

  shifts_negative : int_le (pos 0) x ≡ false → ShiftsNegative t a b
  shifts_negative e = let s = negative x i.at_least e in record { signed = s.0; left = x; right = y; in_left = h; in_right = k; negative = s.1 }

  div_fails : (class : Class) → outcome Div t x y ≡ Err class → MayFail Div t a b class
  div_fails class e = by_test (from_right (is_zero y) DivByZero class (fitted Overflow t (int_div x y)) e)
    where
      by_test : ((is_zero y ≡ true) × (class ≡ DivByZero)) ⊎ ((is_zero y ≡ false) × (fitted Overflow t (int_div x y) ≡ Err class)) → MayFail Div t a b class
      by_test (inl p) = zero_fails Div class refl p.0 p.1
      by_test (inr p) = fitted_fails Div (int_div x y) class refl (quotients_hold a b x y h k (not_zero y p.0)) p.1

  rem_fails : (class : Class) → IsIn t y → outcome Rem t x y ≡ Err class → MayFail Rem t a b class
  rem_fails class j e = by_test (from_right (is_zero y) DivByZero class _ e)
    where
      least : class ≡ Overflow → IsLeastByMinusOne t x y → MayFail Rem t a b class
      least e s =
          subst (λ c. MayFail Rem t a b c) (sym e)
          (inr (refl, record { signed = s.0; least = subst (λ w. Has a w) s.1.0 h; minus_one = subst (λ w. Has b w) s.1.1 k }))

      by_range : ((is_in t (int_div x y) ≡ true) × (ok (int_rem x y) ≡ Err class)) ⊎ ((is_in t (int_div x y) ≡ false) × (class ≡ Overflow)) → MayFail Rem t a b class
      by_range (inl p) = no_error (int_rem x y) class p.1
      by_range (inr p) = least p.1 (least_alone t x y i j (outside t (int_div x y) p.0))

      by_test : ((is_zero y ≡ true) × (class ≡ DivByZero)) ⊎ ((is_zero y ≡ false) × (cond (is_in t (int_div x y)) (ok (int_rem x y)) (Err Overflow) ≡ Err class)) → MayFail Rem t a b class
      by_test (inl p) = zero_fails Rem class refl p.0 p.1
      by_test (inr p) = by_range (from_left (is_in t (int_div x y)) Overflow class (ok (int_rem x y)) p.1)

  shl_fails : (class : Class) → outcome Shl t x y ≡ Err class → MayFail Shl t a b class
  shl_fails class e = by_test (from_left (is_count t y && int_le (pos 0) x) Shift class (fitted Shift t (I.shift_left x y)) e)
    where
      by_test : (((is_count t y && int_le (pos 0) x) ≡ true) × (fitted Shift t (I.shift_left x y) ≡ Err class)) ⊎ (((is_count t y && int_le (pos 0) x) ≡ false) × (class ≡ Shift)) → MayFail Shl t a b class
      by_test (inl p) =
          let g = both_true (is_count t y) (int_le (pos 0) x) p.0 in
          let f = fitted_error Shift t (I.shift_left x y) class p.1 in
          let r = left_shifts_hold a b x y h k t (is_le (pos 0) x g.1) g.0 in
          subst (λ c. MayFail Shl t a b c) (sym f.0)
          (refl, inr (refl, inr (record { signed = f.1.0; number = I.shift_left x y; in_rows = r; outside = f.1.1 })))
      by_test (inr p) =
          subst (λ c. MayFail Shl t a b c) (sym p.1)
          (refl, ⊎_elim (λ q. inl (bad_count q)) (λ q. inr (refl, inl (shifts_negative q))) (and_false (is_count t y) (int_le (pos 0) x) p.0))

  shr_fails : (class : Class) → outcome Shr t x y ≡ Err class → MayFail Shr t a b class
  shr_fails class e = by_test (from_left (is_count t y) Shift class (ok (I.shift_right x y)) e)
    where
      by_test : ((is_count t y ≡ true) × (ok (I.shift_right x y) ≡ Err class)) ⊎ ((is_count t y ≡ false) × (class ≡ Shift)) → MayFail Shr t a b class
      by_test (inl p) = no_error (I.shift_right x y) class p.1
      by_test (inr p) = subst (λ c. MayFail Shr t a b c) (sym p.1) (refl, inl (bad_count p.0))

pub error_holds : (op : BinOp) (t : IntType) (a b : Progression) (x y : ℤ) (class : Class) → IsIn t x → IsRightOperand op t y → Has a x → Has b y → outcome op t x y ≡ Err class → MayFail op t a b class
error_holds Add t a b x y class i j h k e = fitted_fails t a b x y i h k Add (x +ℤ y) class refl (pair_holds a b x y h k AnyNumbers AnyNumbers I.add_row C.add_row ◌+ℤ◌ tt tt S.add_holds K.add_holds) e
error_holds Sub t a b x y class i j h k e = fitted_fails t a b x y i h k Sub (x -ℤ y) class refl (pair_holds a b x y h k AnyNumbers AnyNumbers I.sub_row C.sub_row ◌-ℤ◌ tt tt S.sub_holds K.sub_holds) e
error_holds Mul t a b x y class i j h k e = fitted_fails t a b x y i h k Mul (x *ℤ y) class refl (pair_holds a b x y h k AnyNumbers AnyNumbers I.mul_row C.mul_row ◌*ℤ◌ tt tt M.mul_holds K.mul_holds) e
error_holds Div t a b x y class i j h k e = div_fails t a b x y i h k class e
error_holds Rem t a b x y class i j h k e = rem_fails t a b x y i h k class j e
error_holds Shl t a b x y class i j h k e = shl_fails t a b x y i h k class e
error_holds Shr t a b x y class i j h k e = shr_fails t a b x y i h k class e
error_holds And t a b x y class i j h k e = no_error _ class e
error_holds Or t a b x y class i j h k e = no_error _ class e
error_holds Xor t a b x y class i j h k e = no_error _ class e
error_holds Lt t a b x y class i j h k e = no_error _ class e
error_holds Le t a b x y class i j h k e = no_error _ class e
error_holds Gt t a b x y class i j h k e = no_error _ class e
error_holds Ge t a b x y class i j h k e = no_error _ class e
error_holds Eq t a b x y class i j h k e = no_error _ class e
error_holds Ne t a b x y class i j h k e = no_error _ class e
