-- Where the values of an operator and of a conversion lie.
use Rattle.std.proofs.Common.{◌≡◌, ◌≢◌, ◌⊎◌, inl, inr, ℕ, zero, suc, ◌+◌, ◌-◌, ◌*◌, ◌/◌, ◌%◌, ◌^◌, ◌<◌, ℤ, pos, negsuc, ◌+ℤ◌, ◌-ℤ◌, ◌*ℤ◌, neg_ℤ, ◌≤ℤ◌, ◌&&◌, true, false, cond, arith, refl, sym, ap, ◌∙◌, subst, bit_and, bit_or, bit_xor, Result, Ok, Err}
use Rattle.std.specs.Prelude as P
use Rattle.std.proofs.lemmas.Int.{ints, quot-rem}
use Rattle.std.proofs.lemmas.Bool.{cond_both}
use Rattle.std.proofs.lemmas.Nat.{pow_pos, div-add-mod', and_le_l, or_lt, xor_lt}
use Rattle.std.proofs.lemmas.Grind.{common_steps}
use Rattle.std.specs.Int.{int_shr}
use Rattle.std.specs.Int.RustNames.{int_div, int_rem, int_le, unsigned_abs}
use Rattle.std.proofs.Math.Nat.{div-le_self, mod-le, mod-lt, lt_of_le_of_lt}
use Rattle.tm_cint.specs.IntTypes.{IsIn, is_in, is_signed, width_of, lo_of, hi_of}
use Rattle.tm_cint.specs.Conversions.{truth, is_zero, residue, value_of, wrapped, converted_value}
use Rattle.tm_numbers.specs.Congruence.{IsCongruent}
use Rattle.tm_numbers.proofs.Congruences.{congruent_by}
use Rattle.tm_cint.specs.Operators.{is_count, fitted, quotient, remainder, shifted_left, shifted_right, bitwise, outcome, result_type, IsRightOperand}
use Rattle.tm_cint.specs.declared.Class.{Class}
use Rattle.tm_cint.specs.declared.Class.TheVariants.{Overflow, Shift}
use Rattle.tm_cint.specs.declared.int_types.IntType.{IntType}
use Rattle.tm_cint.specs.declared.int_types.IntType.TheVariants.{Bool, Char, UChar, Short, UShort, Int, UInt, Long, ULong, LLong, ULLong}
use Rattle.tm_cint.specs.declared.operators.BinOp.{BinOp}
use Rattle.tm_cint.specs.declared.operators.BinOp.TheVariants.{Add, Sub, Mul, Div, Rem, Shl, Shr, And, Or, Xor, Lt, Le, Gt, Ge, Eq, Ne}
use Rattle.tm_cint.proofs.Ranges.{IsIn-from_test, is_in-true}

-- which way a choice went
pub chosen : {X : Type 0} (b : P.Bool) (x y z : X) → cond b x y ≡ z → ((b ≡ true) × (x ≡ z)) ⊎ ((b ≡ false) × (y ≡ z))
chosen true x y z e = inl (refl, e)
chosen false x y z e = inr (refl, e)

-- ---- ranges

pub zero_in : (t : IntType) → IsIn t (pos 0)
zero_in Bool = record { at_least = omega (arith, ints); at_most = omega (arith, ints) }
zero_in Char = record { at_least = omega (arith, ints); at_most = omega (arith, ints) }
zero_in UChar = record { at_least = omega (arith, ints); at_most = omega (arith, ints) }
zero_in Short = record { at_least = omega (arith, ints); at_most = omega (arith, ints) }
zero_in UShort = record { at_least = omega (arith, ints); at_most = omega (arith, ints) }
zero_in Int = record { at_least = omega (arith, ints); at_most = omega (arith, ints) }
zero_in UInt = record { at_least = omega (arith, ints); at_most = omega (arith, ints) }
zero_in Long = record { at_least = omega (arith, ints); at_most = omega (arith, ints) }
zero_in ULong = record { at_least = omega (arith, ints); at_most = omega (arith, ints) }
zero_in LLong = record { at_least = omega (arith, ints); at_most = omega (arith, ints) }
zero_in ULLong = record { at_least = omega (arith, ints); at_most = omega (arith, ints) }

-- what lies between two values of a type is one
pub IsIn-between : (t : IntType) (l v h : ℤ) → IsIn t l → IsIn t h → l ≤ℤ v → v ≤ℤ h → IsIn t v
IsIn-between t l v h p q b c = record { at_least = ≤ℤ_trans (lo_of t) l v p.at_least b; at_most = ≤ℤ_trans v h (hi_of t) c q.at_most }
  where
    ≤ℤ_trans : (x y z : ℤ) → x ≤ℤ y → y ≤ℤ z → x ≤ℤ z
    ≤ℤ_trans x y z h k = omega (arith, ints)

pub int_shr-in : (t : IntType) (a : ℤ) (n : ℕ) → IsIn t a → IsIn t (int_shr a n)
int_shr-in t (pos a) n h = IsIn-between t (pos 0) (pos (a / 2 ^ n)) (pos a) (zero_in t) h (omega (arith, ints)) (omega (arith, ints, div-le_self a (2 ^ n)))
int_shr-in t (negsuc a) n h = IsIn-between t (negsuc a) (negsuc (a / 2 ^ n)) (pos 0) h (zero_in t) (omega (arith, ints, div-le_self a (2 ^ n))) (omega (arith, ints))

pub int_rem-in : (t : IntType) (a b : ℤ) → IsIn t a → IsIn t (int_rem a b)
int_rem-in t (pos a) b h = IsIn-between t (pos 0) (pos (a % unsigned_abs b)) (pos a) (zero_in t) h (omega (arith, ints)) (omega (arith, ints, mod-le a (unsigned_abs b)))
int_rem-in t (negsuc a) b h = IsIn-between t (negsuc a) (neg_ℤ (pos (suc a % unsigned_abs b))) (pos 0) h (zero_in t) (omega (arith, ints, mod-le (suc a) (unsigned_abs b))) (omega (arith, ints))

pub truth-in : (b : P.Bool) → IsIn Int (truth b)
truth-in true = record { at_least = omega (arith, ints); at_most = omega (arith, ints) }
truth-in false = record { at_least = omega (arith, ints); at_most = omega (arith, ints) }

pub residue_lt : (n : ℕ) (v : ℤ) → residue n v < 2 ^ n
residue_lt n (pos a) = mod-lt a (pow_pos n)
residue_lt n (negsuc a) = omega (arith, pow_pos n)

pub value_of-in : (t : IntType) (r : ℕ) → r < 2 ^ width_of t → IsIn t (value_of t r)
value_of-in t r h = grind (arith, common_steps)

pub wrapped-in : (t : IntType) (v : ℤ) → IsIn t (wrapped t v)
wrapped-in t v = value_of-in t (residue (width_of t) v) (residue_lt (width_of t) v)

pub wrapped-same : (t : IntType) (v : ℤ) → IsIn t v → wrapped t v ≡ v
wrapped-same t v h = grind (arith, common_steps)

-- ---- operators

pub fitted-same : (class : Class) (t : IntType) (z : ℤ) → IsIn t z → fitted class t z ≡ Ok z
fitted-same class t z h = by_sign (is_signed t)
  where
    by_sign : (s : P.Bool) → cond s (cond (is_in t z) (Ok z) (Err class)) (Ok (wrapped t z)) ≡ Ok z
    by_sign true = ap (λ b. cond b (Ok z) (Err class)) (is_in-true t z h)
    by_sign false = ap Ok (wrapped-same t z h)

pub fitted-in : (class : Class) (t : IntType) (z r : ℤ) → fitted class t z ≡ Ok r → IsIn t r
fitted-in class t z r e = by_sign (is_signed t) e
  where
    by_test : (b : P.Bool) → is_in t z ≡ b → cond b (Ok z) (Err class) ≡ Ok r → IsIn t r
    by_test true h e = let P : ℤ → Type 0 = λ v. IsIn t v in subst P (cc) (IsIn-from_test t z h)
    by_test false h e = absurd cc

    by_sign : (s : P.Bool) → cond s (cond (is_in t z) (Ok z) (Err class)) (Ok (wrapped t z)) ≡ Ok r → IsIn t r
    by_sign true e = by_test (is_in t z) refl e
    by_sign false e = let P : ℤ → Type 0 = λ v. IsIn t v in subst P (cc) (wrapped-in t z)

-- a choice that an answer came out of, where one side is an error
pub right_of : {X Y : Type 0} (b : P.Bool) (e : Y) (y : Result X Y) (r : X) → cond b (Err e) y ≡ Ok r → (b ≡ false) × (y ≡ Ok r)
right_of true e y r h = absurd cc
right_of false e y r h = (refl, h)

pub left_of : {X Y : Type 0} (b : P.Bool) (e : Y) (y : Result X Y) (r : X) → cond b y (Err e) ≡ Ok r → (b ≡ true) × (y ≡ Ok r)
left_of true e y r h = (refl, h)
left_of false e y r h = absurd cc

abbrev ok : ℤ → Result ℤ Class
ok x = Ok x

same_ok : (x y : ℤ) → ok x ≡ ok y → x ≡ y
same_ok x y e = cc

in_along : (t : IntType) (x r : ℤ) → IsIn t x → ok x ≡ ok r → IsIn t r
in_along t x r h e = let Q : ℤ → Type 0 = λ v. IsIn t v in subst Q (same_ok x r e) h

quotient-in : (t : IntType) (a b r : ℤ) → quotient t a b ≡ Ok r → IsIn t r
quotient-in t a b r e = fitted-in Overflow t (int_div a b) r (right_of (is_zero b) _ _ r e).1

remainder-in : (t : IntType) (a b r : ℤ) → IsIn t a → remainder t a b ≡ Ok r → IsIn t r
remainder-in t a b r h e = in_along t (int_rem a b) r (int_rem-in t a b h) (left_of (is_in t (int_div a b)) _ _ r (right_of (is_zero b) _ _ r e).1).1

shifted_left-in : (t : IntType) (a b r : ℤ) → shifted_left t a b ≡ Ok r → IsIn t r
shifted_left-in t a b r e = fitted-in Shift t _ r (left_of (is_count t b && int_le (pos 0) a) _ _ r e).1

shifted_right-in : (t : IntType) (a b r : ℤ) → IsIn t a → shifted_right t a b ≡ Ok r → IsIn t r
shifted_right-in t a b r h e = in_along t _ r (int_shr-in t a (unsigned_abs b) h) (left_of (is_count t b) _ _ r e).1

bits_in : (f : ℕ → ℕ → ℕ) (t : IntType) (a b : ℤ) → ((n x y : ℕ) → x < 2 ^ n → y < 2 ^ n → f x y < 2 ^ n) → IsIn t (bitwise f t a b)
bits_in f t a b keeps = value_of-in t _ (keeps (width_of t) _ _ (residue_lt (width_of t) a) (residue_lt (width_of t) b))

pub outcome-in : (op : BinOp) (t : IntType) (a b r : ℤ) → IsIn t a → IsRightOperand op t b → outcome op t a b ≡ Ok r → IsIn (result_type op t) r
outcome-in Add t a b r h k e = fitted-in Overflow t (a +ℤ b) r e
outcome-in Sub t a b r h k e = fitted-in Overflow t (a -ℤ b) r e
outcome-in Mul t a b r h k e = fitted-in Overflow t (a *ℤ b) r e
outcome-in Div t a b r h k e = quotient-in t a b r e
outcome-in Rem t a b r h k e = remainder-in t a b r h e
outcome-in Shl t a b r h k e = shifted_left-in t a b r e
outcome-in Shr t a b r h k e = shifted_right-in t a b r h e
outcome-in And t a b r h k e = in_along t _ r (bits_in bit_and t a b (λ n x y p q. lt_of_le_of_lt (and_le_l x y) p)) e
outcome-in Or t a b r h k e = in_along t _ r (bits_in bit_or t a b or_lt) e
outcome-in Xor t a b r h k e = in_along t _ r (bits_in bit_xor t a b xor_lt) e
outcome-in Lt t a b r h k e = in_along Int _ r (truth-in _) e
outcome-in Le t a b r h k e = in_along Int _ r (truth-in _) e
outcome-in Gt t a b r h k e = in_along Int _ r (truth-in _) e
outcome-in Ge t a b r h k e = in_along Int _ r (truth-in _) e
outcome-in Eq t a b r h k e = in_along Int _ r (truth-in _) e
outcome-in Ne t a b r h k e = in_along Int _ r (truth-in _) e

pub quotient_and_remainder : (t : IntType) (a b q r : ℤ) → IsIn t a → IsIn t b → quotient t a b ≡ Ok q → remainder t a b ≡ Ok r → q *ℤ b +ℤ r ≡ a
quotient_and_remainder t a b q r h k e f =
    let rest : (is_in t (int_div a b) ≡ true) × (ok (int_rem a b) ≡ ok r) = left_of (is_in t (int_div a b)) _ _ r (right_of (is_zero b) _ _ r f).1 in
    let whole : fitted Overflow t (int_div a b) ≡ Ok q = (right_of (is_zero b) _ _ q e).1 in
    let fits = fitted-same Overflow t (int_div a b) (IsIn-from_test t (int_div a b) rest.0) in
    let is : int_div a b ≡ q = same_ok (int_div a b) q (sym fits ∙ whole) in
    let rest_is : int_rem a b ≡ r = same_ok (int_rem a b) r rest.1 in
    ap (λ x. x *ℤ b +ℤ r) (sym is) ∙ ap (λ y. int_div a b *ℤ b +ℤ y) (sym rest_is) ∙ quot-rem a b

-- ---- conversions

negative_product : (q m : ℕ) → neg_ℤ (pos q) *ℤ pos m ≡ neg_ℤ (pos (q * m))
negative_product zero m = omega (arith, ints)
negative_product (suc q) m = refl

-- a number m, its remainder r and its quotient q, at the two signs
complement_of : (a q r m : ℕ) → q * m + r ≡ a → r < m → negsuc a ≡ pos (m - 1 - r) +ℤ negsuc q *ℤ pos m
complement_of a q r m e h = omega (arith, ints)

one_less : (a q r m : ℕ) → q * m + r ≡ a → pos a ≡ pos r -ℤ pos m +ℤ pos (suc q) *ℤ pos m
one_less a q r m e = omega (arith, ints)

complement_less : (a q r m : ℕ) → q * m + r ≡ a → r < m → negsuc a ≡ pos (m - 1 - r) -ℤ pos m +ℤ neg_ℤ (pos q) *ℤ pos m
complement_less a q r m e h = rw negative_product (omega (arith, ints))

-- v is a number and some turns of 2^n
abbrev IsTurned : ℕ → ℤ → ℤ → Type 0
IsTurned n v w = (k : ℤ) × (v ≡ w +ℤ k *ℤ pos (2 ^ n))

residue_of : (n : ℕ) (v : ℤ) → IsTurned n v (pos (residue n v))
residue_of n (pos a) = (pos (a / 2 ^ n), ap pos (omega (arith, div-add-mod' a (2 ^ n))))
residue_of n (negsuc a) = (negsuc (a / 2 ^ n), complement_of a (a / 2 ^ n) (a % 2 ^ n) (2 ^ n) (div-add-mod' a (2 ^ n)) (mod-lt a (pow_pos n)))

residue_less : (n : ℕ) (v : ℤ) → IsTurned n v (pos (residue n v) -ℤ pos (2 ^ n))
residue_less n (pos a) = (pos (suc (a / 2 ^ n)), one_less a (a / 2 ^ n) (a % 2 ^ n) (2 ^ n) (div-add-mod' a (2 ^ n)))
residue_less n (negsuc a) = (neg_ℤ (pos (a / 2 ^ n)), complement_less a (a / 2 ^ n) (a % 2 ^ n) (2 ^ n) (div-add-mod' a (2 ^ n)) (mod-lt a (pow_pos n)))

pub wrapped-turned : (t : IntType) (v : ℤ) → (k : ℤ) × (v ≡ wrapped t v +ℤ k *ℤ pos (2 ^ width_of t))
wrapped-turned t v =
    let Q : ℤ → Type 0 = λ z. IsTurned (width_of t) v z in
    cond_both (int_le (pos (residue (width_of t) v)) (hi_of t)) _ _ Q (λ h. residue_of (width_of t) v) (λ h. residue_less (width_of t) v)

pub converted_value-turned : (v : ℤ) (t : IntType) → t ≢ Bool → (k : ℤ) × (v ≡ converted_value v t +ℤ k *ℤ pos (2 ^ width_of t))
converted_value-turned v Bool n = absurd (n refl)
converted_value-turned v Char n = wrapped-turned Char v
converted_value-turned v UChar n = wrapped-turned UChar v
converted_value-turned v Short n = wrapped-turned Short v
converted_value-turned v UShort n = wrapped-turned UShort v
converted_value-turned v Int n = wrapped-turned Int v
converted_value-turned v UInt n = wrapped-turned UInt v
converted_value-turned v Long n = wrapped-turned Long v
converted_value-turned v ULong n = wrapped-turned ULong v
converted_value-turned v LLong n = wrapped-turned LLong v
converted_value-turned v ULLong n = wrapped-turned ULLong v

pub converted_value-congruent : (v : ℤ) (t : IntType) → t ≢ Bool → IsCongruent (2 ^ width_of t) v (converted_value v t)
converted_value-congruent v t n = let k = converted_value-turned v t n in congruent_by _ _ _ k.0 k.1

-- a value of the left operand's type may stand at the right of every operator
pub IsIn-right_operand : (op : BinOp) (t : IntType) (b : ℤ) → IsIn t b → IsRightOperand op t b
IsIn-right_operand Add t b h = h
IsIn-right_operand Sub t b h = h
IsIn-right_operand Mul t b h = h
IsIn-right_operand Div t b h = h
IsIn-right_operand Rem t b h = h
IsIn-right_operand Shl t b h = tt
IsIn-right_operand Shr t b h = tt
IsIn-right_operand And t b h = h
IsIn-right_operand Or t b h = h
IsIn-right_operand Xor t b h = h
IsIn-right_operand Lt t b h = h
IsIn-right_operand Le t b h = h
IsIn-right_operand Gt t b h = h
IsIn-right_operand Ge t b h = h
IsIn-right_operand Eq t b h = h
IsIn-right_operand Ne t b h = h
