-- The rows of two sets of values of a type: how far they reach, and what they hold.
use Rattle.std.proofs.Common.{◌≡◌, ◌^◌, ◌*◌, ◌≤◌, suc, ℤ, pos, negsuc, neg_ℤ, ◌+ℤ◌, ◌-ℤ◌, ◌*ℤ◌, ◌≤ℤ◌, ◌<ℤ◌, true, false, refl, sym, ap, ◌∙◌, subst, arith, mul-le-mul}
use Rattle.std.specs.Prelude as P
use Rattle.std.specs.Prelude.{IsTrue}
use Rattle.std.proofs.lemmas.Int.{ints}
use Rattle.strided_dom.specs.Progression.{Progression, empty, single, Has, IsExactly, first_of, last_of, stride_of}
use Rattle.strided_dom.proofs.Members.{IsSome, has_last, has_next}
use Rattle.interval_dom.specs.Interval.{Span, InInterval, span_of}
use Rattle.interval_dom.specs.Interval as I
use Rattle.interval_dom.specs.Rows as IR
use Rattle.interval_dom.specs.declared.intervals.Interval.{Interval}
use Rattle.interval_dom.proofs.Corners.{spanned_within, span_from}
use Rattle.congruence_dom.specs.Class.{InClass}
use Rattle.congruence_dom.specs.Class as C
use Rattle.congruence_dom.specs.declared.classes.Cong.{Cong}
use Rattle.tm_cint.specs.IntTypes.{IsIn, is_signed, lo_of, hi_of}
use Rattle.tm_cint.specs.declared.int_types.IntType.{IntType}
use Rattle.tm_cint.specs.declared.int_types.IntType.TheVariants.{Bool, Char, UChar, Short, UShort, Int, UInt, Long, ULong, LLong, ULLong}
use Rattle.tm_cint.specs.declared.operators.BinOp.{BinOp}
use Rattle.transfer_int.specs.reading.Fittings.{IsMember, AreRows, HasOutside}
use Rattle.transfer_int.specs.Operands.{AreValues, span_of_set, class_of_set}
use Rattle.transfer_int.specs.Rows.{InRowPair, InRows}
use Rattle.transfer_int.specs.Values.{IsFitted, Leaves, ones_of}
use Rattle.transfer_int.proofs.Placing.{ends_of}
use Rattle.transfer_int.proofs.Inside.{none_in}
use Rattle.transfer_int.proofs.Fitted.{refitted, leaves_from, outside_from}

-- ---- a set without members

pub no_left : (span : Span → Span → Span) (class : Cong → Cong → Cong) (a b : Progression) → a ≡ empty → (v : ℤ) → InRowPair span class a b v → ⊥
no_left span class a b e v h = none_in a (first_of a) e h.left

pub no_right : (span : Span → Span → Span) (class : Cong → Cong → Cong) (a b : Progression) → b ≡ empty → (v : ℤ) → InRowPair span class a b v → ⊥
no_right span class a b e v h = none_in b (first_of b) e h.right

pub none_fitted : (t : IntType) (R : ℤ → Type 0) (s : Progression) → ((v : ℤ) → R v → ⊥) → s ≡ empty → IsExactly (IsFitted t R) s
none_fitted t R s n e = record {
  sound = λ v p. absurd (none_in s v e p);
  complete = λ v p. by_sign v p (is_signed t) refl;
}
  where
    by_sign : (v : ℤ) → IsFitted t R v → (b : P.Bool) → is_signed t ≡ b → Has s v
    by_sign v p true e = absurd (n v (p.met e).0)
    by_sign v p false e = (let w = p.wrapped e in absurd (n w.some w.in_rows))

pub none_leaves : (op : BinOp) (t : IntType) (a b : Progression) → ((v : ℤ) → InRows op t a b v → ⊥) → Leaves op t a b → ⊥
none_leaves op t a b n h = n h.number h.in_rows

-- ---- operands

-- a type is below 2^64 long, and a signed one ends below 2^63
pub length_of : (t : IntType) → (hi_of t -ℤ lo_of t) <ℤ pos (2 ^ 64)
length_of Bool = omega (arith, ints)
length_of Char = omega (arith, ints)
length_of UChar = omega (arith, ints)
length_of Short = omega (arith, ints)
length_of UShort = omega (arith, ints)
length_of Int = omega (arith, ints)
length_of UInt = omega (arith, ints)
length_of Long = omega (arith, ints)
length_of ULong = omega (arith, ints)
length_of LLong = omega (arith, ints)
length_of ULLong = omega (arith, ints)

pub signed_end : (t : IntType) → is_signed t ≡ true → hi_of t <ℤ pos (2 ^ 63)
signed_end Bool e = absurd cc
signed_end Char e = omega (arith, ints)
signed_end UChar e = absurd cc
signed_end Short e = omega (arith, ints)
signed_end UShort e = absurd cc
signed_end Int e = omega (arith, ints)
signed_end UInt e = absurd cc
signed_end Long e = omega (arith, ints)
signed_end ULong e = absurd cc
signed_end LLong e = omega (arith, ints)
signed_end ULLong e = absurd cc

pub unsigned_start : (t : IntType) → is_signed t ≡ false → lo_of t ≡ pos 0
unsigned_start Bool e = refl
unsigned_start Char e = absurd cc
unsigned_start UChar e = refl
unsigned_start Short e = absurd cc
unsigned_start UShort e = refl
unsigned_start Int e = absurd cc
unsigned_start UInt e = refl
unsigned_start Long e = absurd cc
unsigned_start ULong e = refl
unsigned_start LLong e = absurd cc
unsigned_start ULLong e = refl

module _ (t : IntType) (a : Progression) (values : AreValues t a) (some : IsSome a) where
  first_in : IsIn t (first_of a)
  first_in = values.all (first_of a) some

  last_in : IsIn t (last_of a)
  last_in = values.all (last_of a) (has_last a some)

  next_in : IsIn t (first_of a +ℤ pos (stride_of a))
  next_in = values.all (first_of a +ℤ pos (stride_of a)) (has_next a some)

  lo_is : (i : Interval) → span_of i ≡ span_of_set a → i.lo ≡ first_of a
  lo_is i e = ap (λ (s : Span). s.lo) e

  hi_is : (i : Interval) → span_of i ≡ span_of_set a → i.hi ≡ last_of a
  hi_is i e = ap (λ (s : Span). s.hi) e

  residue_is : (k : Cong) → k ≡ class_of_set a → k.residue ≡ first_of a
  residue_is k e = ap (λ (c : Cong). c.residue) e

  modulus_is : (k : Cong) → k ≡ class_of_set a → k.modulus ≡ pos (stride_of a)
  modulus_is k e = ap (λ (c : Cong). c.modulus) e

  pub type_span : (i : Interval) → span_of i ≡ span_of_set a → I.HasTypeValues i
  type_span i e = record { low = omega (arith, ints, lo_is i e, first_in.at_least, ends_of t); high = omega (arith, ints, hi_is i e, last_in.at_most, ends_of t) }

  pub type_class : (k : Cong) → k ≡ class_of_set a → C.IsTypeClass k
  type_class k e = record {
    low = omega (arith, ints, residue_is k e, first_in.at_least, ends_of t);
    high = omega (arith, ints, residue_is k e, first_in.at_most, ends_of t);
    modulus_low = omega (arith, ints, modulus_is k e);
    modulus_high = omega (arith, ints, modulus_is k e, next_in.at_most, first_in.at_least, length_of t);
  }

  pub signed_span : is_signed t ≡ true → (i : Interval) → span_of i ≡ span_of_set a → I.HasSignedValues i
  signed_span s i e = record { low = omega (arith, ints, lo_is i e, first_in.at_least, ends_of t); high = omega (arith, ints, hi_is i e, last_in.at_most, signed_end t s) }

  pub signed_class : is_signed t ≡ true → (k : Cong) → k ≡ class_of_set a → C.IsSignedClass k
  signed_class s k e = record {
    low = omega (arith, ints, residue_is k e, first_in.at_least, ends_of t);
    high = omega (arith, ints, residue_is k e, modulus_is k e, next_in.at_most, signed_end t s);
    modulus_low = omega (arith, ints, modulus_is k e);
  }

  pub unsigned_span : is_signed t ≡ false → (i : Interval) → span_of i ≡ span_of_set a → I.HasUnsignedValues i
  unsigned_span s i e = record { low = omega (arith, ints, lo_is i e, first_in.at_least, unsigned_start t s); high = omega (arith, ints, hi_is i e, last_in.at_most, ends_of t) }

  pub unsigned_class : is_signed t ≡ false → (k : Cong) → k ≡ class_of_set a → C.IsUnsignedClass k
  unsigned_class s k e = record {
    low = omega (arith, ints, residue_is k e, first_in.at_least, unsigned_start t s);
    high = omega (arith, ints, residue_is k e, first_in.at_most, ends_of t);
    modulus_low = omega (arith, ints, modulus_is k e);
    modulus_high = omega (arith, ints, modulus_is k e, next_in.at_most, first_in.at_least, length_of t);
  }

-- ---- how long the interval rows are

pub narrow_sum : (p q i : Interval) → I.HasTypeValues p → I.HasTypeValues q → span_of i ≡ IR.add_row (span_of p) (span_of q) → (i.hi -ℤ i.lo) <ℤ pos (2 ^ 127)
narrow_sum p q i h k e =
    let lo : i.lo ≡ p.lo +ℤ q.lo = ap (λ (s : Span). s.lo) e in
    let hi : i.hi ≡ p.hi +ℤ q.hi = ap (λ (s : Span). s.hi) e in
    omega (arith, ints, lo, hi, h.low, h.high, k.low, k.high)

pub narrow_difference : (p q i : Interval) → I.HasTypeValues p → I.HasTypeValues q → span_of i ≡ IR.sub_row (span_of p) (span_of q) → (i.hi -ℤ i.lo) <ℤ pos (2 ^ 127)
narrow_difference p q i h k e =
    let lo : i.lo ≡ p.lo -ℤ q.hi = ap (λ (s : Span). s.lo) e in
    let hi : i.hi ≡ p.hi -ℤ q.lo = ap (λ (s : Span). s.hi) e in
    omega (arith, ints, lo, hi, h.low, h.high, k.low, k.high)

-- all products of values of a signed type
abbrev products_span : Span
products_span = span_from (negsuc 85070591730234615865843651857942052862) (pos (2 ^ 126))

product_within : (x y : ℤ) → neg_ℤ (pos (2 ^ 63)) ≤ℤ x → x <ℤ pos (2 ^ 63) → neg_ℤ (pos (2 ^ 63)) ≤ℤ y → y <ℤ pos (2 ^ 63) → InInterval products_span (x *ℤ y)
product_within (pos m) (pos n) a b c d =
    let left : m ≤ 9223372036854775807 = omega (arith, ints, b) in
    let right : n ≤ 9223372036854775807 = omega (arith, ints, d) in
    let le : m * n ≤ 9223372036854775807 * 9223372036854775807 = mul-le-mul left right in
    record { low = omega (arith, ints); high = omega (arith, ints, le) }
product_within (pos m) (negsuc n) a b c d =
    let left : m ≤ 9223372036854775807 = omega (arith, ints, b) in
    let right : suc n ≤ 9223372036854775808 = omega (arith, ints, c) in
    let le : m * suc n ≤ 9223372036854775807 * 9223372036854775808 = mul-le-mul left right in
    record { low = omega (arith, ints, le); high = omega (arith, ints) }
product_within (negsuc m) (pos n) a b c d =
    let left : suc m ≤ 9223372036854775808 = omega (arith, ints, a) in
    let right : n ≤ 9223372036854775807 = omega (arith, ints, d) in
    let le : suc m * n ≤ 9223372036854775808 * 9223372036854775807 = mul-le-mul left right in
    record { low = omega (arith, ints, le); high = omega (arith, ints) }
product_within (negsuc m) (negsuc n) a b c d =
    let left : suc m ≤ 9223372036854775808 = omega (arith, ints, a) in
    let right : suc n ≤ 9223372036854775808 = omega (arith, ints, c) in
    let le : suc m * suc n ≤ 9223372036854775808 * 9223372036854775808 = mul-le-mul left right in
    record { low = omega (arith, ints); high = omega (arith, ints, le) }

pub narrow_product : (p q i : Interval) → p.lo ≤ℤ p.hi → q.lo ≤ℤ q.hi → I.HasSignedValues p → I.HasSignedValues q → span_of i ≡ IR.mul_row (span_of p) (span_of q)
    → (i.hi -ℤ i.lo) <ℤ pos (2 ^ 127)
narrow_product p q i o r h k e =
    let w = spanned_within (p.lo *ℤ q.lo) (p.lo *ℤ q.hi) (p.hi *ℤ q.lo) (p.hi *ℤ q.hi) products_span
    (product_within p.lo q.lo h.low (omega (arith, ints, o, h.high)) k.low (omega (arith, ints, r, k.high)))
    (product_within p.lo q.hi h.low (omega (arith, ints, o, h.high)) (omega (arith, ints, r, k.low)) k.high)
    (product_within p.hi q.lo (omega (arith, ints, o, h.low)) h.high k.low (omega (arith, ints, r, k.high)))
    (product_within p.hi q.hi (omega (arith, ints, o, h.low)) h.high (omega (arith, ints, r, k.low)) k.high) in
    let w' = subst (λ s. I.IsWithin s products_span) (sym e) w in
    omega (arith, ints, w'.low, w'.high)

-- ---- the rows of two sets

pub same_row : {X : Type 0} (row : X → X → X) (p q r p' q' : X) → p ≡ p' → q ≡ q' → r ≡ row p q → r ≡ row p' q'
same_row row p q r p' q' e f g = g ∙ ap (λ x. row x q) e ∙ ap (λ x. row p' x) f

pub row_pair : (span : Span → Span → Span) (class : Cong → Cong → Cong) (a b : Progression) (p q i : Interval) (k l j : Cong) → IsSome a → IsSome b
    → span_of p ≡ span_of_set a → span_of q ≡ span_of_set b → span_of i ≡ span (span_of p) (span_of q)
    → k ≡ class_of_set a → l ≡ class_of_set b → j ≡ class k l → (i.hi -ℤ i.lo) <ℤ pos (2 ^ 127) → AreRows (InRowPair span class a b) i j
row_pair span class a b p q i k l j some some' e f g e' f' g' n =
    let s = same_row span (span_of p) (span_of q) (span_of i) (span_of_set a) (span_of_set b) e f g in
    let c = same_row class k l j (class_of_set a) (class_of_set b) e' f' g' in
    record {
      narrow = n;
      sound = λ v h. record { left = some; right = some'; in_span = subst (λ x. InInterval x v) s h.in_span; in_class = subst (λ x. InClass x v) c h.in_class };
      complete = λ v h. record { in_span = subst (λ x. InInterval x v) (sym s) h.in_span; in_class = subst (λ x. InClass x v) (sym c) h.in_class };
    }

-- ---- what the rows of an operator give

pub fitted_rows : (t : IntType) (R : ℤ → Type 0) (span : Interval) (class : Cong) (s : Progression) → AreRows R span class
    → IsExactly (IsFitted t (IsMember (span_of span) class)) s → IsExactly (IsFitted t R) s
fitted_rows t R span class s h exact = refitted t (IsMember (span_of span) class) R s h.sound h.complete exact

pub leaving_rows : (op : BinOp) (t : IntType) (a b : Progression) (span : Interval) (class : Cong) (r : P.Bool) → is_signed t ≡ true → AreRows (InRows op t a b) span class
    → ((r ≡ true → HasOutside t (IsMember (span_of span) class)) × (HasOutside t (IsMember (span_of span) class) → r ≡ true))
    → (IsTrue r → Leaves op t a b) × (Leaves op t a b → IsTrue r)
leaving_rows op t a b span class r s h o = (
  λ e. leaves_from op t a b (IsMember (span_of span) class) h.sound s (o.0 e),
  λ l. o.1 (outside_from op t a b (IsMember (span_of span) class) h.complete l),
)

-- ---- one value as an operand

pub one_value : (t : IntType) (x : ℤ) (s : Progression) → IsIn t x → s ≡ single x → AreValues t s
unfolding Has
one_value t x s h e = record { all = λ v p. (let q : v ≡ x = subst (λ z. Has z v) e p in subst (λ z. IsIn t z) (sym q) h) }

pub ones_in : (t : IntType) → IsIn t (ones_of t)
ones_in Bool = record { at_least = omega (arith, ints); at_most = omega (arith, ints) }
ones_in Char = record { at_least = omega (arith, ints); at_most = omega (arith, ints) }
ones_in UChar = record { at_least = omega (arith, ints); at_most = omega (arith, ints) }
ones_in Short = record { at_least = omega (arith, ints); at_most = omega (arith, ints) }
ones_in UShort = record { at_least = omega (arith, ints); at_most = omega (arith, ints) }
ones_in Int = record { at_least = omega (arith, ints); at_most = omega (arith, ints) }
ones_in UInt = record { at_least = omega (arith, ints); at_most = omega (arith, ints) }
ones_in Long = record { at_least = omega (arith, ints); at_most = omega (arith, ints) }
ones_in ULong = record { at_least = omega (arith, ints); at_most = omega (arith, ints) }
ones_in LLong = record { at_least = omega (arith, ints); at_most = omega (arith, ints) }
ones_in ULLong = record { at_least = omega (arith, ints); at_most = omega (arith, ints) }
