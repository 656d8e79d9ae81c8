-- R: for each operator the integers that lie in all of its rows whose guards hold.
use Rattle.std.specs.Prelude.{◌≡◌, ◌≢◌, ℕ, ◌<◌, ◌≤◌, ℤ, pos, ◌-ℤ◌, ◌*ℤ◌, ◌≤ℤ◌, unsigned_abs, int_div, bit_and, bit_or}
use Rattle.std.specs.Prelude.{bit_xor}
use Rattle.std.specs.Int.{int_max}
use Rattle.strided_dom.specs.Progression.{Progression, single, Has, first_of, last_of}
use Rattle.interval_dom.specs.Interval.{Span, InInterval}
use Rattle.interval_dom.specs.Rows as I
use Rattle.tm_numbers.specs.Powers.{power}
use Rattle.congruence_dom.specs.Class.{InClass}
use Rattle.tm_numbers.specs.Divisors.{Divides}
use Rattle.congruence_dom.specs.Laws.{DividesAll}
use Rattle.congruence_dom.specs.Rows as C
use Rattle.congruence_dom.specs.declared.classes.Cong.{Cong}
use Rattle.transfer_int.specs.Operands.{span_of_set, class_of_set, IsDivisor, IsShifted, IsCount, IsResult, IsBetween}
use Rattle.tm_cint.specs.IntTypes.{IsIn}
use Rattle.tm_cint.specs.Operators.{bitwise}
use Rattle.tm_cint.specs.declared.int_types.IntType.{IntType}
use Rattle.tm_cint.specs.declared.operators.BinOp.{BinOp}
use Rattle.tm_cint.specs.declared.operators.BinOp.TheVariants.{Add, Sub, Mul, Div, Rem, Shl, Shr, And, Or, Xor}

-- An interval row and a congruence row, of two sets that are not empty.
pub record InRowPair (span : Span → Span → Span) (class : Cong → Cong → Cong) (a b : Progression) (v : ℤ) : Type 0 where
  pub left : Has a (first_of a)
  pub right : Has b (first_of b)
  pub in_span : InInterval (span (span_of_set a) (span_of_set b)) v
  pub in_class : InClass (class (class_of_set a) (class_of_set b)) v

-- v is the quotient of a member by a member other than 0.
abbrev pub IsQuotient : Progression → Progression → ℤ → Type 0
IsQuotient a b = IsResult int_div (Has a) (IsDivisor b)

-- Where B is one number that divides all of A, v is in the class of the quotients.
abbrev pub InQuotientClass : Progression → Progression → ℤ → Type 0
InQuotientClass a b v = (d : ℤ) → b ≡ single d → d ≢ pos 0 → DividesAll d (class_of_set a)
    → InClass (C.div_row (class_of_set a) d) v

-- A/B: from the least to the greatest quotient, and in their class.
pub record InQuotients (a b : Progression) (v : ℤ) : Type 0 where
  pub between : IsBetween (IsQuotient a b) v
  pub exact : InQuotientClass a b v

-- A%B, where B has a number other than 0; A itself where each of its numbers is smaller than every divisor.
pub record InRemainders (a b : Progression) (v : ℤ) : Type 0 where
  pub rows : InRowPair I.rem_row C.rem_row a b v
  pub some : ℤ
  pub divisor : IsDivisor b some
  pub small : ((x y : ℤ) → Has a x → IsDivisor b y → unsigned_abs x < unsigned_abs y) → Has a v

-- Of numbers with the property P and counts with the property Q: v is a multiple of d * 2^n where d divides all numbers
-- and no count is below n; and where n is the only count, congruent to x * 2^n modulo m * 2^n where all are congruent
-- to x modulo m.
pub record InLeftShiftClass (P Q : ℤ → Type 0) (v : ℤ) : Type 0 where
  pub multiple : (d : ℤ) (n : ℕ) → ((x : ℤ) → P x → Divides d x) → ((y : ℤ) → Q y → n ≤ unsigned_abs y)
      → Divides (d *ℤ power n) v
  pub exact : (n : ℕ) (m x : ℤ) → ((y : ℤ) → Q y → unsigned_abs y ≡ n) → P x → ((z : ℤ) → P z → Divides m (z -ℤ x))
      → Divides (m *ℤ power n) (v -ℤ x *ℤ power n)

-- A<<N, of the numbers of A that are not negative by the counts of N: from the least to the greatest result, and in
-- their class.
pub record InLeftShifts (t : IntType) (a b : Progression) (v : ℤ) : Type 0 where
  pub between : IsBetween (IsResult I.shift_left (IsShifted a) (IsCount t b)) v
  pub class : InLeftShiftClass (IsShifted a) (IsCount t b) v

-- Where n is the only count with the property Q and 2^n divides all of A, v is in the class of the quotients.
abbrev pub InRightShiftClass : Progression → (ℤ → Type 0) → ℤ → Type 0
InRightShiftClass a Q v = (n : ℕ) → ((y : ℤ) → Q y → unsigned_abs y ≡ n) → DividesAll (power n) (class_of_set a)
    → InClass (C.shr_row (class_of_set a) n) v

-- A>>N, rounded down: from the least to the greatest result, and in their class.
pub record InRightShifts (t : IntType) (a b : Progression) (v : ℤ) : Type 0 where
  pub between : IsBetween (IsResult I.shift_right (Has a) (IsCount t b)) v
  pub exact : InRightShiftClass a (IsCount t b) v

-- Where both sets have one element, v is the exact value.
pub record InBits (f : ℕ → ℕ → ℕ) (t : IntType) (a b : Progression) (v : ℤ) : Type 0 where
  pub left : Has a (first_of a)
  pub right : Has b (first_of b)
  pub in_type : IsIn t v
  pub exact : (x y : ℤ) → a ≡ single x → b ≡ single y → v ≡ bitwise f t x y

-- v is not negative, and at most the greatest number of a, where a has no negative one.
abbrev pub IsUnder : Progression → ℤ → Type 0
IsUnder a v = pos 0 ≤ℤ first_of a → (pos 0 ≤ℤ v) × (v ≤ℤ last_of a)

-- A&B
pub record InAnd (t : IntType) (a b : Progression) (v : ℤ) : Type 0 where
  pub bits : InBits bit_and t a b v
  pub under_left : IsUnder a v
  pub under_right : IsUnder b v

-- A|B and A^B: v lies from low to 2^k - 1, for the least k with the greatest numbers below 2^k, where no number is
-- negative.
pub record InOr (f : ℕ → ℕ → ℕ) (low : ℤ) (t : IntType) (a b : Progression) (v : ℤ) : Type 0 where
  pub bits : InBits f t a b v
  pub spread : pos 0 ≤ℤ first_of a → pos 0 ≤ℤ first_of b → (low ≤ℤ v)
      × (v ≤ℤ I.ones_over (span_of_set a) (span_of_set b))

-- R of an operator that is no comparison
abbrev pub InRows : BinOp → IntType → Progression → Progression → ℤ → Type 0
InRows Add t a b v = InRowPair I.add_row C.add_row a b v
InRows Sub t a b v = InRowPair I.sub_row C.sub_row a b v
InRows Mul t a b v = InRowPair I.mul_row C.mul_row a b v
InRows Div t a b v = InQuotients a b v
InRows Rem t a b v = InRemainders a b v
InRows Shl t a b v = InLeftShifts t a b v
InRows Shr t a b v = InRightShifts t a b v
InRows And t a b v = InAnd t a b v
InRows Or t a b v = InOr bit_or (int_max (first_of a) (first_of b)) t a b v
InRows Xor t a b v = InOr bit_xor (pos 0) t a b v
InRows op t a b v = ⊥
