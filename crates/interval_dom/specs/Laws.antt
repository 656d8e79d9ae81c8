-- What the rows promise: they hold every result, and operands that hold less give rows that hold less.
use Rattle.std.specs.Prelude.{◌≡◌, ◌&&◌, ◌||◌, Bool, is_some, ℕ, ◌+◌, ◌%◌, ◌^◌, ◌<◌, ◌≤◌, ℤ, FitsSigned, pos, ◌≤ℤ◌}
use Rattle.std.specs.Prelude.{Option, Some, None, IfSome, ⊤}
use Rattle.interval_dom.specs.Interval.{Span, InInterval, IsOrdered, IsWithin}
use Rattle.interval_dom.specs.Bitwise.{bit_of, bit_length}
use Rattle.std.specs.Int.{Width}
use Rattle.interval_dom.specs.Rows.{IsOneSided, has_one, is_not_negative}

-- under the guard, the row holds every result of the operator on numbers that its operands hold and the operator takes
abbrev pub Holds : (Span → Span → Type 0) → (ℤ → ℤ → Type 0) → (Span → Span → Span) → (ℤ → ℤ → ℤ) → Type 0
Holds Guard Takes row op =
    (a b : Span) (x y : ℤ) → Guard a b → Takes x y → InInterval a x → InInterval b y → InInterval (row a b) (op x y)

-- where the guard holds for the greater operands, smaller ones have a smaller row
abbrev pub Grows : (Span → Span → Type 0) → (Span → Span → Span) → Type 0
Grows Guard row =
    (a b c d : Span) → Guard c d → IsOrdered a → IsOrdered b → IsWithin a c → IsWithin b d
    → IsWithin (row a b) (row c d)

-- no guard
abbrev pub Always : Span → Span → Type 0
Always a b = ⊤

-- the second operand lies on one side of 0
abbrev pub AreDivisors : Span → Span → Type 0
AreDivisors a b = IsOneSided b

-- the second operand's numbers are not negative
abbrev pub AreCounts : Span → Span → Type 0
AreCounts a n = pos 0 ≤ℤ n.lo

-- no operand's number is negative
abbrev pub AreNotNegative : Span → Span → Type 0
AreNotNegative a n = (pos 0 ≤ℤ a.lo) × (pos 0 ≤ℤ n.lo)

-- the same for a row that stands under guards of its own
abbrev pub HoldsIfAny : (Span → Span → Option Span) → (ℤ → ℤ → ℤ) → Type 0
HoldsIfAny row op = (a b : Span) (x y : ℤ) → InInterval a x → InInterval b y
    → IfSome (row a b) (λ r. InInterval r (op x y))

-- a row that stands for the greater operands stands for the smaller ones, and is smaller
abbrev pub IsWithinRow : Option Span → Option Span → Type 0
IsWithinRow p None = ⊤
IsWithinRow (Some p) (Some q) = IsWithin p q
IsWithinRow None (Some q) = ⊥

abbrev pub GrowsIfAny : (Span → Span → Option Span) → Type 0
GrowsIfAny row = (a b c d : Span) → IsOrdered a → IsOrdered b → IsWithin a c → IsWithin b d
    → IsWithinRow (row a b) (row c d)

-- where the guarded row stands
abbrev pub StandsWhere : (Span → Span → Option Span) → (Span → Span → Bool) → Type 0
StandsWhere row guard = (a b : Span) → is_some (row a b) ≡ guard a b

abbrev pub one_not_negative : Span → Span → Bool
one_not_negative a b = is_not_negative a || (is_not_negative b || (has_one a && has_one b))

abbrev pub none_negative : Span → Span → Bool
none_negative a b = (is_not_negative a && is_not_negative b) || (has_one a && has_one b)

-- each bit of the operator's result is a function of the operands' bits at that place
abbrev pub IsBitwise : (ℤ → ℤ → ℤ) → (ℕ → ℕ → ℕ) → Type 0
IsBitwise op of_bits = (x y : ℤ) (i : ℕ) → bit_of (op x y) i ≡ of_bits (bit_of x i) (bit_of y i)

abbrev pub bit_sum : ℕ → ℕ → ℕ
bit_sum a b = (a + b) % 2

-- at a signed type the operator gives what the type's own gives
abbrev pub IsOfTypes : (ℤ → ℤ → ℤ) → (Width → ℤ → ℤ → ℤ) → Type 0
IsOfTypes op own = (w : Width) (x y : ℤ) → FitsSigned w x → FitsSigned w y → own w x y ≡ op x y

-- n is below 2^k for k its number of binary digits, and for no smaller k
abbrev pub LengthsAreLeast : Type 0
LengthsAreLeast = (n : ℕ) → (n < 2 ^ bit_length n) × ((k : ℕ) → n < 2 ^ k → bit_length n ≤ k)
