-- What the rows promise: they hold every result, and operands that hold less give rows that hold less.
use Rattle.std.specs.Prelude.{◌≢◌, ◌↔◌, ℕ, ◌≤◌, ℤ, pos, ◌*ℤ◌, ◌-ℤ◌, int_div}
use Rattle.std.specs.Int.{int_shr}
use Rattle.congruence_dom.specs.declared.classes.Cong.{Cong}
use Rattle.congruence_dom.specs.Class.{InClass, IsSubclass}
use Rattle.tm_numbers.specs.Divisors.{Divides}
use Rattle.congruence_dom.specs.Rows.{div_row, shl_row, shl_from_row, shr_row}
use Rattle.tm_numbers.specs.Powers.{power}

-- one class lies within another exactly where the other's modulus divides the modulus and the difference of the
-- residues
abbrev pub IsSubclassByDivision : Type 0
IsSubclassByDivision = (a b : Cong) → IsSubclass a b ↔ (Divides b.modulus a.modulus
    × Divides b.modulus (a.residue -ℤ b.residue))

-- the row holds every result of the operator on numbers that its operands hold and the operator takes
abbrev pub Holds : (ℤ → ℤ → Type 0) → (Cong → Cong → Cong) → (ℤ → ℤ → ℤ) → Type 0
Holds Takes row op = (a b : Cong) (x y : ℤ) → Takes x y → InClass a x → InClass b y → InClass (row a b) (op x y)

-- smaller operands have a smaller row
abbrev pub Grows : (Cong → Cong → Cong) → Type 0
Grows row = (a b c d : Cong) → IsSubclass a c → IsSubclass b d → IsSubclass (row a b) (row c d)

-- m divides residue and modulus, and so every number of the class
abbrev pub DividesAll : ℤ → Cong → Type 0
DividesAll m a = Divides m a.residue × Divides m a.modulus

abbrev pub DivHolds : Type 0
DivHolds = (a : Cong) (b x : ℤ) → b ≢ pos 0 → DividesAll b a → InClass a x → InClass (div_row a b) (int_div x b)

-- the guard of the greater operand is one of the smaller
abbrev pub DivGrows : Type 0
DivGrows = (a c : Cong) (b : ℤ) → b ≢ pos 0 → DividesAll b c → IsSubclass a c
    → DividesAll b a × IsSubclass (div_row a b) (div_row c b)

abbrev pub ShlHolds : Type 0
ShlHolds = (a : Cong) (n : ℕ) (x : ℤ) → InClass a x → InClass (shl_row a n) (x *ℤ power n)

abbrev pub ShlGrows : Type 0
ShlGrows = (a c : Cong) (n : ℕ) → IsSubclass a c → IsSubclass (shl_row a n) (shl_row c n)

abbrev pub ShlFromHolds : Type 0
ShlFromHolds = (a : Cong) (least n : ℕ) (x : ℤ) → least ≤ n → InClass a x
    → InClass (shl_from_row a least) (x *ℤ power n)

-- a smaller set of counts has a least one that is no less
abbrev pub ShlFromGrows : Type 0
ShlFromGrows = (a c : Cong) (m n : ℕ) → n ≤ m → IsSubclass a c → IsSubclass (shl_from_row a m) (shl_from_row c n)

-- the quotient is rounded down
abbrev pub ShrHolds : Type 0
ShrHolds = (a : Cong) (n : ℕ) (x : ℤ) → DividesAll (power n) a → InClass a x → InClass (shr_row a n) (int_shr x n)

abbrev pub ShrGrows : Type 0
ShrGrows = (a c : Cong) (n : ℕ) → DividesAll (power n) c → IsSubclass a c
    → DividesAll (power n) a × IsSubclass (shr_row a n) (shr_row c n)
