-- What an operation may give on single values, and with which class it may fail: the steps that the rows have to cover.
use Rattle.std.specs.Prelude.{◌≡◌, ◌≢◌, ◌⊎◌, ℕ, ◌≤◌, Bool, cond, eqb, ℤ, pos, ◌+ℤ◌, ◌-ℤ◌, ◌*ℤ◌, IsTrue, List, [], ◌∷◌}
use Rattle.std.specs.Prelude.{Ok, Err}
use Rattle.tm_cint.specs.IntTypes.{IsIn}
use Rattle.tm_cint.specs.Conversions.{converted_value}
use Rattle.tm_cint.specs.Operators.{outcome, IsRightOperand}
use Rattle.tm_cint.specs.declared.Class.{Class}
use Rattle.tm_cint.specs.declared.Class.TheVariants.{Index, Pointer as PointerClass, Deref}
use Rattle.tm_cint.specs.declared.int_types.IntType.{IntType}
use Rattle.tm_cint.specs.declared.operators.BinOp.{BinOp}
use Rattle.tm_cint.specs.declared.operators.BinOp.TheVariants.{Sub}
use Rattle.operator_values.specs.transfer_int.Values.{ones_of}
use Rattle.operator_values.specs.filters.Partners.{Compares}
use Rattle.interfere_set.specs.pointer_dom.Offset.{IsOffset}
use Rattle.interfere_set.specs.pointer_dom.Pointer.{Pointer, null, invalid, to, ScalarValue, number, pointer}
use Rattle.interfere_set.specs.pointer_dom.Values.{IsValueIn}
use Rattle.interfere_set.specs.pointer_dom.Advances.{IsSubscript, directed}
use Rattle.interfere_set.specs.pointer_dom.Selections.{Reaches}
use Rattle.interfere_set.specs.pointer_dom.Equality.{IsEqualityOf}
use Rattle.transfer_rows.specs.Actions.{Spot, Calculation, constant, copied, negated, complemented, operated, converted}
use Rattle.transfer_rows.specs.Actions.{compared, part, element, moved, dereferenced, Side, temporary, fixed, Filter}
use Rattle.transfer_rows.specs.Actions.{usable, numbers_compare, pointers_compare}

-- what the temporaries are
abbrev pub Valuation : Type 0
Valuation = ℕ → ScalarValue

abbrev pub put : Valuation → ℕ → ScalarValue → Valuation
put temps t w u = cond (eqb u t) w (temps u)

-- two numbers of the operator, and what it gives
pub record IsOperation (op : BinOp) (t : IntType) (left right given : ScalarValue) : Type 0 where
  pub x : ℤ
  pub y : ℤ
  pub result : ℤ
  pub is_left : left ≡ number x
  pub is_right : right ≡ number y
  pub is_given : given ≡ number result
  pub in_left : IsIn t x
  pub in_right : IsRightOperand op t y
  pub gives : outcome op t x y ≡ Ok result

pub record IsFailure (op : BinOp) (t : IntType) (left right : ScalarValue) (class : Class) : Type 0 where
  pub x : ℤ
  pub y : ℤ
  pub is_left : left ≡ number x
  pub is_right : right ≡ number y
  pub in_left : IsIn t x
  pub in_right : IsRightOperand op t y
  pub gives : outcome op t x y ≡ Err class

pub record IsComplement (t : IntType) (operand given : ScalarValue) : Type 0 where
  pub x : ℤ
  pub is_operand : operand ≡ number x
  pub in_type : IsIn t x
  pub is_given : given ≡ number (ones_of t -ℤ x)

pub record IsConversion (t : IntType) (operand given : ScalarValue) : Type 0 where
  pub x : ℤ
  pub is_operand : operand ≡ number x
  pub is_given : given ≡ number (converted_value x t)

pub record IsComparison (equal : Bool) (left right given : ScalarValue) : Type 0 where
  pub x : Pointer
  pub y : Pointer
  pub result : ℤ
  pub is_left : left ≡ pointer x
  pub is_right : right ≡ pointer y
  pub is_given : given ≡ number result
  pub truth : IsEqualityOf equal x y result

-- a pointer to an object that is moved by some cells, and stays in the object
pub record IsMove (sizes : ℕ → ℕ) (step : ℤ) (operand given : ScalarValue) : Type 0 where
  pub object : ℕ
  pub from : ℕ
  pub offset : ℕ
  pub is_operand : operand ≡ pointer (to object from)
  pub is_given : given ≡ pointer (to object offset)
  pub moved : pos offset ≡ pos from +ℤ step
  pub within : offset ≤ sizes object

pub record IsElement (sizes : ℕ → ℕ) (count cells : ℕ) (operand index given : ScalarValue) : Type 0 where
  pub i : ℤ
  pub is_index : index ≡ number i
  pub subscript : IsSubscript count i
  pub element : IsMove sizes (i *ℤ pos cells) operand given

pub record IsCounted (sizes : ℕ → ℕ) (by : ℤ) (operand count given : ScalarValue) : Type 0 where
  pub n : ℤ
  pub is_count : count ≡ number n
  pub move : IsMove sizes (n *ℤ by) operand given

-- a pointer that may be dereferenced
pub record IsReached (alive : ℕ → Bool) (stands : ℕ → ℕ → Bool) (operand given : ScalarValue) : Type 0 where
  pub x : Pointer
  pub is_operand : operand ≡ pointer x
  pub is_given : given ≡ pointer x
  pub reaches : Reaches (λ object. IsTrue (alive object)) (λ object offset. IsTrue (stands object offset)) x

-- null, the invalid pointer, or one that leaves its object
pub data Strays (sizes : ℕ → ℕ) (step : ℤ) : ScalarValue → Type 0 where
  strays_null : Strays sizes step (pointer null)
  strays_invalid : Strays sizes step (pointer invalid)
  strays_out : {object from : ℕ} → (IsOffset (sizes object) (pos from +ℤ step) → ⊥)
      → Strays sizes step (pointer (to object from))

pub record IsStray (sizes : ℕ → ℕ) (by : ℤ) (operand count : ScalarValue) : Type 0 where
  pub n : ℤ
  pub is_count : count ≡ number n
  pub strays : Strays sizes (n *ℤ by) operand

pub record IsUnreached (alive : ℕ → Bool) (stands : ℕ → ℕ → Bool) (operand : ScalarValue) : Type 0 where
  pub x : Pointer
  pub is_operand : operand ≡ pointer x
  pub fails : Reaches (λ object. IsTrue (alive object)) (λ object offset. IsTrue (stands object offset)) x → ⊥

pub record IsNoSubscript (count : ℕ) (index : ScalarValue) : Type 0 where
  pub i : ℤ
  pub is_index : index ≡ number i
  pub fails : IsSubscript count i → ⊥

module _ (sizes : ℕ → ℕ) (temps : Valuation) where
  -- the calculation may give w
  unfoldable pub MayGive : Calculation → ScalarValue → Type 0
  MayGive (constant value) w = IsValueIn value w
  MayGive (copied source) w = w ≡ temps source
  MayGive (negated t source) w = IsOperation Sub t (number (pos 0)) (temps source) w
  MayGive (complemented t source) w = IsComplement t (temps source) w
  MayGive (operated op t left right) w = IsOperation op t (temps left) (temps right) w
  MayGive (converted t source) w = IsConversion t (temps source) w
  MayGive (compared equal left right) w = IsComparison equal (temps left) (temps right) w
  MayGive (part cells source) w = IsMove sizes (pos cells) (temps source) w
  MayGive (element count cells source index) w = IsElement sizes count cells (temps source) (temps index) w
  MayGive (moved forward cells source count) w =
      IsCounted sizes (directed forward cells) (temps source) (temps count) w
  MayGive (dereferenced alive stands source) w = IsReached alive stands (temps source) w

  -- and may fail with the class
  unfoldable pub Fails : Calculation → Class → Type 0
  Fails (negated t source) class = IsFailure Sub t (number (pos 0)) (temps source) class
  Fails (operated op t left right) class = IsFailure op t (temps left) (temps right) class
  Fails (element count cells source index) class = (class ≡ Index) × IsNoSubscript count (temps index)
  Fails (moved forward cells source count) class =
      (class ≡ PointerClass) × IsStray sizes (directed forward cells) (temps source) (temps count)
  Fails (dereferenced alive stands source) class = (class ≡ Deref) × IsUnreached alive stands (temps source)
  Fails calculation class = ⊥

module _ (temps : Valuation) where
  -- w stands at the side
  abbrev pub IsAtSide : Side → ScalarValue → Type 0
  IsAtSide (temporary t) w = w ≡ temps t
  IsAtSide (fixed value) w = IsValueIn value w

  pub record NumbersCompare (op : BinOp) (left right : Side) : Type 0 where
    pub x : ℤ
    pub y : ℤ
    pub at_left : IsAtSide left (number x)
    pub at_right : IsAtSide right (number y)
    pub holds : Compares op x y

  pub record PointersCompare (equal : Bool) (left right : Side) : Type 0 where
    pub x : Pointer
    pub y : Pointer
    pub at_left : IsAtSide left (pointer x)
    pub at_right : IsAtSide right (pointer y)
    pub holds : IsEqualityOf equal x y (pos 1)

  -- control goes on behind the filter
  abbrev pub Passes : Filter → Type 0
  Passes (usable source) = temps source ≢ pointer invalid
  Passes (numbers_compare op left right) = NumbersCompare op left right
  Passes (pointers_compare equal left right) = PointersCompare equal left right

-- u is an operand
unfoldable pub IsOperand : Calculation → ℕ → Type 0
IsOperand (constant value) u = ⊥
IsOperand (copied source) u = u ≡ source
IsOperand (negated t source) u = u ≡ source
IsOperand (complemented t source) u = u ≡ source
IsOperand (operated op t left right) u = (u ≡ left) ⊎ (u ≡ right)
IsOperand (converted t source) u = u ≡ source
IsOperand (compared equal left right) u = (u ≡ left) ⊎ (u ≡ right)
IsOperand (part cells source) u = u ≡ source
IsOperand (element count cells source index) u = (u ≡ source) ⊎ (u ≡ index)
IsOperand (moved forward cells source count) u = (u ≡ source) ⊎ (u ≡ count)
IsOperand (dereferenced alive stands source) u = u ≡ source

abbrev pub IsAt : Side → ℕ → Type 0
IsAt (temporary t) u = u ≡ t
IsAt (fixed value) u = ⊥

abbrev pub IsFiltered : Filter → ℕ → Type 0
IsFiltered (usable source) u = u ≡ source
IsFiltered (numbers_compare op left right) u = IsAt left u ⊎ IsAt right u
IsFiltered (pointers_compare equal left right) u = IsAt left u ⊎ IsAt right u

-- the spot is one of these
abbrev pub IsSpotOf : List Spot → Spot → Type 0
IsSpotOf [] spot = ⊥
IsSpotOf (x ∷ xs) spot = (spot ≡ x) ⊎ IsSpotOf xs spot
