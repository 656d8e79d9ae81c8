-- What is looked for of enumerations that compilers may make unsigned, and what is found in one state.
use Rattle.std.specs.Prelude.{◌≡◌, ◌⊎◌, ℕ, ℤ, pos, ◌<ℤ◌, true, Contains}
use Rattle.tm_cint.specs.declared.int_types.IntType.{IntType}
use Rattle.tm_cint.specs.declared.int_types.IntType.TheVariants as Ints
use Rattle.tm_cint.specs.declared.operators.BinOp.{BinOp}
use Rattle.tm_typed.specs.declared.expressions.Unary.{Unary}
use Rattle.tm_typed.specs.declared.types.Scalar.{Scalar}
use Rattle.strided_dom.specs.Progression.{Progression, Has}
use Rattle.flow_graph.specs.declared.operations.Operation.{Operation}
use Rattle.flow_graph.specs.declared.operations.Operation.TheVariants as Op
use Rattle.flow_graph.specs.declared.operations.Test.{Test}
use Rattle.flow_graph.specs.declared.operations.Test.TheVariants as Tests
use Rattle.post_recheck.specs.transfer_rows.StateForms.{State, value_of}
use Rattle.path_origins.specs.declared.origins.Form.{Form}
use Rattle.path_origins.specs.declared.origins.Form.TheVariants as Forms
use Rattle.part_extents.specs.Parts.{is_of_enumeration, inside_of}
use Rattle.operand_orders.specs.Reached.{SolvedBody, targets}
use Rattle.open_choices.specs.Enumerations.{HasNegative, GivesNegative, TurnsNegative}
use Rattle.open_choices.specs.declared.looks.Look.{Look}
use Rattle.open_choices.specs.declared.looks.Look.TheVariants as Looks

-- ## What is looked for

-- where an operator works in a type
abbrev pub in_word : IntType → Look → Look
in_word Ints.Int look = look
in_word Ints.Long look = look
in_word of look = Looks.Nothing

-- at an operator on one operand
abbrev pub unary_of : Form → IntType → Unary → ℕ → Look
unary_of (Forms.Unary true) of operator value = in_word of (Looks.Unary operator value)
unary_of form of operator value = Looks.Nothing

-- at one on two operands
abbrev pub binary_of : Form → IntType → BinOp → ℕ → ℕ → Look
binary_of (Forms.Binary true) of operator left right = in_word of (Looks.Binary operator left right)
binary_of form of operator left right = Looks.Nothing

-- at a comparison as a branch
abbrev pub branch_of : Form → IntType → ℕ → ℕ → Look
branch_of (Forms.Test true) of left right = in_word of (Looks.Branch left right)
branch_of form of left right = Looks.Nothing

-- at a test
abbrev pub branch_by : Form → Test → Look
branch_by form (Tests.Numbers operator of left right) = branch_of form of left right
branch_by form test = Looks.Nothing

-- where an operation of a form stands
abbrev pub enumerated_look_of : Form → Operation → Look
enumerated_look_of form (Op.Store address value scalar into place) = Looks.Negative address value scalar
enumerated_look_of form (Op.Un to operator of value place) = unary_of form of operator value
enumerated_look_of form (Op.Bin to operator of left right place) = binary_of form of operator left right
enumerated_look_of form (Op.Assume test) = branch_by form test
enumerated_look_of form operation = Looks.Nothing

-- ## Numbers

pub record HasPositive (numbers : Progression) : Type 0 where
  pub number : ℤ
  pub has : Has numbers number
  pub positive : pos 0 <ℤ number

-- an operator on one operand works on a negative number, or gives one
abbrev pub IsNegativeUnary : Unary → Progression → Type 0
IsNegativeUnary operator numbers = HasNegative numbers ⊎ TurnsNegative numbers operator

-- one on two operands does
abbrev pub IsNegativeBinary : BinOp → Progression → Progression → Type 0
IsNegativeBinary operator left right = (HasNegative left ⊎ HasNegative right) ⊎ GivesNegative operator left right

-- ## One state

module _ (s : State) where
  abbrev pub IsNegativeOf : Unary → ℕ → Type 0
  IsNegativeOf operator value = (let v = value_of s value in IsNegativeUnary operator v.numbers)

  abbrev pub IsNegativeOfBoth : BinOp → ℕ → ℕ → Type 0
  IsNegativeOfBoth operator left right =
      (let v = value_of s left in let w = value_of s right in IsNegativeBinary operator v.numbers w.numbers)

  abbrev pub IsNegativeBranch : ℕ → ℕ → Type 0
  IsNegativeBranch left right =
      (let v = value_of s left in let w = value_of s right in HasNegative v.numbers ⊎ HasNegative w.numbers)

module _ (b : SolvedBody) (s : State) where
  -- an access reaches an enumeration
  pub record StoresEnumerated (scalar : Scalar) (address : ℕ) : Type 0 where
    pub cell : ℕ
    pub target : Contains (targets b scalar address s) cell
    pub enumerated : is_of_enumeration b.laid (inside_of b.laid cell) ≡ true

  -- a negative number is stored there
  abbrev pub IsNegativeStore : ℕ → ℕ → Scalar → Type 0
  IsNegativeStore address value scalar =
      (let v = value_of s value in HasNegative v.numbers) × StoresEnumerated scalar address
