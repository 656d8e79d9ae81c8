-- Typed expressions as plain trees, apart from boxes and vectors.
use Rattle.std.specs.Prelude.{ℕ, ℤ, Bool, List, [], ◌∷◌, Box}
use Rattle.std.specs.declared.alloc.Global.{Global}
use Rattle.tm_trees.specs.tm_terms.declared.places.Place.{Place}
use Rattle.tm_trees.specs.tm_cint.declared.int_types.IntType.{IntType}
use Rattle.tm_trees.specs.tm_cint.declared.operators.BinOp.{BinOp}
use Rattle.tm_typed.specs.declared.scopes.ObjectNumber.{ObjectNumber}
use Rattle.tm_typed.specs.declared.types.Qualified.{Qualified}
use Rattle.tm_typed.specs.declared.types.Scalar.{Scalar}
use Rattle.tm_typed.specs.declared.expressions.Unary.{Unary}
use Rattle.tm_typed.specs.declared.expressions.Step.{Step}
use Rattle.tm_typed.specs.declared.expressions.Rvalue.{Rvalue, Row_of-Rvalue, end_of-Rvalue, more_of-Rvalue}
use Rattle.tm_typed.specs.declared.expressions.Rvalue.TheVariants as Rvalues
use Rattle.tm_typed.specs.declared.expressions.Lvalue.{Lvalue}
use Rattle.tm_typed.specs.declared.expressions.Lvalue.TheVariants as Lvalues
use Rattle.tm_typed.specs.declared.operands.Sort.{Sort}
use Rattle.tm_typed.specs.declared.operands.Valued.{Valued}
use Rattle.tm_typed.specs.declared.operands.Operand.{Operand}
use Rattle.tm_typed.specs.declared.operands.Operand.TheVariants as Operands

mutual
  -- An expression for its value. Operands have the type in which the operator works, by conversions that stand in the
  -- tree.
  pub data RvalueTree : Type 0 where
    a_constant : IntType → ℤ → Place → RvalueTree
    -- a comparison, `!`, `&&` or `||` that is folded: its value, and its form for branches
    a_folded : ℤ → RvalueTree → RvalueTree
    a_null : Place → RvalueTree
    a_load : Scalar → Bool → LvalueTree → RvalueTree
    an_address : LvalueTree → Place → RvalueTree
    a_structure : LvalueTree → RvalueTree
    the_same : RvalueTree → Place → RvalueTree
    a_unary : Unary → IntType → RvalueTree → Place → RvalueTree
    a_binary : BinOp → IntType → RvalueTree → RvalueTree → Place → RvalueTree
    a_comparison_of_pointers : Bool → RvalueTree → RvalueTree → Place → RvalueTree
    a_move : Bool → ℕ → Bool → RvalueTree → RvalueTree → Place → RvalueTree
    a_not : RvalueTree → Place → RvalueTree
    an_and : RvalueTree → RvalueTree → Place → RvalueTree
    an_or : RvalueTree → RvalueTree → Place → RvalueTree
    a_choice : RvalueTree → RvalueTree → RvalueTree → Place → RvalueTree
    an_assignment : Scalar → LvalueTree → RvalueTree → Place → RvalueTree
    a_compound : BinOp → IntType → IntType → Bool → LvalueTree → RvalueTree → Place → RvalueTree
    a_compound_move : Bool → ℕ → ℕ → LvalueTree → RvalueTree → Place → RvalueTree
    a_unit_step : Step → IntType → IntType → Bool → LvalueTree → Place → RvalueTree
    a_pointer_step : Step → ℕ → ℕ → LvalueTree → Place → RvalueTree
    a_function_call : ℕ → ℕ → RvalueTrees → Place → RvalueTree
    an_input_value : ℤ → ℤ → Place → RvalueTree
    a_probe : ℕ → Place → RvalueTree
    a_comma : RvalueTree → RvalueTree → Place → RvalueTree
    a_conversion : IntType → IntType → RvalueTree → Place → RvalueTree
    a_discard : RvalueTree → Place → RvalueTree

  -- An expression for the object that it designates.
  pub data LvalueTree : Type 0 where
    an_object : ObjectNumber → Place → LvalueTree
    an_element : LvalueTree → RvalueTree → ℕ → ℕ → Place → LvalueTree
    a_pointed_element : RvalueTree → RvalueTree → ℕ → ℕ → Place → LvalueTree
    a_pointed : RvalueTree → ℕ → Place → LvalueTree
    an_arrow : RvalueTree → ℕ → ℕ → Place → LvalueTree
    a_part : LvalueTree → ℕ → Place → LvalueTree

  -- the arguments of a call
  pub data RvalueTrees : Type 0 where
    no_rvalues : RvalueTrees
    and_rvalue : RvalueTree → RvalueTrees → RvalueTrees

-- the place of an lvalue
abbrev pub lvalue_place : LvalueTree → Place
lvalue_place (an_object o p) = p
lvalue_place (an_element l i n c p) = p
lvalue_place (a_pointed_element e i c t p) = p
lvalue_place (a_pointed e t p) = p
lvalue_place (an_arrow e t c p) = p
lvalue_place (a_part l c p) = p

-- what the code holds, as plain trees
abbrev mutual
  pub rvalue_tree : Rvalue → RvalueTree
  rvalue_tree (Rvalues.Constant t z p) = a_constant t z p
  rvalue_tree (Rvalues.Folded' z b e) = a_folded z (rvalue_tree e)
  rvalue_tree (Rvalues.Null p) = a_null p
  rvalue_tree (Rvalues.Load' s v b l) = a_load s v (lvalue_tree l)
  rvalue_tree (Rvalues.Address' b l p) = an_address (lvalue_tree l) p
  rvalue_tree (Rvalues.Structure' b l) = a_structure (lvalue_tree l)
  rvalue_tree (Rvalues.Same' b e p) = the_same (rvalue_tree e) p
  rvalue_tree (Rvalues.Unary' o t b e p) = a_unary o t (rvalue_tree e) p
  rvalue_tree (Rvalues.Binary' o t b l d r p) = a_binary o t (rvalue_tree l) (rvalue_tree r) p
  rvalue_tree (Rvalues.Pointers' q b l d r p) = a_comparison_of_pointers q (rvalue_tree l) (rvalue_tree r) p
  rvalue_tree (Rvalues.Move' m c f b e d i p) = a_move m c f (rvalue_tree e) (rvalue_tree i) p
  rvalue_tree (Rvalues.Not' b e p) = a_not (rvalue_tree e) p
  rvalue_tree (Rvalues.And' b l d r p) = an_and (rvalue_tree l) (rvalue_tree r) p
  rvalue_tree (Rvalues.Or' b l d r p) = an_or (rvalue_tree l) (rvalue_tree r) p
  rvalue_tree (Rvalues.Conditional' b c d x f y p) = a_choice (rvalue_tree c) (rvalue_tree x) (rvalue_tree y) p
  rvalue_tree (Rvalues.Assign' s b l d e p) = an_assignment s (lvalue_tree l) (rvalue_tree e) p
  rvalue_tree (Rvalues.Compound' o c t v b l d e p) = a_compound o c t v (lvalue_tree l) (rvalue_tree e) p
  rvalue_tree (Rvalues.CompoundMove' m c k b l d e p) = a_compound_move m c k (lvalue_tree l) (rvalue_tree e) p
  rvalue_tree (Rvalues.Step' s c t v b l p) = a_unit_step s c t v (lvalue_tree l) p
  rvalue_tree (Rvalues.StepMove' s c k b l p) = a_pointer_step s c k (lvalue_tree l) p
  rvalue_tree (Rvalues.Call' f s shape row p) = a_function_call f s (rvalues_of row) p
  rvalue_tree (Rvalues.Input l h p) = an_input_value l h p
  rvalue_tree (Rvalues.Probe m p) = a_probe m p
  rvalue_tree (Rvalues.Comma' b l d r p) = a_comma (rvalue_tree l) (rvalue_tree r) p
  rvalue_tree (Rvalues.Convert' f t b e p) = a_conversion f t (rvalue_tree e) p
  rvalue_tree (Rvalues.Discard' b e p) = a_discard (rvalue_tree e) p

  pub lvalue_tree : Lvalue → LvalueTree
  lvalue_tree (Lvalues.Object o p) = an_object o p
  lvalue_tree (Lvalues.Element' b l d i n c p) = an_element (lvalue_tree l) (rvalue_tree i) n c p
  lvalue_tree (Lvalues.Subscript' b e d i c t p) = a_pointed_element (rvalue_tree e) (rvalue_tree i) c t p
  lvalue_tree (Lvalues.Pointed' b e t p) = a_pointed (rvalue_tree e) t p
  lvalue_tree (Lvalues.Arrow' b e t c p) = an_arrow (rvalue_tree e) t c p
  lvalue_tree (Lvalues.Member' b l c p) = a_part (lvalue_tree l) c p

  -- the arguments as they lie in a vector
  pub rvalues_of : {m : _} → Row_of-Rvalue m → RvalueTrees
  rvalues_of end_of-Rvalue = no_rvalues
  rvalues_of (more_of-Rvalue e row) = and_rvalue (rvalue_tree e) (rvalues_of row)

abbrev pub boxed_tree : Box Rvalue Global → RvalueTree
boxed_tree b = rvalue_tree b.value

-- a list of values as arguments
abbrev pub as_rvalues : List Rvalue → RvalueTrees
as_rvalues [] = no_rvalues
as_rvalues (e ∷ es) = and_rvalue (rvalue_tree e) (as_rvalues es)

-- ## Operands: typed expressions with their types

-- a value, its sort and its place
pub record Rated : Type 0 where
  pub value : RvalueTree
  pub sort : Sort
  pub place : Place

-- an lvalue with its type, or a value
pub data OperandTree : Type 0 where
  an_lvalue : LvalueTree → Qualified → OperandTree
  a_value : Rated → OperandTree

abbrev pub rated : Valued → Rated
rated v = record { value = rvalue_tree v.value.value; sort = v.sort; place = v.place }

abbrev pub operand_tree : Operand → OperandTree
operand_tree (Operands.Lvalue b q) = an_lvalue (lvalue_tree b.value) q
operand_tree (Operands.Value v) = a_value (rated v)
