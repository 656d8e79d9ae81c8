-- The values of the maximal folded expressions of a typed expression, and the bounds of its `__input`s: numbers near
-- which an analysis may look more closely.
use Rattle.std.specs.Prelude.{ℤ, List, [], ◌∷◌, ◌++◌}
use Rattle.tm_typed.specs.TypedTrees.{RvalueTree, a_constant, a_folded, a_null, a_load, an_address, a_structure}
use Rattle.tm_typed.specs.TypedTrees.{the_same, a_unary, a_binary, a_comparison_of_pointers, a_move, a_not, an_and}
use Rattle.tm_typed.specs.TypedTrees.{an_or, a_choice, an_assignment, a_compound, a_compound_move, a_unit_step}
use Rattle.tm_typed.specs.TypedTrees.{a_pointer_step, a_function_call, an_input_value, a_probe, a_comma, a_conversion}
use Rattle.tm_typed.specs.TypedTrees.{a_discard, LvalueTree, an_object, an_element, a_pointed_element, a_pointed}
use Rattle.tm_typed.specs.TypedTrees.{an_arrow, a_part, RvalueTrees, no_rvalues, and_rvalue, OperandTree, an_lvalue}
use Rattle.tm_typed.specs.TypedTrees.{a_value}

abbrev mutual
  pub constants_of : RvalueTree → List ℤ
  constants_of (a_constant t z p) = z ∷ []
  constants_of (a_folded z e) = z ∷ []
  constants_of (a_null p) = []
  constants_of (a_load s v l) = lvalue_constants l
  constants_of (an_address l p) = lvalue_constants l
  constants_of (a_structure l) = lvalue_constants l
  constants_of (the_same e p) = constants_of e
  constants_of (a_unary o t e p) = constants_of e
  constants_of (a_binary o t l r p) = constants_of l ++ constants_of r
  constants_of (a_comparison_of_pointers b l r p) = constants_of l ++ constants_of r
  constants_of (a_move m c f e i p) = constants_of e ++ constants_of i
  constants_of (a_not e p) = constants_of e
  constants_of (an_and l r p) = constants_of l ++ constants_of r
  constants_of (an_or l r p) = constants_of l ++ constants_of r
  constants_of (a_choice c x y p) = constants_of c ++ (constants_of x ++ constants_of y)
  constants_of (an_assignment s l e p) = lvalue_constants l ++ constants_of e
  constants_of (a_compound o c t v l e p) = lvalue_constants l ++ constants_of e
  constants_of (a_compound_move m c k l e p) = lvalue_constants l ++ constants_of e
  constants_of (a_unit_step s c t v l p) = lvalue_constants l
  constants_of (a_pointer_step s c k l p) = lvalue_constants l
  constants_of (a_function_call f site es p) = all_constants es
  constants_of (an_input_value low high p) = low ∷ high ∷ []
  constants_of (a_probe m p) = []
  constants_of (a_comma l r p) = constants_of l ++ constants_of r
  constants_of (a_conversion f t e p) = constants_of e
  constants_of (a_discard e p) = constants_of e

  pub lvalue_constants : LvalueTree → List ℤ
  lvalue_constants (an_object o p) = []
  lvalue_constants (an_element l i n c p) = lvalue_constants l ++ constants_of i
  lvalue_constants (a_pointed_element e i c t p) = constants_of e ++ constants_of i
  lvalue_constants (a_pointed e t p) = constants_of e
  lvalue_constants (an_arrow e t c p) = constants_of e
  lvalue_constants (a_part l c p) = lvalue_constants l

  pub all_constants : RvalueTrees → List ℤ
  all_constants no_rvalues = []
  all_constants (and_rvalue e es) = constants_of e ++ all_constants es

abbrev pub operand_constants : OperandTree → List ℤ
operand_constants (an_lvalue l q) = lvalue_constants l
operand_constants (a_value v) = constants_of v.value
