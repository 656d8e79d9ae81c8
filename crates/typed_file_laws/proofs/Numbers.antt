-- The numbers of well-formed expressions are numbers of integer types.
use Rattle.std.proofs.Common.{ℕ, List, [], ◌∷◌, ◌++◌}
use Rattle.std.specs.Prelude.{All, ℤ}
use Rattle.std.proofs.lemmas.List.Elements.{All-nil, All-cons, All-append}
use Rattle.tm_laid.specs.tm_cint.declared.int_types.IntType.{IntType}
use Rattle.tm_laid.specs.tm_cint.declared.int_types.IntType.TheVariants as Ints
use Rattle.tm_laid.specs.tm_cint.IntTypes.{IsIn}
use Rattle.tm_laid.specs.tm_typed.TypedTrees.{RvalueTree, a_constant, a_folded, a_null, a_load, an_address, a_structure}
use Rattle.tm_laid.specs.tm_typed.TypedTrees.{the_same, a_unary, a_binary, a_comparison_of_pointers, a_move, a_not}
use Rattle.tm_laid.specs.tm_typed.TypedTrees.{an_and, an_or, a_choice, an_assignment, a_compound, a_compound_move}
use Rattle.tm_laid.specs.tm_typed.TypedTrees.{a_unit_step, a_pointer_step, a_function_call, an_input_value, a_probe}
use Rattle.tm_laid.specs.tm_typed.TypedTrees.{a_comma, a_conversion, a_discard, LvalueTree, an_object, an_element}
use Rattle.tm_laid.specs.tm_typed.TypedTrees.{a_pointed_element, a_pointed, an_arrow, a_part, RvalueTrees, no_rvalues}
use Rattle.tm_laid.specs.tm_typed.TypedTrees.{and_rvalue, OperandTree, an_lvalue, a_value}
use Rattle.tm_laid.specs.tm_typed.Constants.{constants_of, lvalue_constants, all_constants, operand_constants}
use Rattle.tm_laid.specs.tm_typed.WellTyped.{ValueKind, a_number, a_pointer, kind_of, kind_of_scalar, Context, IsRvalue}
use Rattle.tm_laid.specs.tm_typed.WellTyped.{IsLvalue, AreArguments, IsOperand}
use Rattle.typed_file_laws.specs.Lawful.{IsNumber}

abbrev Numbers : List ℤ → Type 0
Numbers zs = All IsNumber zs

none : Numbers []
none = All-nil IsNumber

one : (t : IntType) (z : ℤ) → IsIn t z → Numbers (z ∷ [])
one t z h = All-cons IsNumber z [] (record { type = t; within = h }) none

both : (xs ys : List ℤ) → Numbers xs → Numbers ys → Numbers (xs ++ ys)
both xs ys h k = All-append IsNumber xs ys h k

mutual
  pub rvalue_numbers : (w : Context) (k : ValueKind) (e : RvalueTree) → IsRvalue w k e → Numbers (constants_of e)
  rvalue_numbers w k (a_constant t z p) h = one t z h.1
  rvalue_numbers w k (a_folded z e) h = one Ints.Int z h.1
  rvalue_numbers w k (a_null p) h = none
  rvalue_numbers w k (a_load s v l) h = lvalue_numbers w h.0 l h.3
  rvalue_numbers w k (an_address l p) h = lvalue_numbers w h.0 l h.2
  rvalue_numbers w k (a_structure l) h = lvalue_numbers w h.0 l h.2
  rvalue_numbers w k (the_same e p) h = rvalue_numbers w k e h
  rvalue_numbers w k (a_unary o t e p) h = rvalue_numbers w (a_number t) e h.1
  rvalue_numbers w k (a_binary o t l r p) h = both (constants_of l) (constants_of r) (rvalue_numbers w (a_number t) l h.3) (rvalue_numbers w (a_number h.0) r h.4)
  rvalue_numbers w k (a_comparison_of_pointers b l r p) h = both (constants_of l) (constants_of r) (rvalue_numbers w a_pointer l h.1) (rvalue_numbers w a_pointer r h.2)
  rvalue_numbers w k (a_move m c f e i p) h = both (constants_of e) (constants_of i) (rvalue_numbers w a_pointer e h.2) (rvalue_numbers w (a_number h.0) i h.3)
  rvalue_numbers w k (a_not e p) h = rvalue_numbers w h.0 e h.3
  rvalue_numbers w k (an_and l r p) h = both (constants_of l) (constants_of r) (rvalue_numbers w h.0 l h.5) (rvalue_numbers w h.1 r h.6)
  rvalue_numbers w k (an_or l r p) h = both (constants_of l) (constants_of r) (rvalue_numbers w h.0 l h.5) (rvalue_numbers w h.1 r h.6)
  rvalue_numbers w k (a_choice c x y p) h =
      both (constants_of c) (constants_of x ++ constants_of y) (rvalue_numbers w h.0 c h.2)
      (both (constants_of x) (constants_of y) (rvalue_numbers w k x h.3) (rvalue_numbers w k y h.4))
  rvalue_numbers w k (an_assignment s l e p) h = both (lvalue_constants l) (constants_of e) (lvalue_numbers w h.0 l h.3) (rvalue_numbers w k e h.4)
  rvalue_numbers w k (a_compound o c t v l e p) h = both (lvalue_constants l) (constants_of e) (lvalue_numbers w h.0 l h.5) (rvalue_numbers w (a_number h.1) e h.6)
  rvalue_numbers w k (a_compound_move m c n l e p) h = both (lvalue_constants l) (constants_of e) (lvalue_numbers w h.0 l h.4) (rvalue_numbers w (a_number h.1) e h.5)
  rvalue_numbers w k (a_unit_step s c t v l p) h = lvalue_numbers w h.0 l h.3
  rvalue_numbers w k (a_pointer_step s c n l p) h = lvalue_numbers w h.0 l h.3
  rvalue_numbers w k (a_function_call f s es p) h = all_numbers w h.0.parameters es h.3
  rvalue_numbers w k (an_input_value low high p) h = All-cons IsNumber low (high ∷ []) (record { type = Ints.Int; within = h.1 }) (one Ints.Int high h.2)
  rvalue_numbers w k (a_probe m p) h = none
  rvalue_numbers w k (a_comma l r p) h = both (constants_of l) (constants_of r) (rvalue_numbers w h.0 l h.1) (rvalue_numbers w k r h.2)
  rvalue_numbers w k (a_conversion f t e p) h = rvalue_numbers w (a_number f) e h.1
  rvalue_numbers w k (a_discard e p) h = rvalue_numbers w h.0 e h.2

  pub lvalue_numbers : (w : Context) (n : ℕ) (l : LvalueTree) → IsLvalue w n l → Numbers (lvalue_constants l)
  lvalue_numbers w n (an_object o p) h = none
  lvalue_numbers w n (an_element l i m c p) h = both (lvalue_constants l) (constants_of i) (lvalue_numbers w h.0 l h.5) (rvalue_numbers w (a_number h.1) i h.6)
  lvalue_numbers w n (a_pointed_element e i c m p) h = both (constants_of e) (constants_of i) (rvalue_numbers w a_pointer e h.4) (rvalue_numbers w (a_number h.0) i h.5)
  lvalue_numbers w n (a_pointed e m p) h = rvalue_numbers w a_pointer e h.2
  lvalue_numbers w n (an_arrow e m c p) h = rvalue_numbers w a_pointer e h.3
  lvalue_numbers w n (a_part l c p) h = lvalue_numbers w h.0 l h.4

  pub all_numbers : (w : Context) (ns : List ℕ) (es : RvalueTrees) → AreArguments w ns es → Numbers (all_constants es)
  all_numbers w ns no_rvalues h = none
  all_numbers w [] (and_rvalue e es) h = absurd h
  all_numbers w (n ∷ ns) (and_rvalue e es) h = both (constants_of e) (all_constants es) (rvalue_numbers w (kind_of_scalar h.0) e h.2) (all_numbers w ns es h.3)

pub operand_numbers : (w : Context) (o : OperandTree) → IsOperand w o → Numbers (operand_constants o)
operand_numbers w (an_lvalue l q) h = lvalue_numbers w q.number l h
operand_numbers w (a_value v) h = rvalue_numbers w (kind_of v.sort) v.value h.0
