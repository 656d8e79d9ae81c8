-- What the form of an expression tells: its place, and whether its value is a pointer.
use Rattle.std.specs.Prelude.{Bool, true, false, get_or}
use Rattle.tm_terms.specs.declared.places.Place.{Place}
use Rattle.concrete_values.specs.tm_typed.TypedTrees.{RvalueTree, a_constant, a_folded, a_null, a_load, an_address}
use Rattle.concrete_values.specs.tm_typed.TypedTrees.{a_structure}
use Rattle.concrete_values.specs.tm_typed.TypedTrees.{the_same, a_unary, a_binary, a_comparison_of_pointers, a_move}
use Rattle.concrete_values.specs.tm_typed.TypedTrees.{a_not, an_and}
use Rattle.concrete_values.specs.tm_typed.TypedTrees.{an_or, a_choice, an_assignment, a_compound, a_compound_move}
use Rattle.concrete_values.specs.tm_typed.TypedTrees.{a_unit_step}
use Rattle.concrete_values.specs.tm_typed.TypedTrees.{a_pointer_step, a_function_call, an_input_value, a_probe, a_comma}
use Rattle.concrete_values.specs.tm_typed.TypedTrees.{a_conversion}
use Rattle.concrete_values.specs.tm_typed.TypedTrees.{a_discard, lvalue_place}
use Rattle.concrete_values.specs.tm_typed.declared.types.CType.{CType}
pub use Rattle.concrete_values.specs.tm_typed.Types.{is_pointer_scalar}
use Rattle.concrete_values.specs.tm_typed.TypeRows.{is_pointer_type}
use Rattle.concrete_values.specs.tm_typed.Files.{TypedFunctionTree, no_typed_function}
use Rattle.concrete_values.specs.tm_laid.TypeCells.{entry_of}
use Rattle.concrete_values.specs.tm_laid.Layouts.{LaidTree}

-- that of its operator, or of the name or constant
abbrev pub rvalue_place : RvalueTree → Place
rvalue_place (a_constant t z p) = p
rvalue_place (a_folded z e) = rvalue_place e
rvalue_place (a_null p) = p
rvalue_place (a_load s v l) = lvalue_place l
rvalue_place (an_address l p) = p
rvalue_place (a_structure l) = lvalue_place l
rvalue_place (the_same e p) = p
rvalue_place (a_unary o t e p) = p
rvalue_place (a_binary o t l r p) = p
rvalue_place (a_comparison_of_pointers q l r p) = p
rvalue_place (a_move m c f e i p) = p
rvalue_place (a_not e p) = p
rvalue_place (an_and l r p) = p
rvalue_place (an_or l r p) = p
rvalue_place (a_choice c x y p) = p
rvalue_place (an_assignment s l e p) = p
rvalue_place (a_compound o c t v l e p) = p
rvalue_place (a_compound_move m c k l e p) = p
rvalue_place (a_unit_step s c t v l p) = p
rvalue_place (a_pointer_step s c k l p) = p
rvalue_place (a_function_call f s es p) = p
rvalue_place (an_input_value low high p) = p
rvalue_place (a_probe m p) = p
rvalue_place (a_comma l r p) = p
rvalue_place (a_conversion f t e p) = p
rvalue_place (a_discard e p) = p

-- the type of a function's result
abbrev pub result_type : LaidTree → TypedFunctionTree → CType
result_type laid f = (entry_of laid.file f.result).ctype

-- whether its value is a pointer
abbrev pub gives_pointer : LaidTree → RvalueTree → Bool
gives_pointer laid (a_folded z e) = gives_pointer laid e
gives_pointer laid (a_null p) = true
gives_pointer laid (a_load s v l) = is_pointer_scalar s
gives_pointer laid (an_address l p) = true
gives_pointer laid (the_same e p) = gives_pointer laid e
gives_pointer laid (a_move m c f e i p) = true
gives_pointer laid (a_choice c x y p) = gives_pointer laid x
gives_pointer laid (an_assignment s l e p) = is_pointer_scalar s
gives_pointer laid (a_compound_move m c k l e p) = true
gives_pointer laid (a_pointer_step s c k l p) = true
gives_pointer laid (a_function_call f s es p) = is_pointer_type
    (result_type laid (get_or laid.file.functions f no_typed_function))
gives_pointer laid (a_comma l r p) = gives_pointer laid r
gives_pointer laid _ = false
