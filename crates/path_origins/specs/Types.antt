-- What expressions give, and the types of what lvalues designate, bottom-up from the types of declarations.
use Rattle.std.specs.Prelude.{ℕ, Bool, true, false, cond, not, ◌&&◌, ◌||◌, ◌==◌, Option, Some, None}
use Rattle.tm_cint.specs.declared.int_types.IntType.{IntType}
use Rattle.tm_cint.specs.declared.int_types.IntType.TheVariants as Ints
use Rattle.tm_cint.specs.declared.operators.BinOp.{BinOp}
use Rattle.tm_cint.specs.declared.operators.BinOp.TheVariants as Ops
use Rattle.tm_terms.specs.declared.places.Place.{Place}
use Rattle.tm_typed.specs.declared.types.Qualified.{Qualified}
use Rattle.tm_typed.specs.declared.types.CType.{CType}
use Rattle.tm_typed.specs.declared.types.CType.TheVariants as Types
use Rattle.tm_typed.specs.declared.types.Scalar.{Scalar}
use Rattle.tm_typed.specs.declared.types.Scalar.TheVariants as Scalars
use Rattle.tm_typed.specs.declared.scopes.ObjectNumber.{ObjectNumber}
use Rattle.tm_typed.specs.Types.{is_enumerated}
use Rattle.tm_typed.specs.Operands.{qualified_as}
use Rattle.tm_typed.specs.Rules.{is_comparison}
use Rattle.tm_typed.specs.TypedTrees.{RvalueTree, a_constant, a_folded, a_null, a_load, an_address, a_structure}
use Rattle.tm_typed.specs.TypedTrees.{the_same, a_unary, a_binary, a_comparison_of_pointers, a_move, a_not, an_and}
use Rattle.tm_typed.specs.TypedTrees.{an_or, a_choice, an_assignment, a_compound, a_compound_move, a_unit_step}
use Rattle.tm_typed.specs.TypedTrees.{a_pointer_step, a_function_call, an_input_value, a_probe, a_comma}
use Rattle.tm_typed.specs.TypedTrees.{a_conversion, a_discard, LvalueTree, an_object, an_element, a_pointed_element}
use Rattle.tm_typed.specs.TypedTrees.{a_pointed, an_arrow, a_part, lvalue_place}
use Rattle.tm_laid.specs.TypeCells.{entry_of}
use Rattle.tm_laid.specs.Layouts.{LaidTree, callee, object_of, object_at}
use Rattle.body_builder.specs.concrete_steps.Places.{result_type, rvalue_place}
use Rattle.body_builder.specs.concrete_steps.NextAction.{function_at}
use Rattle.body_builder.specs.lowering.Table.{is_same_place}
use Rattle.source_names.specs.declared.steps.Down.{Down}
use Rattle.source_names.specs.declared.steps.Down.TheVariants as Downs
use Rattle.source_names.specs.Steps.{step_down}
use Rattle.part_extents.specs.Parts.{unenumerated}
use Rattle.path_origins.specs.declared.types.Given.{Given}
use Rattle.path_origins.specs.declared.types.Given.TheVariants as Gives

-- a type without qualifiers, by its number
abbrev pub plain : ℕ → Qualified
plain n = record { number = n; constant = false; volatile = false }

-- a number, which may be a value of an enumeration that compilers may make unsigned (C99 6.7.2.2p4)
abbrev pub number_if : Bool → Given
number_if true = Gives.Enumerated
number_if false = Gives.Number

-- what a value of the type with this number gives
abbrev pub given_by : ℕ → CType → Given
given_by n (Types.Int t) = number_if (is_enumerated n)
given_by n (Types.Pointer q) = Gives.Pointer q
given_by n _ = Gives.Nothing

-- what a cell gives: of its declared type where that tells more than its scalar
abbrev pub pointer_as : CType → Given
pointer_as (Types.Pointer q) = Gives.Cast (plain q.number)
pointer_as t = Gives.Cast (plain 0)

abbrev pub declared_as : CType → CType → Given
declared_as (Types.Pointer q) class = Gives.Pointer q
declared_as t class = pointer_as class

-- whether there is a value
abbrev pub has_value : Given → Bool
has_value Gives.Nothing = false
has_value _ = true

-- whether it is a pointer
abbrev pub is_pointer : Given → Bool
is_pointer Gives.Nothing = false
is_pointer Gives.Number = false
is_pointer Gives.Enumerated = false
is_pointer _ = true

-- whether it is a value of an enumeration that compilers may make unsigned
abbrev pub is_unsigned_by_some : Given → Bool
is_unsigned_by_some Gives.Enumerated = true
is_unsigned_by_some _ = false

-- what a pointer leads to: to the type with this number, where it does not tell
abbrev pub followed : Given → ℕ → Qualified
followed (Gives.Pointer q) n = q
followed _ n = plain n

-- to which type a pointer points
abbrev pub target_or : Given → ℕ → ℕ
target_or (Gives.Pointer q) n = q.number
target_or (Gives.Cast q) n = q.number
target_or _ n = n

-- what `?:` gives (C99 6.5.15p6)
abbrev pub chosen : Given → Given → Given
chosen Gives.Null y = y
chosen (Gives.Pointer q) (Gives.Pointer r) = Gives.Pointer (qualified_as q r)
chosen (Gives.Pointer q) (Gives.Cast r) = Gives.Cast q
chosen Gives.Number Gives.Enumerated = Gives.Enumerated
chosen x y = x

-- what a cast of a form of its own gives: one to a type of pointers, or else to an enumeration
abbrev pub cast_if : Bool → Given → Given
cast_if true (Gives.Pointer q) = Gives.Cast q
cast_if true Gives.Number = Gives.Enumerated
cast_if _ x = x

-- whether a cast of such a form is to an enumeration
abbrev pub casts_number : Bool → Given → Bool
casts_number true Gives.Number = true
casts_number true Gives.Enumerated = true
casts_number _ x = false

-- a type in which an enumeration that is unsigned makes an operator work on unsigned numbers (C99 6.3.1.8)
abbrev pub is_signed_word : IntType → Bool
is_signed_word Ints.Int = true
is_signed_word Ints.Long = true
is_signed_word _ = false

-- What a conversion gives: an implied one, which stands at the place of its operand, leaves it open whether it is
-- unsigned; a cast says it.
abbrev pub converted : IntType → Bool → Given → Given
converted t same x = number_if (same && is_signed_word t && is_unsigned_by_some x)

abbrev pub is_shift : BinOp → Bool
is_shift Ops.Shl = true
is_shift Ops.Shr = true
is_shift _ = false

-- whether one of two operands is a value of an enumeration
abbrev pub either : Given → Given → Bool
either x y = is_unsigned_by_some x || is_unsigned_by_some y

-- what an operator gives of its operands: a comparison an `int`, a shift what its left operand is (C99 6.5.7p3)
abbrev pub computed : BinOp → Given → Given → Given
computed op x y =
    cond (is_comparison op) Gives.Number
    (cond (is_shift op) (number_if (is_unsigned_by_some x)) (number_if (either x y)))

-- whether a type is that of pointers to another type than the given one: to one without `const`, or to one that differs
-- below (C99 6.5.16.1p1); a cast may give anything. Enumerations are `int` here.
abbrev pub differs : Given → CType → Bool
differs (Gives.Pointer from) (Types.Pointer to) =
    (from.constant && not to.constant) || not (unenumerated from.number == unenumerated to.number)
differs _ t = false

-- The signs `(` of the source stand at these places: there stand casts.
module _ (laid : LaidTree) (is_open : Place → Bool) (path : ℕ) where
  abbrev pub ctype_at : ℕ → CType
  ctype_at n = (entry_of laid.file n).ctype

  abbrev pub held_by : Scalar → Qualified → Given
  held_by (Scalars.Int t) q = number_if (is_enumerated q.number)
  held_by (Scalars.Pointer class) q = declared_as (ctype_at q.number) (ctype_at class)

  -- the part in which a step goes down
  abbrev pub part_of : Option Down → Qualified
  part_of None = plain 0
  part_of (Some (Downs.Element index length inside)) = inside.of
  part_of (Some (Downs.Member name inside)) = inside.of

  -- a member has the qualifiers of its structure too (C99 6.5.2.3p3)
  abbrev pub member_at : Qualified → ℕ → Qualified
  member_at q cell = part_of (step_down laid.file (record { of = q; cell = cell }))

  abbrev pub element_by : CType → Qualified → Qualified
  element_by (Types.Array e n) q = record q { number = e }
  element_by _ q = q

  abbrev pub element_of : Qualified → Qualified
  element_of q = element_by (ctype_at q.number) q

  abbrev pub object_type : ObjectNumber → Qualified
  object_type o = (object_at laid (object_of laid path o)).of

  -- `&e`, or where no `&` stands, the first element of an array (C99 6.3.2.1p3)
  abbrev pub pointer_to : Bool → CType → Qualified → Given
  pointer_to true (Types.Array e n) q = Gives.Pointer (record q { number = e })
  pointer_to _ t q = Gives.Pointer q

  abbrev mutual
    -- what an expression gives
    pub given : RvalueTree → Given
    given (a_constant t z p) = Gives.Number
    given (a_folded z e) = Gives.Number
    given (a_null p) = Gives.Null
    given (a_load s v l) = held_by s (type_of l)
    given (an_address l p) = pointer_to (is_same_place p (lvalue_place l)) (ctype_at (type_of l).number) (type_of l)
    given (a_structure l) = Gives.Nothing
    given (the_same e p) = cast_if (is_open p) (given e)
    given (a_unary o t e p) = number_if (is_unsigned_by_some (given e))
    given (a_binary o t l r p) = computed o (given l) (given r)
    given (a_comparison_of_pointers q l r p) = Gives.Number
    given (a_move m c f e i p) = given e
    given (a_not e p) = Gives.Number
    given (an_and l r p) = Gives.Number
    given (an_or l r p) = Gives.Number
    given (a_choice c x y p) = chosen (given x) (given y)
    given (an_assignment s l e p) = held_by s (type_of l)
    given (a_compound o c t v l e p) = held_by (Scalars.Int c) (type_of l)
    given (a_compound_move m c k l e p) = held_by (Scalars.Pointer k) (type_of l)
    given (a_unit_step s c t v l p) = held_by (Scalars.Int c) (type_of l)
    given (a_pointer_step s c k l p) = held_by (Scalars.Pointer k) (type_of l)
    given (a_function_call f s es p) =
        let g = function_at laid (callee laid path s) in given_by g.result (result_type laid g)
    given (an_input_value low high p) = Gives.Number
    given (a_probe m p) = Gives.Number
    given (a_comma l r p) = given r
    given (a_conversion f t e p) = converted t (is_same_place p (rvalue_place e)) (given e)
    given (a_discard e p) = Gives.Nothing

    -- the type of what an lvalue designates
    pub type_of : LvalueTree → Qualified
    type_of (an_object o p) = object_type o
    type_of (an_element l i n c p) = element_of (type_of l)
    type_of (a_pointed_element e i c t p) = followed (given e) t
    type_of (a_pointed e t p) = followed (given e) t
    type_of (an_arrow e t c p) = member_at (followed (given e) t) c
    type_of (a_part l c p) = member_at (type_of l) c
