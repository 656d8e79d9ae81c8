-- The rules of expressions, construct by construct: which row a construct meets whose parts are typed, or else its
-- typed form. Rows are looked at in the order in which they stand.
use Rattle.std.specs.Prelude.{ℕ, ℤ, pos, negsuc, ◌-ℤ◌, Bool, true, false, cond, not, ◌&&◌, ◌||◌, int_le, List, [], ◌∷◌}
use Rattle.std.specs.Prelude.{slice_get, find, Option, Some, None, Result, Ok, Err}
use Rattle.tm_trees.specs.tm_cint.declared.int_types.IntType.{IntType}
use Rattle.tm_trees.specs.tm_cint.declared.int_types.IntType.TheVariants as Ints
use Rattle.tm_trees.specs.tm_cint.declared.operators.BinOp.{BinOp}
use Rattle.tm_trees.specs.tm_cint.declared.operators.BinOp.TheVariants as Ops
use Rattle.tm_trees.specs.tm_cint.declared.Class.{Class}
use Rattle.tm_trees.specs.tm_cint.IntTypes.{is_in}
use Rattle.tm_trees.specs.tm_cint.Conversions.{promoted_type, usual_type, converted_value, is_zero, truth}
use Rattle.tm_trees.specs.tm_cint.Operators.{outcome, IsRightOperand}
use Rattle.tm_trees.specs.tm_terms.declared.places.Place.{Place}
use Rattle.tm_trees.specs.tm_terms.declared.tokens.Name.{Name}
use Rattle.tm_trees.specs.tm_terms.declared.tokens.IntConstant.{IntConstant}
use Rattle.tm_trees.specs.tm_terms.declared.tokens.Longs.{Longs}
use Rattle.tm_trees.specs.tm_terms.declared.tokens.Longs.TheVariants as Suffix
use Rattle.tm_trees.specs.tm_terms.declared.refusals.Kind.{Kind}
use Rattle.tm_trees.specs.tm_terms.declared.refusals.Kind.TheVariants as Kinds
use Rattle.tm_trees.specs.tm_terms.declared.refusals.Refusal.{Refusal}
use Rattle.tm_typed.specs.declared.types.Qualified.{Qualified}
use Rattle.tm_typed.specs.declared.types.CType.{CType}
use Rattle.tm_typed.specs.declared.types.CType.TheVariants as Types
use Rattle.tm_typed.specs.declared.types.TypeEntry.{TypeEntry}
pub use Rattle.tm_typed.specs.declared.types.CastType.{CastType}
use Rattle.tm_typed.specs.declared.scopes.Named.{Named}
use Rattle.tm_typed.specs.declared.scopes.Named.TheVariants as Names
use Rattle.tm_typed.specs.declared.scopes.Member.{Member}
use Rattle.tm_typed.specs.declared.scopes.Part.{Part}
use Rattle.tm_typed.specs.declared.expressions.Step.{Step}
use Rattle.tm_typed.specs.declared.expressions.Unary.TheVariants as Unaries
use Rattle.tm_typed.specs.declared.operands.Fold.{Fold}
use Rattle.tm_typed.specs.declared.operands.Fold.TheVariants as Folds
use Rattle.tm_typed.specs.declared.operands.Sort.{Sort}
use Rattle.tm_typed.specs.declared.operands.Sort.TheVariants as Sorts
use Rattle.tm_typed.specs.Types.{bytes_of, is_enumerated}
use Rattle.tm_typed.specs.Scopes.{Scope, Function, entry, ctype_of, is_complete, cells_of, size_of, structure}
use Rattle.tm_typed.specs.Scopes.{is_same_type, member_of}
use Rattle.tm_typed.specs.TypedTrees.{RvalueTree, a_constant, a_null, an_address, the_same, a_unary, a_binary}
use Rattle.tm_typed.specs.TypedTrees.{a_comparison_of_pointers, a_move, a_not, an_and, an_or, a_choice, an_assignment}
use Rattle.tm_typed.specs.TypedTrees.{a_compound, a_compound_move, a_unit_step, a_pointer_step, a_function_call}
use Rattle.tm_typed.specs.TypedTrees.{an_input_value, a_probe, a_comma, a_conversion, a_discard, LvalueTree, an_object}
use Rattle.tm_typed.specs.TypedTrees.{an_element, a_pointed_element, a_pointed, an_arrow, a_part, RvalueTrees}
use Rattle.tm_typed.specs.TypedTrees.{no_rvalues, and_rvalue, lvalue_place, Rated, OperandTree, an_lvalue, a_value}
use Rattle.tm_typed.specs.Refusals.{refused, row, row_unless}
use Rattle.tm_typed.specs.Operands.{fold_of, is_condition, is_structure, is_integer, is_pointer, is_null}
use Rattle.tm_typed.specs.Operands.{is_void_pointer, unbuilt, qualified_as, made, integer_made, truth_made, converted}
use Rattle.tm_typed.specs.Operands.{fold_converted, loaded, is_taken, pointer_given, given, scalar_of, kept_sort}

-- ## Names (C99 6.5.1)

abbrev pub name_rules : Place → Option Named → Result OperandTree Refusal
-- a name without declaration in scope; the name of a type is none of an expression
name_rules p None = refused Kinds.Undeclared p
name_rules p (Some (Names.Alias q)) = refused Kinds.Undeclared p
-- a mutex outside its own words
name_rules p (Some (Names.Mutex m)) = refused Kinds.Mismatch p
-- a function or a task that is not called
name_rules p (Some (Names.Function f)) = refused Kinds.Unsupported p
name_rules p (Some Names.Task) = refused Kinds.Unsupported p
-- an enumeration constant is an `int` (C99 6.4.4.3)
name_rules p (Some (Names.Enumerator z)) = integer_made Ints.Int (Folds.Value z) (a_constant Ints.Int z p) p
-- an object is an lvalue
name_rules p (Some (Names.Object o q)) = Ok (an_lvalue (an_object o p) q)

-- ## Constants (C99 6.4.4)

-- the types that are tried for an integer constant, in order (C99 6.4.4.1): of one in decimal, of one with u, and with
-- how many l
abbrev pub candidates : Bool → Bool → Longs → List IntType
candidates true false Suffix.None = Ints.Int ∷ Ints.Long ∷ Ints.LLong ∷ []
candidates false false Suffix.None = Ints.Int ∷ Ints.UInt ∷ Ints.Long ∷ Ints.ULong ∷ Ints.LLong ∷ Ints.ULLong ∷ []
candidates decimal true Suffix.None = Ints.UInt ∷ Ints.ULong ∷ Ints.ULLong ∷ []
candidates true false Suffix.One = Ints.Long ∷ Ints.LLong ∷ []
candidates false false Suffix.One = Ints.Long ∷ Ints.ULong ∷ Ints.LLong ∷ Ints.ULLong ∷ []
candidates decimal true Suffix.One = Ints.ULong ∷ Ints.ULLong ∷ []
candidates true false Suffix.Two = Ints.LLong ∷ []
candidates false false Suffix.Two = Ints.LLong ∷ Ints.ULLong ∷ []
candidates decimal true Suffix.Two = Ints.ULLong ∷ []

-- the type of an integer constant: the first of its list that has the value
abbrev pub constant_type : IntConstant → Option IntType
constant_type c = find (λ t. is_in t (pos c.value)) (candidates c.decimal c.unsigned c.longs)

-- a constant that no type of its list holds
abbrev pub constant_rules : IntConstant → Place → Result OperandTree Refusal
constant_rules c p = row_unless (constant_type c) Kinds.Unsupported p
    (λ t. integer_made t (Folds.Value (pos c.value)) (a_constant t (pos c.value) p) p)

-- a character constant is an `int` with the value of a `char`, which is signed (C99 6.4.4.4)
abbrev pub character_rules : ℤ → Place → Result OperandTree Refusal
character_rules z p = let v = converted_value z Ints.Char in
    made (a_constant Ints.Int v p) (Sorts.Integer Ints.Int (Folds.Value v)) p

-- ## `__input`, `__islocked`

abbrev pub folded_in_int : Fold → Option ℤ
folded_in_int (Folds.Value z) = cond (is_in Ints.Int z) (Some z) None
folded_in_int _ = None

-- a bound of `__input` that is not folded to a value of `int`
abbrev pub bound : Rated → Result ℤ Refusal
bound v = row_unless (folded_in_int (fold_of v.sort)) Kinds.NotConstant v.place (λ z. Ok z)

-- the lower bound is above the upper one
abbrev pub input_rules : Place → ℤ → ℤ → Result OperandTree Refusal
input_rules p low high =
    row (not (int_le low high)) Kinds.NotConstant p
    (made (an_input_value low high p) (Sorts.Integer Ints.Int Folds.Unbuilt) p)

abbrev pub islocked_rules : Place → Place → Option Named → Result OperandTree Refusal
-- a name without declaration, at the name
islocked_rules p q None = refused Kinds.Undeclared q
-- it gives an `int`, which is not folded
islocked_rules p q (Some (Names.Mutex m)) = made (a_probe m p) (Sorts.Integer Ints.Int Folds.Unbuilt) p
-- another name than of a mutex
islocked_rules p q (Some _) = refused Kinds.Mismatch q

-- ## Unary operators (C99 6.5.3)

-- `&*e` is `e`, and `&e[i]` is `e + i` (C99 6.5.3.2)
abbrev pub address_value : LvalueTree → Place → RvalueTree
address_value (a_pointed e t q) p = the_same e p
address_value (a_pointed_element e i c t q) p = a_move false c false e i q
address_value (an_element l i n c q) p = a_move false c false (an_address l (lvalue_place l)) i q
address_value l p = an_address l p

abbrev pub address_rules : Place → OperandTree → Result OperandTree Refusal
-- `&` of no lvalue
address_rules p (a_value v) = refused Kinds.NotLvalue p
-- a pointer to the operand's type (C99 6.5.3.2)
address_rules p (an_lvalue l q) = made (address_value l p) (Sorts.Pointer q) p

abbrev pub dereference_rules : Scope → Place → Rated → Sort → Result OperandTree Refusal
-- of a pointer, to a type whose size is known (C99 6.5.3.2)
dereference_rules scope p v (Sorts.Pointer q) =
    row (not (is_complete scope q.number)) Kinds.Mismatch p (Ok (an_lvalue (a_pointed v.value q.number p) q))
dereference_rules scope p v _ = refused Kinds.Mismatch p

abbrev pub not_fold : Fold → Fold
not_fold (Folds.Value z) = Folds.Value (truth (is_zero z))
not_fold f = f

-- `!` of a scalar gives an `int` (C99 6.5.3.3)
abbrev pub not_rules : Place → Rated → Result OperandTree Refusal
not_rules p v = row (not (is_condition v.sort)) Kinds.Mismatch p
    (truth_made (not_fold (fold_of v.sort)) (a_not v.value p) p)

abbrev pub fold_outcome : Result ℤ Class → Fold
fold_outcome (Ok z) = Folds.Value z
fold_outcome (Err c) = Folds.Faulty

abbrev pub minus_fold : IntType → Fold → Fold
minus_fold t (Folds.Value z) = fold_outcome (outcome Ops.Sub t (pos 0) (converted_value z t))
minus_fold t f = f

-- `-` of an integer, in its promoted type (C99 6.5.3.3)
abbrev pub minus_rules : Place → Rated → Sort → Result OperandTree Refusal
minus_rules p v (Sorts.Integer t f) =
    let u = promoted_type t in integer_made u (minus_fold u f) (a_unary Unaries.Negate u (converted t u v) p) p
minus_rules p v _ = refused Kinds.Mismatch p

-- in two's complement `~z` is -1 - z, in an unsigned type modulo 2^N
abbrev pub complement_fold : IntType → Fold → Fold
complement_fold t (Folds.Value z) = Folds.Value (converted_value (negsuc 0 -ℤ z) t)
complement_fold t f = f

-- `~` of an integer, in its promoted type (C99 6.5.3.3)
abbrev pub complement_rules : Place → Rated → Sort → Result OperandTree Refusal
complement_rules p v (Sorts.Integer t f) =
    let u = promoted_type t in integer_made u (complement_fold u f) (a_unary Unaries.Complement u (converted t u v) p) p
complement_rules p v _ = refused Kinds.Mismatch p

-- `+` of an integer: its value in its promoted type (C99 6.5.3.3)
abbrev pub plus_rules : Place → Rated → Sort → Result OperandTree Refusal
plus_rules p v (Sorts.Integer t f) =
    let u = promoted_type t in integer_made u f (the_same (converted t u v) p) p
plus_rules p v _ = refused Kinds.Mismatch p

-- ## `sizeof` (C99 6.5.3.4)

-- a constant of type `unsigned int`
abbrev pub size_made : ℕ → Place → Result OperandTree Refusal
size_made n p = made (a_constant Ints.UInt (pos n) p) (Sorts.Integer Ints.UInt (Folds.Value (pos n))) p

-- of a type whose size is known
abbrev pub sizeof_type_rules : Scope → Place → ℕ → Result OperandTree Refusal
sizeof_type_rules scope p n = row (not (is_complete scope n)) Kinds.Mismatch p (size_made (size_of scope n) p)

-- of an expression: the size of its type; a pointer has 4 bytes
abbrev pub sizeof_sort : Scope → Place → Sort → Result OperandTree Refusal
sizeof_sort scope p (Sorts.Integer t f) = size_made (bytes_of t) p
sizeof_sort scope p (Sorts.Pointer q) = size_made 4 p
sizeof_sort scope p Sorts.Null = size_made 4 p
sizeof_sort scope p (Sorts.Structure k) = size_made (structure scope k).size p
sizeof_sort scope p Sorts.Nothing = refused Kinds.Mismatch p

-- the operand is not evaluated, and an array stays one (C99 6.3.2.1)
abbrev pub sizeof_rules : Scope → Place → OperandTree → Result OperandTree Refusal
sizeof_rules scope p (an_lvalue l q) = sizeof_type_rules scope p q.number
sizeof_rules scope p (a_value v) = sizeof_sort scope p v.sort

-- ## Binary operators (C99 6.5.5 to 6.5.12)

abbrev pub is_shift : BinOp → Bool
is_shift Ops.Shl = true
is_shift Ops.Shr = true
is_shift _ = false

abbrev pub is_comparison : BinOp → Bool
is_comparison Ops.Lt = true
is_comparison Ops.Le = true
is_comparison Ops.Gt = true
is_comparison Ops.Ge = true
is_comparison Ops.Eq = true
is_comparison Ops.Ne = true
is_comparison _ = false

-- the type in which an operator works: the common type of both operands (C99 6.3.1.8), for a shift that of the promoted
-- left one (C99 6.5.7)
unfoldable pub working_type : BinOp → IntType → IntType → IntType
working_type op a b = cond (is_shift op) (promoted_type a) (usual_type a b)

-- the type of its right operand, where it works in the type t
unfoldable pub right_type : BinOp → IntType → IntType → IntType
right_type op t b = cond (is_shift op) (promoted_type b) t

-- what is converted to u may stand at the right of the operator that works in the type t
pub record FitsRight (op : BinOp) (t u : IntType) : Type 0 where
  pub fits : (z : ℤ) → IsRightOperand op t (converted_value z u)

-- Both parts are evaluated: the fold is unbuilt where one of them is, else faulty where one of them or the operator has
-- an error.
abbrev pub both_folds : (ℤ → ℤ → Fold) → Fold → Fold → Fold
both_folds k Folds.Unbuilt b = Folds.Unbuilt
both_folds k Folds.Faulty Folds.Unbuilt = Folds.Unbuilt
both_folds k Folds.Faulty b = Folds.Faulty
both_folds k (Folds.Value a) Folds.Unbuilt = Folds.Unbuilt
both_folds k (Folds.Value a) Folds.Faulty = Folds.Faulty
both_folds k (Folds.Value a) (Folds.Value b) = k a b

-- what the operator gives in the type t, the right value being converted to u
unfoldable pub values_fold : BinOp → IntType → IntType → ℤ → ℤ → Fold
values_fold op t u a b = fold_outcome (outcome op t (converted_value a t) (converted_value b u))

abbrev pub binary_fold : BinOp → IntType → IntType → Fold → Fold → Fold
binary_fold op t u a b = both_folds (values_fold op t u) a b

abbrev pub binary_made : BinOp → IntType → Fold → RvalueTree → Place → Result OperandTree Refusal
binary_made op t f value p = cond (is_comparison op) (truth_made f value p) (integer_made t f value p)

-- the operator between operands that are converted to t and u
abbrev pub binary_typed : BinOp → IntType → IntType → Place → Rated → IntType → Fold → Rated → IntType → Fold
    → Result OperandTree Refusal
binary_typed op t u p l a f r b g =
    binary_made op t (binary_fold op t u f g) (a_binary op t (converted a t l) (converted b u r) p) p

-- integers with integers under every operator
abbrev pub integers_rules : BinOp → Place → Rated → IntType → Fold → Rated → IntType → Fold → Result OperandTree Refusal
integers_rules op p l a f r b g =
    binary_typed op (working_type op a b) (right_type op (working_type op a b) b) p l a f r b g

-- two pointers of one type, or one and a null constant: both, and their common type
pub record Pair : Type 0 where
  pub left : RvalueTree
  pub right : RvalueTree
  pub common : Sort

abbrev pub pair : RvalueTree → RvalueTree → Sort → Option Pair
pair l r s = Some (record { left = l; right = r; common = s })

abbrev pub paired : Scope → Rated → Sort → Rated → Sort → Option Pair
-- two pointers to the same type; what both are of has the qualifiers of both targets (C99 6.5.15)
paired scope l (Sorts.Pointer q) r (Sorts.Pointer s) =
    cond (is_same_type scope q.number s.number) (pair l.value r.value (Sorts.Pointer (qualified_as q s))) None
-- a pointer and a null constant: the null pointer of its type
paired scope l (Sorts.Pointer q) r s = cond (is_null s) (pair l.value (a_null r.place) (Sorts.Pointer q)) None
paired scope l Sorts.Null r (Sorts.Pointer q) = pair (a_null l.place) r.value (Sorts.Pointer q)
paired scope l Sorts.Null r s = cond (is_null s) (pair l.value (a_null r.place) Sorts.Null) None
paired scope l s r (Sorts.Pointer q) = cond (is_null s) (pair (a_null l.place) r.value (Sorts.Pointer q)) None
paired scope l s r Sorts.Null = cond (is_null s) (pair (a_null l.place) r.value Sorts.Null) None
paired scope l s r t = None

-- `==` and `!=` of pointers with the same target, or with a null constant (C99 6.5.9)
abbrev pub equality_rules : Scope → Bool → Place → Rated → Rated → Result OperandTree Refusal
equality_rules scope equal p l r = row_unless (paired scope l l.sort r r.sort) Kinds.Mismatch p (λ both.
    made (a_comparison_of_pointers equal both.left both.right p) (Sorts.Integer Ints.Int Folds.Unbuilt) p)

-- a pointer plus or minus an integer, to a type whose size is known (C99 6.5.6)
abbrev pub move_rules : Scope → Bool → Bool → Place → Rated → Qualified → Rated → Result OperandTree Refusal
move_rules scope minus index_first p e q i =
    row (not (is_complete scope q.number)) Kinds.Mismatch p
    (made (a_move minus (cells_of scope q.number) index_first e.value i.value p) (Sorts.Pointer q) p)

-- `+` of a pointer and an integer, in either order
abbrev pub sum_rules : Scope → Place → Rated → Sort → Rated → Sort → Result OperandTree Refusal
sum_rules scope p l (Sorts.Pointer q) r (Sorts.Integer t f) = move_rules scope false false p l q r
sum_rules scope p l (Sorts.Integer t f) r (Sorts.Pointer q) = move_rules scope false true p r q l
sum_rules scope p l s r t = refused Kinds.Mismatch p

-- `-` of a pointer and an integer; the difference of two pointers is left out
abbrev pub difference_rules : Scope → Place → Rated → Sort → Rated → Sort → Result OperandTree Refusal
difference_rules scope p l (Sorts.Pointer q) r (Sorts.Integer t f) = move_rules scope true false p l q r
difference_rules scope p l s r t = row (is_pointer s && is_pointer t) Kinds.Unsupported p (refused Kinds.Mismatch p)

-- the order of two pointers is left out
abbrev pub order_rules : Place → Sort → Sort → Result OperandTree Refusal
order_rules p s t = row (is_pointer s && is_pointer t) Kinds.Unsupported p (refused Kinds.Mismatch p)

-- an operator whose operands are not both integers
abbrev pub others_rules : Scope → BinOp → Place → Rated → Rated → Result OperandTree Refusal
others_rules scope Ops.Eq p l r = equality_rules scope true p l r
others_rules scope Ops.Ne p l r = equality_rules scope false p l r
others_rules scope Ops.Add p l r = sum_rules scope p l l.sort r r.sort
others_rules scope Ops.Sub p l r = difference_rules scope p l l.sort r r.sort
others_rules scope Ops.Lt p l r = order_rules p l.sort r.sort
others_rules scope Ops.Le p l r = order_rules p l.sort r.sort
others_rules scope Ops.Gt p l r = order_rules p l.sort r.sort
others_rules scope Ops.Ge p l r = order_rules p l.sort r.sort
others_rules scope _ p l r = refused Kinds.Mismatch p

abbrev pub binary_sorts : Scope → BinOp → Place → Rated → Sort → Rated → Sort → Result OperandTree Refusal
binary_sorts scope op p l (Sorts.Integer t f) r (Sorts.Integer u g) = integers_rules op p l t f r u g
binary_sorts scope op p l s r t = others_rules scope op p l r

-- a binary operator other than `&&` and `||`
abbrev pub binary_rules : Scope → BinOp → Place → Rated → Rated → Result OperandTree Refusal
binary_rules scope op p l r = binary_sorts scope op p l l.sort r r.sort

-- ## `&&`, `||`, `?:`, comma (C99 6.5.13 to 6.5.17)

-- the left operand alone decides `&&` where it is 0, and `||` where it is not
abbrev pub decides : Bool → Bool → Bool
decides and zero = cond and zero (not zero)

abbrev pub decided : Bool → ℤ → Fold → Fold
decided and z Folds.Unbuilt = Folds.Unbuilt
decided and z (Folds.Value y) =
    Folds.Value (cond and (truth (not (is_zero z) && not (is_zero y))) (truth (not (is_zero z) || not (is_zero y))))
-- a faulty right operand does not matter where it is not evaluated
decided and z Folds.Faulty = cond (decides and (is_zero z)) (Folds.Value (cond and (pos 0) (pos 1))) Folds.Faulty

abbrev pub logical_fold : Bool → Fold → Fold → Fold
logical_fold and Folds.Unbuilt b = Folds.Unbuilt
logical_fold and Folds.Faulty Folds.Unbuilt = Folds.Unbuilt
logical_fold and Folds.Faulty b = Folds.Faulty
logical_fold and (Folds.Value z) b = decided and z b

-- two scalars give an `int` (C99 6.5.13, 6.5.14)
abbrev pub logical_rules : Bool → Place → Rated → Rated → Result OperandTree Refusal
logical_rules and p l r =
    row (not (is_condition l.sort && is_condition r.sort)) Kinds.Mismatch p
    (truth_made (logical_fold and (fold_of l.sort) (fold_of r.sort))
    (cond and (an_and l.value r.value p) (an_or l.value r.value p)) p)

-- of the arms one alone is evaluated, so the other may be faulty
abbrev pub chosen_fold : IntType → Fold → Fold → Fold → Fold
chosen_fold t Folds.Unbuilt a b = Folds.Unbuilt
chosen_fold t c Folds.Unbuilt b = Folds.Unbuilt
chosen_fold t c a Folds.Unbuilt = Folds.Unbuilt
chosen_fold t Folds.Faulty a b = Folds.Faulty
chosen_fold t (Folds.Value z) a b = fold_converted t (cond (is_zero z) b a)

-- two null constants have no pointer type but `void *`, which is left out
abbrev pub conditional_pair : Place → Rated → Pair → Sort → Result OperandTree Refusal
conditional_pair p c both (Sorts.Pointer q) = made (a_choice c.value both.left both.right p) (Sorts.Pointer q) p
conditional_pair p c both _ = refused Kinds.Unsupported p

abbrev pub conditional_sorts : Scope → Place → Rated → Rated → Sort → Rated → Sort → Result OperandTree Refusal
-- two integers, in their common type
conditional_sorts scope p c a (Sorts.Integer t f) b (Sorts.Integer u g) =
    let w = usual_type t u in
    integer_made w (chosen_fold w (fold_of c.sort) f g) (a_choice c.value (converted t w a) (converted u w b) p) p
-- void twice
conditional_sorts scope p c a Sorts.Nothing b Sorts.Nothing = made (a_choice c.value a.value b.value p) Sorts.Nothing p
-- two pointers of one type, or a pointer and a null constant
conditional_sorts scope p c a s b t =
    row_unless (paired scope a s b t) Kinds.Mismatch p (λ both. conditional_pair p c both both.common)

-- `?:` (C99 6.5.15)
abbrev pub conditional_rules : Scope → Place → Rated → Rated → Rated → Result OperandTree Refusal
conditional_rules scope p c a b =
    row (not (is_condition c.sort)) Kinds.Mismatch p (conditional_sorts scope p c a a.sort b b.sort)

-- comma: the right operand's value, which is not folded (C99 6.5.17); a void pointer that is no null constant is left
-- out
abbrev pub comma_rules : Place → Rated → Rated → Result OperandTree Refusal
comma_rules p l r = row (is_void_pointer r.sort) Kinds.Unsupported p
    (made (a_comma l.value r.value p) (unbuilt r.sort) p)

-- ## Assignment (C99 6.5.16.1)

-- to an lvalue: of a scalar type, which takes the value, and not const
abbrev pub lvalue_assigned : Scope → Place → LvalueTree → Qualified → Rated → Result OperandTree Refusal
lvalue_assigned scope p l q v =
    row_unless (scalar_of scope q.number) Kinds.NotLvalue p (λ s.
    row_unless (given scope v q.number) Kinds.Mismatch p (λ e.
    row q.constant Kinds.NotLvalue p
    (made (an_assignment s l e p) (kept_sort (ctype_of scope q.number)) p)))

abbrev pub value_takes : Scope → Sort → Sort → Bool
value_takes scope (Sorts.Integer t f) sort = is_integer sort
value_takes scope (Sorts.Pointer q) sort = is_taken scope q sort
value_takes scope Sorts.Null sort = is_null sort
value_takes scope _ sort = true

abbrev pub assignment_target : Scope → Place → OperandTree → Rated → Result OperandTree Refusal
assignment_target scope p (an_lvalue l q) v = lvalue_assigned scope p l q v
-- to a value: Mismatch where the types do not fit either
assignment_target scope p (a_value to) v =
    cond (value_takes scope to.sort v.sort) (refused Kinds.NotLvalue p) (refused Kinds.Mismatch p)

-- a structure by value is left out
abbrev pub assignment_rules : Scope → Place → OperandTree → Rated → Result OperandTree Refusal
assignment_rules scope p to v = row (is_structure v.sort) Kinds.Unsupported p (assignment_target scope p to v)

-- ## `++`, `--` (C99 6.5.2.4, 6.5.3.1)

abbrev pub step_by : Scope → Step → Place → LvalueTree → Qualified → TypeEntry → CType → Result OperandTree Refusal
-- of an integer: as `+= 1`, so the sum is taken in the common type with `int`; not const
step_by scope step p l q e (Types.Int t) =
    row q.constant Kinds.NotLvalue p
    (made (a_unit_step step t (usual_type t Ints.Int) q.volatile l p) (Sorts.Integer t Folds.Unbuilt) p)
-- of a pointer to a type whose size is known; not const
step_by scope step p l q e (Types.Pointer target) =
    row (not (is_complete scope target.number)) Kinds.Mismatch p
    (row q.constant Kinds.NotLvalue p
    (made (a_pointer_step step (cells_of scope target.number) e.class l p) (Sorts.Pointer target) p))
step_by scope step p l q e _ = refused Kinds.NotLvalue p

-- of a value: Mismatch where the pointer cannot be moved either
abbrev pub step_value : Scope → Place → Sort → Result OperandTree Refusal
step_value scope p (Sorts.Pointer q) =
    row (not (is_complete scope q.number)) Kinds.Mismatch p (refused Kinds.NotLvalue p)
step_value scope p Sorts.Null = refused Kinds.Mismatch p
step_value scope p _ = refused Kinds.NotLvalue p

abbrev pub step_rules : Scope → Step → Place → OperandTree → Result OperandTree Refusal
step_rules scope step p (an_lvalue l q) = step_by scope step p l q (entry scope q.number) (ctype_of scope q.number)
step_rules scope step p (a_value v) = step_value scope p v.sort

-- ## Compound assignment (C99 6.5.16.2)

abbrev pub is_additive : BinOp → Bool
is_additive Ops.Add = true
is_additive Ops.Sub = true
is_additive _ = false

abbrev pub is_difference : BinOp → Bool
is_difference Ops.Sub = true
is_difference _ = false

-- an integer with an integer, in the type in which the operator works; not const
abbrev pub compound_integer : BinOp → Place → LvalueTree → Qualified → IntType → Rated → Sort
    → Result OperandTree Refusal
compound_integer op p l q t v (Sorts.Integer u f) =
    row q.constant Kinds.NotLvalue p
    (made (a_compound op t (working_type op t u) q.volatile l (converted u (right_type op (working_type op t u) u) v)
    p) (Sorts.Integer t Folds.Unbuilt) p)
compound_integer op p l q t v _ = refused Kinds.Mismatch p

-- `+=` and `-=` of a pointer and an integer, to a type whose size is known; not const
abbrev pub compound_pointer : Scope → BinOp → Place → LvalueTree → Qualified → ℕ → Qualified → Rated → Sort
    → Result OperandTree Refusal
compound_pointer scope op p l q class target v (Sorts.Integer u f) =
    row (not (is_additive op && is_complete scope target.number)) Kinds.Mismatch p
    (row q.constant Kinds.NotLvalue p
    (made (a_compound_move (is_difference op) (cells_of scope target.number) class l v.value p) (Sorts.Pointer target)
    p))
compound_pointer scope op p l q class target v s =
    row (is_difference op && is_pointer s) Kinds.Unsupported p (refused Kinds.Mismatch p)

abbrev pub compound_by : Scope → BinOp → Place → LvalueTree → Qualified → Rated → TypeEntry → CType
    → Result OperandTree Refusal
compound_by scope op p l q v e (Types.Int t) = compound_integer op p l q t v v.sort
compound_by scope op p l q v e (Types.Pointer target) = compound_pointer scope op p l q e.class target v v.sort
-- no scalar lvalue, also with a structure on the right
compound_by scope op p l q v e _ = refused Kinds.NotLvalue p

-- of a value: Mismatch where the types do not fit either
abbrev pub compound_value : Scope → BinOp → Place → Sort → Sort → Result OperandTree Refusal
compound_value scope op p (Sorts.Integer t f) s = row (not (is_integer s)) Kinds.Mismatch p (refused Kinds.NotLvalue p)
compound_value scope op p (Sorts.Pointer q) (Sorts.Integer t f) =
    row (not (is_additive op && is_complete scope q.number)) Kinds.Mismatch p (refused Kinds.NotLvalue p)
compound_value scope op p (Sorts.Pointer q) s =
    row (is_difference op && is_pointer s) Kinds.Unsupported p (refused Kinds.Mismatch p)
compound_value scope op p Sorts.Null s =
    row (is_difference op && is_pointer s) Kinds.Unsupported p (refused Kinds.Mismatch p)
compound_value scope op p _ s = refused Kinds.NotLvalue p

abbrev pub compound_rules : Scope → BinOp → Place → OperandTree → Rated → Result OperandTree Refusal
compound_rules scope op p (an_lvalue l q) v =
    compound_by scope op p l q v (entry scope q.number) (ctype_of scope q.number)
compound_rules scope op p (a_value to) v = compound_value scope op p to.sort v.sort

-- ## Casts (C99 6.5.4)

-- A cast to an enumeration has a form of its own, which makes no operation: so later layers tell it from one to `int`.
abbrev pub cast_form : Bool → RvalueTree → Place → RvalueTree
cast_form true e p = the_same e p
cast_form false e p = e

-- to an integer type from an integer; from a pointer it is left out
abbrev pub cast_to_integer : Place → IntType → Bool → Rated → Sort → Result OperandTree Refusal
cast_to_integer p t b v (Sorts.Integer from f) =
    integer_made t (fold_converted t f) (cast_form b (a_conversion from t v.value p) p) p
cast_to_integer p t b v s = row (is_pointer s) Kinds.Unsupported p (refused Kinds.Mismatch p)

-- to the own pointer type, or from a null constant; from another pointer or an integer it is left out
abbrev pub cast_to_pointer : Scope → Place → Qualified → Rated → Sort → Result OperandTree Refusal
cast_to_pointer scope p q v (Sorts.Pointer r) =
    row_unless (pointer_given scope q v (Sorts.Pointer r)) Kinds.Unsupported p
    (λ e. made (the_same e p) (Sorts.Pointer q) p)
cast_to_pointer scope p q v s =
    cond (is_null s) (made (a_null p) (Sorts.Pointer q) p)
    (row (is_integer s) Kinds.Unsupported p (refused Kinds.Mismatch p))

abbrev pub cast_by : Scope → Place → Bool → Rated → CType → Result OperandTree Refusal
-- to void, from anything
cast_by scope p b v Types.Void = made (a_discard v.value p) Sorts.Nothing p
cast_by scope p b v (Types.Int t) = cast_to_integer p t b v v.sort
cast_by scope p b v (Types.Pointer q) = cast_to_pointer scope p q v v.sort
cast_by scope p b v _ = refused Kinds.Mismatch p

-- `(void*)` of a folded 0 is the null constant; any other void pointer, and a volatile one, is left out
abbrev pub cast_rules : Scope → Place → CastType → Rated → Result OperandTree Refusal
cast_rules scope p to v =
    cond (to.is_void_pointer && is_integer v.sort && is_null v.sort) (made (a_null p) Sorts.Null p)
    (row to.is_left_out Kinds.Unsupported p
    (cast_by scope p (is_enumerated to.of.number) v (ctype_of scope to.of.number)))

-- ## Calls (C99 6.5.2.2)

abbrev pub and_given : Option RvalueTree → Option RvalueTrees → Option RvalueTrees
and_given (Some e) (Some es) = Some (and_rvalue e es)
and_given e es = None

-- the arguments as values of the parameters' types, of which there are as many
abbrev pub all_given : Scope → List Rated → List ℕ → Option RvalueTrees
all_given scope [] [] = Some no_rvalues
all_given scope (v ∷ vs) (n ∷ ns) = and_given (given scope v n) (all_given scope vs ns)
all_given scope _ _ = None

abbrev pub has_structure : List Rated → Bool
has_structure [] = false
has_structure (v ∷ vs) = is_structure v.sort || has_structure vs

-- no structure by value, and what the parameters take
abbrev pub function_rules : Scope → Place → ℕ → ℕ → List Rated → Option Function → Result OperandTree Refusal
function_rules scope p f site vs None = refused Kinds.Mismatch p
function_rules scope p f site vs (Some function) =
    row (has_structure vs) Kinds.Unsupported p
    (row_unless (all_given scope vs function.parameters) Kinds.Mismatch p (λ es.
    made (a_function_call f site es p) (kept_sort (ctype_of scope function.result)) p))

abbrev pub call_rules : Scope → Place → ℕ → List Rated → Named → Result OperandTree Refusal
call_rules scope p site vs (Names.Function f) = function_rules scope p f site vs (slice_get scope.functions f)
-- a call of a task
call_rules scope p site vs Names.Task = refused Kinds.BadTask p
-- a call of an object or an enumeration constant
call_rules scope p site vs _ = refused Kinds.Mismatch p

-- what may be called, before the arguments are looked at
abbrev pub callee : Place → Option Named → Result Named Refusal
callee p None = refused Kinds.Undeclared p
callee p (Some (Names.Alias q)) = refused Kinds.Undeclared p
callee p (Some (Names.Mutex m)) = refused Kinds.Mismatch p
callee p (Some (Names.Object o q)) = Ok (Names.Object o q)
callee p (Some (Names.Function f)) = Ok (Names.Function f)
callee p (Some Names.Task) = Ok Names.Task
callee p (Some (Names.Enumerator z)) = Ok (Names.Enumerator z)

-- ## Subscripts and members (C99 6.5.2.1, 6.5.2.3)

-- a pointer to a type whose size is known, and an integer
abbrev pub pointer_subscript : Scope → Place → Rated → Sort → Rated → Result OperandTree Refusal
pointer_subscript scope p e (Sorts.Pointer q) i =
    row (not (is_integer i.sort && is_complete scope q.number)) Kinds.Mismatch p
    (Ok (an_lvalue (a_pointed_element e.value i.value (cells_of scope q.number) q.number p) q))
pointer_subscript scope p e _ i = refused Kinds.Mismatch p

abbrev pub lvalue_subscript : Scope → Place → LvalueTree → Qualified → Rated → CType → Result OperandTree Refusal
-- an array and an integer; the element has the array's qualifiers
lvalue_subscript scope p l q i (Types.Array element n) =
    row (not (is_integer i.sort)) Kinds.Mismatch p
    (Ok (an_lvalue (an_element l i.value n (cells_of scope element) p) (record q { number = element })))
lvalue_subscript scope p l q i c = let e = loaded scope l q c in pointer_subscript scope p e e.sort i

abbrev pub subscript_rules : Scope → Place → OperandTree → Rated → Result OperandTree Refusal
subscript_rules scope p (an_lvalue l q) i = lvalue_subscript scope p l q i (ctype_of scope q.number)
subscript_rules scope p (a_value e) i = pointer_subscript scope p e e.sort i

-- a member has the qualifiers of its structure too (C99 6.5.2.3)
abbrev pub member_type : Qualified → Part → Qualified
member_type q m = qualified_as m.of q

-- a volatile pointer, or an array of such
abbrev pub is_volatile_pointer : Scope → Qualified → Bool
is_volatile_pointer scope q = q.volatile && (entry scope q.number).of_pointers

-- a volatile pointer is left out
abbrev pub member_made : Scope → Place → Qualified → Part → (ℕ → LvalueTree) → Result OperandTree Refusal
member_made scope p q m made_at =
    row (is_volatile_pointer scope (member_type q m)) Kinds.Unsupported p
    (Ok (an_lvalue (made_at m.cell) (member_type q m)))

-- a member that the structure has; at the name
abbrev pub dot_by : Scope → Place → LvalueTree → Qualified → Name → Place → CType → Result OperandTree Refusal
dot_by scope p l q n np (Types.Struct k) = row_unless (member_of scope k n) Kinds.Undeclared np (λ m.
    member_made scope p q m.part (λ c. a_part l c p))
dot_by scope p l q n np _ = refused Kinds.Mismatch p

-- `.` of a structure lvalue
abbrev pub dot_rules : Scope → Place → OperandTree → Name → Place → Result OperandTree Refusal
dot_rules scope p (an_lvalue l q) n np = dot_by scope p l q n np (ctype_of scope q.number)
dot_rules scope p (a_value v) n np = refused Kinds.Mismatch p

abbrev pub arrow_by : Scope → Place → Rated → Qualified → Name → Place → CType → Result OperandTree Refusal
arrow_by scope p v q n np (Types.Struct k) = row_unless (member_of scope k n) Kinds.Undeclared np (λ m.
    member_made scope p q m.part (λ c. an_arrow v.value q.number c p))
arrow_by scope p v q n np _ = refused Kinds.Mismatch p

-- `->` of a pointer to a structure
abbrev pub arrow_rules : Scope → Place → Rated → Sort → Name → Place → Result OperandTree Refusal
arrow_rules scope p v (Sorts.Pointer q) n np = arrow_by scope p v q n np (ctype_of scope q.number)
arrow_rules scope p v _ n np = refused Kinds.Mismatch p
