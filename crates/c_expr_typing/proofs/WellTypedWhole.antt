-- What typing gives is well-formed.
use Rattle.std.proofs.Common.{◌≡◌, refl, ℕ, suc, ◌+◌, pos, Bool, true, false, cond, ◌&&◌, List, [], ◌∷◌, Option, Some, None, Result, Ok, Err, ap}
use Rattle.std.specs.Prelude.{slice_get}
use Rattle.tm_terms.specs.tm_cint.declared.int_types.IntType.{IntType}
use Rattle.tm_terms.specs.tm_cint.declared.int_types.IntType.TheVariants as Ints
use Rattle.tm_terms.specs.tm_cint.IntTypes.{IsIn}
use Rattle.tm_terms.specs.tm_cint.declared.operators.BinOp.TheVariants as Ops
use Rattle.tm_terms.specs.declared.places.Place.{Place}
use Rattle.tm_terms.specs.declared.refusals.Kind.TheVariants as RefusalKinds
use Rattle.tm_terms.specs.declared.refusals.Refusal.{Refusal}
use Rattle.tm_terms.specs.declared.exprs.Binary.{Binary}
use Rattle.tm_terms.specs.declared.exprs.Binary.TheVariants as Binaries
use Rattle.tm_terms.specs.declared.exprs.Infix.{Infix}
use Rattle.tm_terms.specs.declared.exprs.Infix.TheVariants as Infixes
use Rattle.tm_terms.specs.declared.exprs.Prefix.{Prefix}
use Rattle.tm_terms.specs.declared.exprs.Prefix.TheVariants as Prefixes
use Rattle.tm_terms.specs.declared.exprs.Postfix.{Postfix}
use Rattle.tm_terms.specs.declared.exprs.Postfix.TheVariants as Postfixes
use Rattle.tm_terms.specs.declared.exprs.Access.{Access}
use Rattle.tm_terms.specs.declared.exprs.Access.TheVariants as Accesses
use Rattle.tm_terms.specs.declared.tokens.Name.{Name}
use Rattle.tm_terms.specs.ExprTrees.{Tree, a_name, an_integer, a_character, in_parentheses, an_input}
use Rattle.tm_terms.specs.ExprTrees.{an_islocked, a_call, a_prefix, a_sizeof_type, a_cast, an_infix}
use Rattle.tm_terms.specs.ExprTrees.{a_conditional, a_subscript, a_member, a_postfix, Arguments}
use Rattle.tm_terms.specs.ExprTrees.{no_arguments, and_argument}
use Rattle.tm_typed.specs.declared.scopes.Named.{Named}
use Rattle.tm_typed.specs.declared.scopes.Named.TheVariants as Names
use Rattle.tm_typed.specs.declared.types.Qualified.{Qualified}
use Rattle.tm_typed.specs.declared.types.CType.{CType}
use Rattle.tm_typed.specs.declared.types.CType.TheVariants as Types
use Rattle.tm_typed.specs.declared.operands.Sort.{Sort}
use Rattle.tm_typed.specs.declared.operands.Sort.TheVariants as Sorts
use Rattle.tm_typed.specs.declared.types.CastType.{CastType}
use Rattle.tm_typed.specs.declared.types.Scalar.{Scalar}
use Rattle.tm_typed.specs.declared.types.Scalar.TheVariants as Scalars
use Rattle.tm_typed.specs.TypedTrees as Typed
use Rattle.tm_typed.specs.TypedTrees.{RvalueTree, LvalueTree, RvalueTrees, no_rvalues, and_rvalue, Rated}
use Rattle.tm_typed.specs.TypedTrees.{OperandTree, an_lvalue, a_value}
use Rattle.tm_typed.specs.Rules
use Rattle.tm_typed.specs.Operands
use Rattle.tm_typed.specs.Refusals
use Rattle.tm_typed.specs.Refusals.{row, row_unless}
use Rattle.tm_typed.specs.Scopes.{Function, ctype_of, entry, named}
use Rattle.tm_typed.specs.Operands.{made, valued, given, scalar_of}
use Rattle.tm_typed.specs.Typing
use Rattle.tm_typed.specs.Typing.{CastTypes, typing, typing_all, calls}
use Rattle.tm_typed.specs.Types.{is_enumerated}
use Rattle.tm_typed.specs.WellTyped.{a_number, a_pointer, kind_of, kind_of_scalar, AreArguments, Context, IsRvalue}
use Rattle.tm_typed.specs.WellTyped.{IsSort, IsRated, IsOperand, OnAnswer, IsLawful}
use Rattle.c_expr_typing.proofs.WellTypedRules.{converted_fits, on_row, on_then, integer_fits, OnSome, on_row_unless, valued_fits, name_fits, dereference_fits, minus_fits, not_fits, address_fits, binary_fits, comma_fits, assignment_fits, subscript_fits, dot_fits, as_pointer_fits, on_choice}
use Rattle.c_expr_typing.proofs.WellTypedMore
use Rattle.c_expr_rules.proofs.low.c_folds.ConvertedValues.{converted_is_in}
use Rattle.tm_terms.specs.tm_cint.Conversions.{converted_value}

prefix_fits : (w : Context) → IsLawful w → (op : Prefix) (p : Place) (o : OperandTree) → IsOperand w o → OnAnswer (IsOperand w) (Typing.prefix_rules w.scope op p o)
prefix_fits w law Prefixes.Increment p (an_lvalue l q) h = WellTypedMore.step_fits w _ p l q (ctype_of w.scope q.number) refl h
prefix_fits w law Prefixes.Increment p (a_value v) h = WellTypedMore.step_value_fits w p v.sort
prefix_fits w law Prefixes.Decrement p (an_lvalue l q) h = WellTypedMore.step_fits w _ p l q (ctype_of w.scope q.number) refl h
prefix_fits w law Prefixes.Decrement p (a_value v) h = WellTypedMore.step_value_fits w p v.sort
prefix_fits w law Prefixes.Address p o h = address_fits w p o h
prefix_fits w law Prefixes.Dereference p o h = let v = valued w.scope o in dereference_fits w p v v.sort ((valued_fits w o h).0)
prefix_fits w law Prefixes.Plus p o h = let v = valued w.scope o in WellTypedMore.plus_fits w p v v.sort (valued_fits w o h)
prefix_fits w law Prefixes.Minus p o h = let v = valued w.scope o in minus_fits w p v v.sort ((valued_fits w o h).0)
prefix_fits w law Prefixes.Complement p o h = let v = valued w.scope o in WellTypedMore.complement_fits w p v v.sort ((valued_fits w o h).0)
prefix_fits w law Prefixes.Not p o h = not_fits w p (valued w.scope o) (valued_fits w o h)
prefix_fits w law Prefixes.Sizeof p o h = WellTypedMore.sizeof_fits w law p o

postfix_fits : (w : Context) (op : Postfix) (p : Place) (o : OperandTree) → IsOperand w o → OnAnswer (IsOperand w) (Typing.postfix_rules w.scope op p o)
postfix_fits w Postfixes.Increment p (an_lvalue l q) h = WellTypedMore.step_fits w _ p l q (ctype_of w.scope q.number) refl h
postfix_fits w Postfixes.Increment p (a_value v) h = WellTypedMore.step_value_fits w p v.sort
postfix_fits w Postfixes.Decrement p (an_lvalue l q) h = WellTypedMore.step_fits w _ p l q (ctype_of w.scope q.number) refl h
postfix_fits w Postfixes.Decrement p (a_value v) h = WellTypedMore.step_value_fits w p v.sort

sign_fits : (w : Context) (op : Binary) (p : Place) (l r : Rated) → IsRated w l → IsRated w r → OnAnswer (IsOperand w) (Typing.binary_sign w.scope op p l r)
sign_fits w Binaries.And p l r h g = WellTypedMore.logical_fits w true p l r h g
sign_fits w Binaries.Or p l r h g = WellTypedMore.logical_fits w false p l r h g
sign_fits w Binaries.Multiply p l r h g = binary_fits w Ops.Mul p l r h g
sign_fits w Binaries.Divide p l r h g = binary_fits w Ops.Div p l r h g
sign_fits w Binaries.Remainder p l r h g = binary_fits w Ops.Rem p l r h g
sign_fits w Binaries.Add p l r h g = binary_fits w Ops.Add p l r h g
sign_fits w Binaries.Subtract p l r h g = binary_fits w Ops.Sub p l r h g
sign_fits w Binaries.ShiftLeft p l r h g = binary_fits w Ops.Shl p l r h g
sign_fits w Binaries.ShiftRight p l r h g = binary_fits w Ops.Shr p l r h g
sign_fits w Binaries.Less p l r h g = binary_fits w Ops.Lt p l r h g
sign_fits w Binaries.Greater p l r h g = binary_fits w Ops.Gt p l r h g
sign_fits w Binaries.LessEqual p l r h g = binary_fits w Ops.Le p l r h g
sign_fits w Binaries.GreaterEqual p l r h g = binary_fits w Ops.Ge p l r h g
sign_fits w Binaries.Equal p l r h g = binary_fits w Ops.Eq p l r h g
sign_fits w Binaries.NotEqual p l r h g = binary_fits w Ops.Ne p l r h g
sign_fits w Binaries.BitAnd p l r h g = binary_fits w Ops.And p l r h g
sign_fits w Binaries.BitXor p l r h g = binary_fits w Ops.Xor p l r h g
sign_fits w Binaries.BitOr p l r h g = binary_fits w Ops.Or p l r h g

compound_sign_fits : (w : Context) (op : Binary) (p : Place) (o : OperandTree) (v : Rated) → IsOperand w o → IsRated w v → OnAnswer (IsOperand w) (Typing.compound_sign w.scope op p o v)
compound_sign_fits w Binaries.Multiply p l r h g = WellTypedMore.compound_fits w Ops.Mul p l r h g
compound_sign_fits w Binaries.Divide p l r h g = WellTypedMore.compound_fits w Ops.Div p l r h g
compound_sign_fits w Binaries.Remainder p l r h g = WellTypedMore.compound_fits w Ops.Rem p l r h g
compound_sign_fits w Binaries.Add p l r h g = WellTypedMore.compound_fits w Ops.Add p l r h g
compound_sign_fits w Binaries.Subtract p l r h g = WellTypedMore.compound_fits w Ops.Sub p l r h g
compound_sign_fits w Binaries.ShiftLeft p l r h g = WellTypedMore.compound_fits w Ops.Shl p l r h g
compound_sign_fits w Binaries.ShiftRight p l r h g = WellTypedMore.compound_fits w Ops.Shr p l r h g
compound_sign_fits w Binaries.BitAnd p l r h g = WellTypedMore.compound_fits w Ops.And p l r h g
compound_sign_fits w Binaries.BitXor p l r h g = WellTypedMore.compound_fits w Ops.Xor p l r h g
compound_sign_fits w Binaries.BitOr p l r h g = WellTypedMore.compound_fits w Ops.Or p l r h g
compound_sign_fits w op p l r h g = tt

infix_fits : (w : Context) (op : Infix) (p : Place) (a b : OperandTree) → IsOperand w a → IsOperand w b → OnAnswer (IsOperand w) (Typing.infix_rules w.scope op p a b)
infix_fits w Infixes.Comma p a b h g = comma_fits w p (valued w.scope a) (valued w.scope b) (valued_fits w a h) (valued_fits w b g)
infix_fits w Infixes.Assign p a b h g = assignment_fits w p a (valued w.scope b) h (valued_fits w b g)
infix_fits w (Infixes.AssignBy op) p a b h g = compound_sign_fits w op p a (valued w.scope b) h (valued_fits w b g)
infix_fits w (Infixes.Binary op) p a b h g = sign_fits w op p (valued w.scope a) (valued w.scope b) (valued_fits w a h) (valued_fits w b g)

member_fits : (w : Context) (access : Access) (p : Place) (o : OperandTree) (n : Name) (q : Place) → IsOperand w o → OnAnswer (IsOperand w) (Typing.member_rules w.scope access p o n q)
member_fits w Accesses.Dot p o n q h = dot_fits w p o n q h
member_fits w Accesses.Arrow p o n q h = let v = valued w.scope o in WellTypedMore.arrow_fits w p q v v.sort n ((valued_fits w o h).0)

-- ## Casts

cast_form_fits : (w : Context) (t : IntType) (b : Bool) (e : RvalueTree) (p : Place) → IsRvalue w (a_number t) e → IsRvalue w (a_number t) (Rules.cast_form b e p)
cast_form_fits w t true e p h = h
cast_form_fits w t false e p h = h

cast_integer_fits : (w : Context) (p : Place) (t : IntType) (b : Bool) (v : Rated) (s : Sort) → IsRvalue w (kind_of s) v.value → OnAnswer (IsOperand w) (Rules.cast_to_integer p t b v s)
cast_integer_fits w p t b v (Sorts.Integer f g) h =
    let e : RvalueTree = Typed.a_conversion f t v.value p in
    integer_fits w t (Operands.fold_converted t g) (Rules.cast_form b e p) p (WellTypedMore.fold_converted_fits t g) (cast_form_fits w t b e p (refl, h))
cast_integer_fits w p t b v (Sorts.Pointer q) h = tt
cast_integer_fits w p t b v Sorts.Null h = tt
cast_integer_fits w p t b v (Sorts.Structure k) h = tt
cast_integer_fits w p t b v Sorts.Nothing h = tt

-- a choice of two answers
on_cond : {A : Type 0} (P : A → Type 0) (b : Bool) (x y : Result A Refusal) → OnAnswer P x → OnAnswer P y → OnAnswer P (cond b x y)
on_cond P true x y h g = h
on_cond P false x y h g = g

null_cast : (w : Context) (b : Bool) (p : Place) (s : Sort) (r : Result OperandTree Refusal) → kind_of s ≡ a_pointer → IsSort s → OnAnswer (IsOperand w) r → OnAnswer (IsOperand w) (cond b (made (Typed.a_null p) s p) r)
null_cast w true p s r e i h = (e, i)
null_cast w false p s r e i h = h

cast_pointer_fits : (w : Context) (p : Place) (q : Qualified) (v : Rated) (s : Sort) → IsRvalue w (kind_of s) v.value → OnAnswer (IsOperand w) (Rules.cast_to_pointer w.scope p q v s)
cast_pointer_fits w p q v (Sorts.Pointer r) h = by_test (Operands.is_taken w.scope q (Sorts.Pointer r))
  where
    by_test : (b : Bool) → OnAnswer (IsOperand w) (row_unless (cond b (Some v.value) None) RefusalKinds.Unsupported p (λ e. made (Typed.the_same e p) (Sorts.Pointer q) p))
    by_test true = (h, tt)
    by_test false = tt
cast_pointer_fits w p q v (Sorts.Integer t f) h = null_cast w (Operands.is_null (Sorts.Integer t f)) p (Sorts.Pointer q) _ refl tt tt
cast_pointer_fits w p q v Sorts.Null h = (refl, tt)
cast_pointer_fits w p q v (Sorts.Structure k) h = tt
cast_pointer_fits w p q v Sorts.Nothing h = tt

cast_by_fits : (w : Context) (p : Place) (b : Bool) (v : Rated) (r : CType) → IsRated w v → OnAnswer (IsOperand w) (Rules.cast_by w.scope p b v r)
cast_by_fits w p b v Types.Void h = ((kind_of v.sort, refl, h.0), tt)
cast_by_fits w p b v (Types.Int t) h = cast_integer_fits w p t b v v.sort h.0
cast_by_fits w p b v (Types.Pointer q) h = cast_pointer_fits w p q v v.sort h.0
cast_by_fits w p b v (Types.Array a n) h = tt
cast_by_fits w p b v (Types.Struct k) h = tt

cast_fits : (w : Context) (p : Place) (to : CastType) (v : Rated) → IsRated w v → OnAnswer (IsOperand w) (Rules.cast_rules w.scope p to v)
cast_fits w p to v h =
    null_cast w (to.is_void_pointer && Operands.is_integer v.sort && Operands.is_null v.sort) p Sorts.Null (row to.is_left_out RefusalKinds.Unsupported p (Rules.cast_by w.scope p (is_enumerated to.of.number) v (ctype_of w.scope to.of.number))) refl tt
    (on_row (IsOperand w) to.is_left_out RefusalKinds.Unsupported p (Rules.cast_by w.scope p (is_enumerated to.of.number) v (ctype_of w.scope to.of.number)) (cast_by_fits w p (is_enumerated to.of.number) v (ctype_of w.scope to.of.number) h))

-- ## Calls

kept_fits : (r : CType) → IsSort (Operands.kept_sort r)
kept_fits (Types.Int t) = tt
kept_fits (Types.Pointer q) = tt
kept_fits Types.Void = tt
kept_fits (Types.Array a b) = tt
kept_fits (Types.Struct k) = tt

abbrev AllRated : Context → List Rated → Type 0
AllRated w [] = Unit {0}
AllRated w (v ∷ vs) = IsRated w v × AllRated w vs

-- one argument: the scalar of its parameter, and the value
IsArgument : Context → ℕ → RvalueTree → Type 0
IsArgument w n e = (s : Scalar) × (scalar_of w.scope n ≡ Some s) × IsRvalue w (kind_of_scalar s) e

given_integer : (w : Context) (n : ℕ) (t : IntType) (v : Rated) (s : Sort) → ctype_of w.scope n ≡ Types.Int t → IsRvalue w (kind_of s) v.value → OnSome (IsArgument w n) (Operands.integer_given t v s)
unfolding OnSome IsArgument
given_integer w n t v (Sorts.Integer from f) e h = (Scalars.Int t, ap (λ r. Operands.scalar_by (entry w.scope n) r) e, converted_fits w from t v h)
given_integer w n t v (Sorts.Pointer q) e h = tt
given_integer w n t v Sorts.Null e h = tt
given_integer w n t v (Sorts.Structure k) e h = tt
given_integer w n t v Sorts.Nothing e h = tt

given_by : (w : Context) (n : ℕ) (v : Rated) (r : CType) → ctype_of w.scope n ≡ r → IsRated w v → OnSome (IsArgument w n) (Operands.given_to w.scope v r)
unfolding OnSome IsArgument
given_by w n v (Types.Int t) e h = given_integer w n t v v.sort e h.0
given_by w n v (Types.Pointer q) e h = on_choice (IsArgument w n) (Operands.is_taken w.scope q v.sort) (Operands.as_pointer v v.sort) (Scalars.Pointer (entry w.scope n).class, ap (λ r. Operands.scalar_by (entry w.scope n) r) e, as_pointer_fits w v v.sort h.0)
given_by w n v Types.Void e h = tt
given_by w n v (Types.Array a b) e h = tt
given_by w n v (Types.Struct k) e h = tt

one_more : (w : Context) (n : ℕ) (ns : List ℕ) (o : Option RvalueTree) (os : Option RvalueTrees) → OnSome (IsArgument w n) o → OnSome (AreArguments w ns) os → OnSome (AreArguments w (n ∷ ns)) (Rules.and_given o os)
unfolding OnSome IsArgument
one_more w n ns None os h g = tt
one_more w n ns (Some e) None h g = tt
one_more w n ns (Some e) (Some es) h g = (h.0, h.1, h.2, g)

all_given_fits : (w : Context) (vs : List Rated) (ns : List ℕ) → AllRated w vs → OnSome (AreArguments w ns) (Rules.all_given w.scope vs ns)
unfolding OnSome
all_given_fits w [] [] h = tt
all_given_fits w [] (n ∷ ns) h = tt
all_given_fits w (v ∷ vs) [] h = tt
all_given_fits w (v ∷ vs) (n ∷ ns) h = one_more w n ns (given w.scope v n) (Rules.all_given w.scope vs ns) (given_by w n v (ctype_of w.scope n) refl h.0) (all_given_fits w vs ns h.1)

function_fits : (w : Context) (p : Place) (f site : ℕ) (vs : List Rated) (o : Option Function) → slice_get w.scope.functions f ≡ o → AllRated w vs → OnAnswer (IsOperand w) (Rules.function_rules w.scope p f site vs o)
function_fits w p f site vs None e h = tt
function_fits w p f site vs (Some g) e h =
    on_row (IsOperand w) (Rules.has_structure vs) RefusalKinds.Unsupported p _
    (on_row_unless (AreArguments w g.parameters) (IsOperand w) (Rules.all_given w.scope vs g.parameters) RefusalKinds.Mismatch p _ (all_given_fits w vs g.parameters h) (λ es x. ((g, e, refl, x), kept_fits (ctype_of w.scope g.result))))

call_fits : (w : Context) (p : Place) (site : ℕ) (vs : List Rated) (n : Named) → AllRated w vs → OnAnswer (IsOperand w) (Rules.call_rules w.scope p site vs n)
call_fits w p site vs (Names.Function f) h = function_fits w p f site vs (slice_get w.scope.functions f) refl h
call_fits w p site vs Names.Task h = tt
call_fits w p site vs (Names.Object o q) h = tt
call_fits w p site vs (Names.Alias q) h = tt
call_fits w p site vs (Names.Mutex m) h = tt
call_fits w p site vs (Names.Enumerator z) h = tt

-- where nothing is said of a part
on_any : {A B : Type 0} (Q : B → Type 0) (r : Result A Refusal) (k : A → Result B Refusal) → ((a : A) → OnAnswer Q (k a)) → OnAnswer Q (Refusals.then_with r k)
on_any Q (Err e) k g = tt
on_any Q (Ok a) k g = g a

-- ## The whole

mutual
  pub typing_fits : (types : CastTypes) (w : Context) → IsLawful w → (site : ℕ) (t : Tree) → OnAnswer (IsOperand w) (typing types w.scope site t)
  typing_fits types w law site (a_name n p) = name_fits w law n p (named w.scope n) refl
  typing_fits types w law site (an_integer k p) = WellTypedMore.constant_fits w (pos k.value) p (Rules.candidates k.decimal k.unsigned k.longs)
  typing_fits types w law site (a_character z p) = let h = WellTypedMore.promoted_in Ints.Char (converted_value z Ints.Char) (converted_is_in Ints.Char z) in ((refl, h), h)
  typing_fits types w law site (in_parentheses t) = typing_fits types w law site t
  typing_fits types w law site (an_input low high p) =
      on_then (IsOperand w) (IsOperand w) (typing types w.scope site low) _ (typing_fits types w law site low) (λ a h.
      on_then (λ z. IsIn Ints.Int z) (IsOperand w) (Rules.bound (valued w.scope a)) _ (WellTypedMore.bound_fits (valued w.scope a)) (λ x hx.
      on_then (IsOperand w) (IsOperand w) (typing types w.scope (site + calls low) high) _ (typing_fits types w law (site + calls low) high) (λ b g.
      on_then (λ z. IsIn Ints.Int z) (IsOperand w) (Rules.bound (valued w.scope b)) _ (WellTypedMore.bound_fits (valued w.scope b)) (λ y hy. WellTypedMore.input_fits w p x y hx hy))))
  typing_fits types w law site (an_islocked m q p) = WellTypedMore.islocked_fits w law m p q (named w.scope m) refl
  typing_fits types w law site (a_call f args p) =
      on_any (IsOperand w) (Rules.callee p (named w.scope f)) _ (λ g. on_then (AllRated w) (IsOperand w) (typing_all types w.scope (suc site) args) _ (typing_all_fits types w law (suc site) args) (λ vs h. call_fits w p site vs g h))
  typing_fits types w law site (a_prefix op t p) = on_then (IsOperand w) (IsOperand w) (typing types w.scope site t) _ (typing_fits types w law site t) (λ a h. prefix_fits w law op p a h)
  typing_fits types w law site (a_sizeof_type n p) =
      on_any (IsOperand w) (types w.scope n p) _ (λ to. on_row (IsOperand w) to.is_left_out RefusalKinds.Unsupported p _ (WellTypedMore.sizeof_type_fits w law p to.of.number))
  typing_fits types w law site (a_cast n t p) =
      on_any (IsOperand w) (types w.scope n p) _ (λ to. on_then (IsOperand w) (IsOperand w) (typing types w.scope site t) _ (typing_fits types w law site t) (λ a h. cast_fits w p to (valued w.scope a) (valued_fits w a h)))
  typing_fits types w law site (an_infix l op p r) =
      on_then (IsOperand w) (IsOperand w) (typing types w.scope site l) _ (typing_fits types w law site l) (λ a h.
      on_then (IsOperand w) (IsOperand w) (typing types w.scope (site + calls l) r) _ (typing_fits types w law (site + calls l) r) (λ b g. infix_fits w op p a b h g))
  typing_fits types w law site (a_conditional q p x y) =
      on_then (IsOperand w) (IsOperand w) (typing types w.scope site q) _ (typing_fits types w law site q) (λ a h.
      on_then (IsOperand w) (IsOperand w) (typing types w.scope (site + calls q) x) _ (typing_fits types w law (site + calls q) x) (λ b g.
      on_then (IsOperand w) (IsOperand w) (typing types w.scope (site + calls q + calls x) y) _ (typing_fits types w law (site + calls q + calls x) y) (λ d k.
      WellTypedMore.conditional_fits w p (valued w.scope a) (valued w.scope b) (valued w.scope d) (valued_fits w a h) (valued_fits w b g) (valued_fits w d k))))
  typing_fits types w law site (a_subscript e p i) =
      on_then (IsOperand w) (IsOperand w) (typing types w.scope site e) _ (typing_fits types w law site e) (λ a h.
      on_then (IsOperand w) (IsOperand w) (typing types w.scope (site + calls e) i) _ (typing_fits types w law (site + calls e) i) (λ b g. subscript_fits w law p a (valued w.scope b) h (valued_fits w b g)))
  typing_fits types w law site (a_member e access p m q) = on_then (IsOperand w) (IsOperand w) (typing types w.scope site e) _ (typing_fits types w law site e) (λ a h. member_fits w access p a m q h)
  typing_fits types w law site (a_postfix e op p) = on_then (IsOperand w) (IsOperand w) (typing types w.scope site e) _ (typing_fits types w law site e) (λ a h. postfix_fits w op p a h)

  typing_all_fits : (types : CastTypes) (w : Context) → IsLawful w → (site : ℕ) (args : Arguments) → OnAnswer (AllRated w) (typing_all types w.scope site args)
  typing_all_fits types w law site no_arguments = tt
  typing_all_fits types w law site (and_argument t args) =
      on_then (IsOperand w) (AllRated w) (typing types w.scope site t) _ (typing_fits types w law site t) (λ a h.
      on_then (AllRated w) (AllRated w) (typing_all types w.scope (site + calls t) args) _ (typing_all_fits types w law (site + calls t) args) (λ vs g. (valued_fits w a h, g)))
