-- What the rules make of well-formed operands is well-formed.
use Rattle.std.proofs.Common.{◌≡◌, refl, ap, subst, ℕ, ℤ, pos, Bool, true, false, cond, not, ◌&&◌, Option, Some, None, Result, Ok, Err}
use Rattle.tm_terms.specs.tm_cint.declared.int_types.IntType.{IntType}
use Rattle.tm_terms.specs.tm_cint.declared.int_types.IntType.TheVariants as Ints
use Rattle.tm_terms.specs.tm_cint.declared.operators.BinOp.{BinOp}
use Rattle.tm_terms.specs.tm_cint.declared.operators.BinOp.TheVariants as Ops
use Rattle.tm_terms.specs.tm_cint.declared.Class.{Class}
use Rattle.tm_terms.specs.tm_cint.IntTypes.{IsIn}
use Rattle.tm_terms.specs.tm_cint.Conversions.{promoted_type, converted_value, is_zero, truth}
use Rattle.tm_terms.specs.tm_cint.Operators.{outcome, result_type, IsRightOperand}
use Rattle.tm_terms.proofs.low.tm_cint.Values.{outcome-in, zero_in, truth-in}
use Rattle.tm_terms.specs.declared.places.Place.{Place}
use Rattle.tm_terms.specs.declared.tokens.Name.{Name}
use Rattle.tm_terms.specs.declared.refusals.Kind.{Kind as RefusalKind}
use Rattle.tm_terms.specs.declared.refusals.Kind.TheVariants as RefusalKinds
use Rattle.tm_terms.specs.declared.refusals.Refusal.{Refusal}
use Rattle.tm_typed.specs.declared.types.Qualified.{Qualified}
use Rattle.tm_typed.specs.declared.types.CType.{CType}
use Rattle.tm_typed.specs.declared.types.CType.TheVariants as Types
use Rattle.tm_typed.specs.declared.scopes.Named.{Named}
use Rattle.tm_typed.specs.declared.scopes.Named.TheVariants as Names
use Rattle.tm_typed.specs.declared.operands.Fold.{Fold}
use Rattle.tm_typed.specs.declared.operands.Fold.TheVariants as Folds
use Rattle.tm_typed.specs.declared.operands.Sort.{Sort}
use Rattle.tm_typed.specs.declared.operands.Sort.TheVariants as Sorts
use Rattle.tm_typed.specs.declared.scopes.Member.{Member}
use Rattle.tm_typed.specs.Types.{is_same_int}
use Rattle.tm_typed.specs.TypedTrees.{RvalueTree, LvalueTree, a_binary, a_comma, a_conversion}
use Rattle.tm_typed.specs.TypedTrees.{an_assignment, Rated, OperandTree, an_lvalue, a_value, an_object}
use Rattle.tm_typed.specs.TypedTrees.{an_element, a_pointed_element, a_pointed, an_arrow, a_part}
use Rattle.tm_typed.specs.Rules
use Rattle.tm_typed.specs.Operands
use Rattle.tm_typed.specs.Refusals
use Rattle.tm_typed.specs.Refusals.{row, row_unless, then_with}
use Rattle.tm_typed.specs.Scopes.{ctype_of, entry, named, is_complete, member_of}
use Rattle.tm_typed.specs.Operands.{made, integer_made, truth_made, converted, loaded, valued, scalar_of}
use Rattle.tm_typed.specs.Operands.{is_integer, is_condition}
use Rattle.tm_typed.specs.Rules.{name_rules, is_shift, right_type, working_type, FitsRight, fold_outcome}
use Rattle.tm_typed.specs.Rules.{values_fold, both_folds, binary_fold, binary_made, binary_typed}
use Rattle.tm_typed.specs.Rules.{integers_rules, dereference_rules, move_rules, sum_rules}
use Rattle.tm_typed.specs.Rules.{pointer_subscript, lvalue_subscript, subscript_rules, dot_by, dot_rules}
use Rattle.tm_typed.specs.Rules.{arrow_by, arrow_rules}
use Rattle.tm_typed.specs.WellTyped.{ValueKind, a_number, a_pointer, kind_of, kind_of_scalar, IsCondition}
use Rattle.tm_typed.specs.WellTyped.{Context, IsRvalue, IsLvalue, IsFold, IsSort, IsRated, IsOperand}
use Rattle.tm_typed.specs.WellTyped.{OnAnswer, IsLawful}
use Rattle.c_expr_rules.proofs.low.c_folds.ConvertedValues.{converted_is_in, same_type_fits}

-- ## The frame

pub on_row : {A : Type 0} (P : A → Type 0) (b : Bool) (k : RefusalKind) (p : Place) (r : Result A Refusal) → OnAnswer P r → OnAnswer P (row b k p r)
on_row P true k p r h = tt
on_row P false k p r h = h

-- a row whose failing is known further on
pub on_row_not : {A : Type 0} (P : A → Type 0) (b : Bool) (k : RefusalKind) (p : Place) (r : Result A Refusal) → (b ≡ true → OnAnswer P r) → OnAnswer P (row (not b) k p r)
on_row_not P true k p r h = h refl
on_row_not P false k p r h = tt

pub on_then : {A B : Type 0} (P : A → Type 0) (Q : B → Type 0) (r : Result A Refusal) (k : A → Result B Refusal) → OnAnswer P r → ((a : A) → P a → OnAnswer Q (k a)) → OnAnswer Q (then_with r k)
on_then P Q (Err e) k h g = tt
on_then P Q (Ok a) k h g = g a h

pub refused_row : (w : Context) (b : Bool) (k j : RefusalKind) (p : Place) → OnAnswer (IsOperand w) (row b k p (Refusals.refused {A = OperandTree} j p))
refused_row w true k j p = tt
refused_row w false k j p = tt

-- ## Values

pub integer_fits : (w : Context) (t : IntType) (f : Fold) (v : RvalueTree) (p : Place) → IsFold t f → IsRvalue w (a_number t) v → OnAnswer (IsOperand w) (integer_made t f v p)
integer_fits w t (Folds.Value z) v p h g = ((refl, h), h)
integer_fits w t Folds.Unbuilt v p h g = (g, tt)
integer_fits w t Folds.Faulty v p h g = (g, tt)

pub truth_fits : (w : Context) (f : Fold) (v : RvalueTree) (p : Place) → IsFold Ints.Int f → IsRvalue w (a_number Ints.Int) v → OnAnswer (IsOperand w) (truth_made f v p)
truth_fits w (Folds.Value z) v p h g = ((refl, h, g), h)
truth_fits w Folds.Unbuilt v p h g = (g, tt)
truth_fits w Folds.Faulty v p h g = (g, tt)

-- where the types are the same no conversion is made
same_int : (a b : IntType) → is_same_int a b ≡ true → a ≡ b
same_int Ints.Bool Ints.Bool e = refl
same_int Ints.Char Ints.Char e = refl
same_int Ints.UChar Ints.UChar e = refl
same_int Ints.Short Ints.Short e = refl
same_int Ints.UShort Ints.UShort e = refl
same_int Ints.Int Ints.Int e = refl
same_int Ints.UInt Ints.UInt e = refl
same_int Ints.Long Ints.Long e = refl
same_int Ints.ULong Ints.ULong e = refl
same_int Ints.LLong Ints.LLong e = refl
same_int Ints.ULLong Ints.ULLong e = refl
same_int a b e = absurd cc

converted_by : (w : Context) (from to : IntType) (v : Rated) (b : Bool) → is_same_int from to ≡ b → IsRvalue w (a_number from) v.value → IsRvalue w (a_number to) (cond b v.value (a_conversion from to v.value v.place))
converted_by w from to v true e h = let P : IntType → Type 0 = λ t. IsRvalue w (a_number t) v.value in subst P (same_int from to e) h
converted_by w from to v false e h = (refl, h)

pub converted_fits : (w : Context) (from to : IntType) (v : Rated) → IsRvalue w (a_number from) v.value → IsRvalue w (a_number to) (converted from to v)
converted_fits w from to v h = converted_by w from to v (is_same_int from to) refl h

loaded_fits : (w : Context) (l : LvalueTree) (q : Qualified) (r : CType) → ctype_of w.scope q.number ≡ r → IsLvalue w q.number l → IsRated w (loaded w.scope l q r)
loaded_fits w l q (Types.Int t) e h = ((q.number, ap (λ r. Operands.scalar_by (entry w.scope q.number) r) e, refl, h), tt)
loaded_fits w l q (Types.Pointer target) e h = ((q.number, ap (λ r. Operands.scalar_by (entry w.scope q.number) r) e, refl, h), tt)
loaded_fits w l q (Types.Array element n) e h = ((q.number, refl, h), tt)
loaded_fits w l q (Types.Struct k) e h = ((q.number, refl, h), tt)
loaded_fits w l q Types.Void e h = ((q.number, refl, h), tt)

pub valued_fits : (w : Context) (o : OperandTree) → IsOperand w o → IsRated w (valued w.scope o)
valued_fits w (a_value v) h = h
valued_fits w (an_lvalue l q) h = loaded_fits w l q (ctype_of w.scope q.number) refl h

-- ## Names

pub name_fits : (w : Context) → IsLawful w → (n : Name) (p : Place) (o : Option Named) → named w.scope n ≡ o → OnAnswer (IsOperand w) (name_rules p o)
name_fits w law n p None e = tt
name_fits w law n p (Some (Names.Alias q)) e = tt
name_fits w law n p (Some (Names.Mutex m)) e = tt
name_fits w law n p (Some (Names.Function f)) e = tt
name_fits w law n p (Some Names.Task) e = tt
name_fits w law n p (Some (Names.Enumerator z)) e = ((refl, law.enumerators n z e), law.enumerators n z e)
name_fits w law n p (Some (Names.Object o q)) e = law.objects n o q e

-- ## Integers

pub right_fits : (op : BinOp) (t b : IntType) → FitsRight op t (right_type op t b)
unfolding right_type
right_fits Ops.Shl t b = record { fits = λ z. tt }
right_fits Ops.Shr t b = record { fits = λ z. tt }
right_fits op t b = same_type_fits op t

outcome_fold_fits : (op : BinOp) (t : IntType) (a b : ℤ) → IsIn t a → IsRightOperand op t b → (r : Result ℤ Class) → outcome op t a b ≡ r → IsFold (result_type op t) (fold_outcome r)
outcome_fold_fits op t a b h g (Ok z) e = outcome-in op t a b z h g e
outcome_fold_fits op t a b h g (Err c) e = tt

values_fold_fits : (op : BinOp) (t u : IntType) (a b : ℤ) → FitsRight op t u → IsFold (result_type op t) (values_fold op t u a b)
unfolding values_fold
values_fold_fits op t u a b h = outcome_fold_fits op t (converted_value a t) (converted_value b u) (converted_is_in t a) (h.fits b) (outcome op t (converted_value a t) (converted_value b u)) refl

both_folds_fit : (op : BinOp) (t u : IntType) (f g : Fold) → FitsRight op t u → IsFold (result_type op t) (binary_fold op t u f g)
both_folds_fit op t u Folds.Unbuilt g h = tt
both_folds_fit op t u Folds.Faulty Folds.Unbuilt h = tt
both_folds_fit op t u Folds.Faulty Folds.Faulty h = tt
both_folds_fit op t u Folds.Faulty (Folds.Value b) h = tt
both_folds_fit op t u (Folds.Value a) Folds.Unbuilt h = tt
both_folds_fit op t u (Folds.Value a) Folds.Faulty h = tt
both_folds_fit op t u (Folds.Value a) (Folds.Value b) h = values_fold_fits op t u a b h

binary_made_fits : (w : Context) (op : BinOp) (t : IntType) (f : Fold) (v : RvalueTree) (p : Place) → IsFold (result_type op t) f → IsRvalue w (a_number (result_type op t)) v → OnAnswer (IsOperand w) (binary_made op t f v p)
binary_made_fits w Ops.Lt t f v p h g = truth_fits w f v p h g
binary_made_fits w Ops.Le t f v p h g = truth_fits w f v p h g
binary_made_fits w Ops.Gt t f v p h g = truth_fits w f v p h g
binary_made_fits w Ops.Ge t f v p h g = truth_fits w f v p h g
binary_made_fits w Ops.Eq t f v p h g = truth_fits w f v p h g
binary_made_fits w Ops.Ne t f v p h g = truth_fits w f v p h g
binary_made_fits w op t f v p h g = integer_fits w t f v p h g

typed_fits : (w : Context) (op : BinOp) (t u : IntType) (p : Place) (l : Rated) (a : IntType) (f : Fold) (r : Rated) (b : IntType) (g : Fold) → FitsRight op t u → IsRvalue w (a_number a) l.value → IsRvalue w (a_number b) r.value → OnAnswer (IsOperand w) (binary_typed op t u p l a f r b g)
typed_fits w op t u p l a f r b g h x y =
    binary_made_fits w op t (binary_fold op t u f g) (a_binary op t (converted a t l) (converted b u r) p) p (both_folds_fit op t u f g h) (u, refl, h, converted_fits w a t l x, converted_fits w b u r y)

pub integers_fit : (w : Context) (op : BinOp) (p : Place) (l : Rated) (a : IntType) (f : Fold) (r : Rated) (b : IntType) (g : Fold) → IsRvalue w (a_number a) l.value → IsRvalue w (a_number b) r.value → OnAnswer (IsOperand w) (integers_rules op p l a f r b g)
integers_fit w op p l a f r b g x y = typed_fits w op (working_type op a b) (right_type op (working_type op a b) b) p l a f r b g (right_fits op (working_type op a b) b) x y

-- ## Pointers

pub and_left : (a b : Bool) → (a && b) ≡ true → a ≡ true
and_left true b e = refl
and_left false b e = e

pub and_right : (a b : Bool) → (a && b) ≡ true → b ≡ true
and_right true b e = e
and_right false b e = absurd cc

pub dereference_fits : (w : Context) (p : Place) (v : Rated) (s : Sort) → IsRvalue w (kind_of s) v.value → OnAnswer (IsOperand w) (dereference_rules w.scope p v s)
dereference_fits w p v (Sorts.Pointer q) h = on_row_not (IsOperand w) (is_complete w.scope q.number) _ p _ (λ e. (refl, e, h))
dereference_fits w p v (Sorts.Integer t f) h = tt
dereference_fits w p v Sorts.Null h = tt
dereference_fits w p v (Sorts.Structure k) h = tt
dereference_fits w p v Sorts.Nothing h = tt

move_fits : (w : Context) (minus first : Bool) (p : Place) (e : Rated) (q : Qualified) (i : Rated) (t : IntType) → IsRvalue w a_pointer e.value → IsRvalue w (a_number t) i.value → OnAnswer (IsOperand w) (move_rules w.scope minus first p e q i)
move_fits w minus first p e q i t h g = on_row_not (IsOperand w) (is_complete w.scope q.number) _ p _ (λ c. ((t, refl, h, g), tt))

pub integer_of : (w : Context) (s : Sort) (v : RvalueTree) → is_integer s ≡ true → IsRvalue w (kind_of s) v → (t : IntType) × IsRvalue w (a_number t) v
integer_of w (Sorts.Integer t f) v e h = (t, h)
integer_of w (Sorts.Pointer q) v e h = absurd cc
integer_of w Sorts.Null v e h = absurd cc
integer_of w (Sorts.Structure k) v e h = absurd cc
integer_of w Sorts.Nothing v e h = absurd cc

pub condition_of : (s : Sort) → is_condition s ≡ true → IsCondition (kind_of s)
condition_of (Sorts.Integer t f) e = tt
condition_of (Sorts.Pointer q) e = tt
condition_of Sorts.Null e = tt
condition_of (Sorts.Structure k) e = absurd cc
condition_of Sorts.Nothing e = absurd cc

pub pointer_subscript_fits : (w : Context) (p : Place) (e : Rated) (s : Sort) (i : Rated) → IsRvalue w (kind_of s) e.value → IsRvalue w (kind_of i.sort) i.value → OnAnswer (IsOperand w) (pointer_subscript w.scope p e s i)
pointer_subscript_fits w p e (Sorts.Pointer q) i h g =
    on_row_not (IsOperand w) (is_integer i.sort && is_complete w.scope q.number) _ p _ (λ c.
    let at = integer_of w i.sort i.value (and_left (is_integer i.sort) (is_complete w.scope q.number) c) g in
    (at.0, refl, and_right (is_integer i.sort) (is_complete w.scope q.number) c, refl, h, at.1))
pointer_subscript_fits w p e (Sorts.Integer t f) i h g = tt
pointer_subscript_fits w p e Sorts.Null i h g = tt
pointer_subscript_fits w p e (Sorts.Structure k) i h g = tt
pointer_subscript_fits w p e Sorts.Nothing i h g = tt

lvalue_subscript_fits : (w : Context) → IsLawful w → (p : Place) (l : LvalueTree) (q : Qualified) (i : Rated) (r : CType) → ctype_of w.scope q.number ≡ r → IsLvalue w q.number l → IsRvalue w (kind_of i.sort) i.value → OnAnswer (IsOperand w) (lvalue_subscript w.scope p l q i r)
lvalue_subscript_fits w law p l q i (Types.Array element n) e h g =
    on_row_not (IsOperand w) (is_integer i.sort) _ p _ (λ c.
    let at = integer_of w i.sort i.value c g in
    (q.number, at.0, e, law.elements q.number element n e, refl, h, at.1))
lvalue_subscript_fits w law p l q i (Types.Pointer t) e h g = let v = loaded w.scope l q (Types.Pointer t) in pointer_subscript_fits w p v v.sort i ((loaded_fits w l q (Types.Pointer t) e h).0) g
lvalue_subscript_fits w law p l q i (Types.Int t) e h g = tt
lvalue_subscript_fits w law p l q i (Types.Struct k) e h g = tt
lvalue_subscript_fits w law p l q i Types.Void e h g = tt

pub subscript_fits : (w : Context) → IsLawful w → (p : Place) (o : OperandTree) (i : Rated) → IsOperand w o → IsRated w i → OnAnswer (IsOperand w) (subscript_rules w.scope p o i)
subscript_fits w law p (an_lvalue l q) i h g = lvalue_subscript_fits w law p l q i (ctype_of w.scope q.number) refl h g.0
subscript_fits w law p (a_value e) i h g = pointer_subscript_fits w p e e.sort i h.0 g.0

-- two pointers, or one and a null constant
unfoldable pub IsBoth : Context → Rules.Pair → Type 0
IsBoth w b = (kind_of b.common ≡ a_pointer) × IsRvalue w a_pointer b.left × IsRvalue w a_pointer b.right

unfoldable pub OnSome : {A : Type 0} → (A → Type 0) → Option A → Type 0
OnSome P None = Unit {0}
OnSome P (Some a) = P a

pub on_choice : {A : Type 0} (P : A → Type 0) (b : Bool) (a : A) → P a → OnSome P (cond b (Some a) None)
unfolding OnSome
on_choice P true a h = h
on_choice P false a h = tt

pub on_row_unless : {A B : Type 0} (P : A → Type 0) (Q : B → Type 0) (o : Option A) (k : RefusalKind) (p : Place) (further : A → Result B Refusal) → OnSome P o → ((a : A) → P a → OnAnswer Q (further a)) → OnAnswer Q (row_unless o k p further)
unfolding OnSome
on_row_unless P Q None k p further h g = tt
on_row_unless P Q (Some a) k p further h g = g a h

pub paired_fits : (w : Context) (l : Rated) (s : Sort) (r : Rated) (t : Sort) → IsRvalue w (kind_of s) l.value → IsRvalue w (kind_of t) r.value → OnSome (IsBoth w) (Rules.paired w.scope l s r t)
unfolding OnSome IsBoth
paired_fits w l (Sorts.Pointer q) r (Sorts.Pointer u) h g = on_choice (IsBoth w) _ _ (refl, h, g)
paired_fits w l (Sorts.Pointer q) r (Sorts.Integer t f) h g = on_choice (IsBoth w) _ _ (refl, h, refl)
paired_fits w l (Sorts.Pointer q) r Sorts.Null h g = (refl, h, refl)
paired_fits w l (Sorts.Pointer q) r (Sorts.Structure k) h g = tt
paired_fits w l (Sorts.Pointer q) r Sorts.Nothing h g = tt
paired_fits w l Sorts.Null r (Sorts.Pointer q) h g = (refl, refl, g)
paired_fits w l Sorts.Null r (Sorts.Integer t f) h g = on_choice (IsBoth w) _ _ (refl, h, refl)
paired_fits w l Sorts.Null r Sorts.Null h g = (refl, h, refl)
paired_fits w l Sorts.Null r (Sorts.Structure k) h g = tt
paired_fits w l Sorts.Null r Sorts.Nothing h g = tt
paired_fits w l (Sorts.Integer t f) r (Sorts.Pointer q) h g = on_choice (IsBoth w) _ _ (refl, refl, g)
paired_fits w l (Sorts.Structure k) r (Sorts.Pointer q) h g = tt
paired_fits w l Sorts.Nothing r (Sorts.Pointer q) h g = tt
paired_fits w l (Sorts.Integer t f) r Sorts.Null h g = on_choice (IsBoth w) _ _ (refl, refl, g)
paired_fits w l (Sorts.Structure k) r Sorts.Null h g = tt
paired_fits w l Sorts.Nothing r Sorts.Null h g = tt
paired_fits w l s r t h g = tt

equality_fits : (w : Context) (equal : Bool) (p : Place) (l r : Rated) → IsRated w l → IsRated w r → OnAnswer (IsOperand w) (Rules.equality_rules w.scope equal p l r)
unfolding IsBoth
equality_fits w equal p l r h g = on_row_unless (IsBoth w) (IsOperand w) (Rules.paired w.scope l l.sort r r.sort) _ p _ (paired_fits w l l.sort r r.sort h.0 g.0) (λ both x. ((refl, x.1, x.2), tt))

sum_fits : (w : Context) (p : Place) (l : Rated) (s : Sort) (r : Rated) (t : Sort) → IsRvalue w (kind_of s) l.value → IsRvalue w (kind_of t) r.value → OnAnswer (IsOperand w) (sum_rules w.scope p l s r t)
sum_fits w p l (Sorts.Pointer q) r (Sorts.Integer t f) h g = move_fits w false false p l q r t h g
sum_fits w p l (Sorts.Integer t f) r (Sorts.Pointer q) h g = move_fits w false true p r q l t g h
sum_fits w p l s r t h g = tt

difference_fits : (w : Context) (p : Place) (l : Rated) (s : Sort) (r : Rated) (t : Sort) → IsRvalue w (kind_of s) l.value → IsRvalue w (kind_of t) r.value → OnAnswer (IsOperand w) (Rules.difference_rules w.scope p l s r t)
difference_fits w p l (Sorts.Pointer q) r (Sorts.Integer t f) h g = move_fits w true false p l q r t h g
difference_fits w p l s r t h g = refused_row w (Operands.is_pointer s && Operands.is_pointer t) RefusalKinds.Unsupported RefusalKinds.Mismatch p

others_fit : (w : Context) (op : BinOp) (p : Place) (l r : Rated) → IsRated w l → IsRated w r → OnAnswer (IsOperand w) (Rules.others_rules w.scope op p l r)
others_fit w Ops.Eq p l r h g = equality_fits w true p l r h g
others_fit w Ops.Ne p l r h g = equality_fits w false p l r h g
others_fit w Ops.Add p l r h g = sum_fits w p l l.sort r r.sort h.0 g.0
others_fit w Ops.Sub p l r h g = difference_fits w p l l.sort r r.sort h.0 g.0
others_fit w Ops.Lt p l r h g = refused_row w (Operands.is_pointer l.sort && Operands.is_pointer r.sort) RefusalKinds.Unsupported RefusalKinds.Mismatch p
others_fit w Ops.Le p l r h g = refused_row w (Operands.is_pointer l.sort && Operands.is_pointer r.sort) RefusalKinds.Unsupported RefusalKinds.Mismatch p
others_fit w Ops.Gt p l r h g = refused_row w (Operands.is_pointer l.sort && Operands.is_pointer r.sort) RefusalKinds.Unsupported RefusalKinds.Mismatch p
others_fit w Ops.Ge p l r h g = refused_row w (Operands.is_pointer l.sort && Operands.is_pointer r.sort) RefusalKinds.Unsupported RefusalKinds.Mismatch p
others_fit w op p l r h g = tt

binary_sorts_fit : (w : Context) (op : BinOp) (p : Place) (l : Rated) (s : Sort) (r : Rated) (t : Sort) → IsRvalue w (kind_of s) l.value → IsRvalue w (kind_of t) r.value → IsRated w l → IsRated w r → OnAnswer (IsOperand w) (Rules.binary_sorts w.scope op p l s r t)
binary_sorts_fit w op p l (Sorts.Integer a f) r (Sorts.Integer b g) h k x y = integers_fit w op p l a f r b g h k
binary_sorts_fit w op p l s r t h k x y = others_fit w op p l r x y

pub binary_fits : (w : Context) (op : BinOp) (p : Place) (l r : Rated) → IsRated w l → IsRated w r → OnAnswer (IsOperand w) (Rules.binary_rules w.scope op p l r)
binary_fits w op p l r h g = binary_sorts_fit w op p l l.sort r r.sort h.0 g.0 h g

-- ## Unary operators

address_value_fits : (w : Context) (l : LvalueTree) (q : Qualified) (p : Place) → IsLvalue w q.number l → IsRvalue w a_pointer (Rules.address_value l p)
address_value_fits w (a_pointed e t r) q p h = h.2
address_value_fits w (a_pointed_element e i c t r) q p h = (h.0, refl, h.4, h.5)
address_value_fits w (an_element l i n c r) q p h = (h.1, refl, (h.0, refl, h.5), h.6)
address_value_fits w (an_object o r) q p h = (q.number, refl, h)
address_value_fits w (an_arrow e t c r) q p h = (q.number, refl, h)
address_value_fits w (a_part l c r) q p h = (q.number, refl, h)

pub address_fits : (w : Context) (p : Place) (o : OperandTree) → IsOperand w o → OnAnswer (IsOperand w) (Rules.address_rules p o)
address_fits w p (a_value v) h = tt
address_fits w p (an_lvalue l q) h = (address_value_fits w l q p h, tt)

pub truth_is_in : (b : Bool) → IsIn Ints.Int (truth b)
truth_is_in b = truth-in b

not_fold_fits : (f : Fold) → IsFold Ints.Int (Rules.not_fold f)
not_fold_fits (Folds.Value z) = truth_is_in (is_zero z)
not_fold_fits Folds.Unbuilt = tt
not_fold_fits Folds.Faulty = tt

pub not_fits : (w : Context) (p : Place) (v : Rated) → IsRated w v → OnAnswer (IsOperand w) (Rules.not_rules p v)
not_fits w p v h = on_row_not (IsOperand w) (is_condition v.sort) _ p _ (λ e.
    truth_fits w (Rules.not_fold (Operands.fold_of v.sort)) _ p (not_fold_fits (Operands.fold_of v.sort)) (kind_of v.sort, refl, condition_of v.sort e, h.0))

minus_fold_fits : (t : IntType) (f : Fold) → IsFold t (Rules.minus_fold t f)
minus_fold_fits t (Folds.Value z) = outcome_fold_fits Ops.Sub t (pos 0) (converted_value z t) (zero_in t) (converted_is_in t z) (outcome Ops.Sub t (pos 0) (converted_value z t)) refl
minus_fold_fits t Folds.Unbuilt = tt
minus_fold_fits t Folds.Faulty = tt

pub minus_fits : (w : Context) (p : Place) (v : Rated) (s : Sort) → IsRvalue w (kind_of s) v.value → OnAnswer (IsOperand w) (Rules.minus_rules p v s)
minus_fits w p v (Sorts.Integer t f) h = let u = promoted_type t in integer_fits w u (Rules.minus_fold u f) _ p (minus_fold_fits u f) (refl, converted_fits w t u v h)
minus_fits w p v (Sorts.Pointer q) h = tt
minus_fits w p v Sorts.Null h = tt
minus_fits w p v (Sorts.Structure k) h = tt
minus_fits w p v Sorts.Nothing h = tt

-- ## Choices and assignments

pub comma_fits : (w : Context) (p : Place) (l r : Rated) → IsRated w l → IsRated w r → OnAnswer (IsOperand w) (Rules.comma_rules p l r)
comma_fits w p l r h g = on_row (IsOperand w) (Operands.is_void_pointer r.sort) RefusalKinds.Unsupported p (made (a_comma l.value r.value p) (Operands.unbuilt r.sort) p) (by_sort r.sort g.0)
  where
    by_sort : (s : Sort) → IsRvalue w (kind_of s) r.value → IsRated w (record { value = a_comma l.value r.value p; sort = Operands.unbuilt s; place = p })
    by_sort (Sorts.Integer t f) x = ((kind_of l.sort, h.0, x), tt)
    by_sort (Sorts.Pointer q) x = ((kind_of l.sort, h.0, x), tt)
    by_sort Sorts.Null x = ((kind_of l.sort, h.0, x), tt)
    by_sort (Sorts.Structure k) x = ((kind_of l.sort, h.0, x), tt)
    by_sort Sorts.Nothing x = ((kind_of l.sort, h.0, x), tt)

pub as_pointer_fits : (w : Context) (v : Rated) (s : Sort) → IsRvalue w (kind_of s) v.value → IsRvalue w a_pointer (Operands.as_pointer v s)
as_pointer_fits w v (Sorts.Pointer q) h = h
as_pointer_fits w v (Sorts.Integer t f) h = refl
as_pointer_fits w v Sorts.Null h = refl
as_pointer_fits w v (Sorts.Structure k) h = refl
as_pointer_fits w v Sorts.Nothing h = refl

kind_by_type : CType → ValueKind
kind_by_type r = kind_of (Operands.kept_sort r)

integer_given_fits : (w : Context) (t : IntType) (v : Rated) (s : Sort) → IsRvalue w (kind_of s) v.value → OnSome (λ e. IsRvalue w (a_number t) e) (Operands.integer_given t v s)
unfolding OnSome
integer_given_fits w t v (Sorts.Integer from f) h = converted_fits w from t v h
integer_given_fits w t v (Sorts.Pointer q) h = tt
integer_given_fits w t v Sorts.Null h = tt
integer_given_fits w t v (Sorts.Structure k) h = tt
integer_given_fits w t v Sorts.Nothing h = tt

given_to_fits : (w : Context) (v : Rated) (r : CType) → IsRated w v → OnSome (λ e. IsRvalue w (kind_by_type r) e) (Operands.given_to w.scope v r)
unfolding OnSome kind_by_type
given_to_fits w v (Types.Int t) h = integer_given_fits w t v v.sort h.0
given_to_fits w v (Types.Pointer q) h = on_choice (λ e. IsRvalue w a_pointer e) (Operands.is_taken w.scope q v.sort) (Operands.as_pointer v v.sort) (as_pointer_fits w v v.sort h.0)
given_to_fits w v Types.Void h = tt
given_to_fits w v (Types.Array a b) h = tt
given_to_fits w v (Types.Struct k) h = tt

scalar_kind : (w : Context) (n : ℕ) (r : CType) → ctype_of w.scope n ≡ r → OnSome (λ s. (scalar_of w.scope n ≡ Some s) × (kind_by_type r ≡ kind_of_scalar s)) (Operands.scalar_by (entry w.scope n) r)
unfolding OnSome kind_by_type
scalar_kind w n (Types.Int t) e = (ap (λ r. Operands.scalar_by (entry w.scope n) r) e, refl)
scalar_kind w n (Types.Pointer q) e = (ap (λ r. Operands.scalar_by (entry w.scope n) r) e, refl)
scalar_kind w n Types.Void e = tt
scalar_kind w n (Types.Array a b) e = tt
scalar_kind w n (Types.Struct k) e = tt

assigned_fits : (w : Context) (r : CType) → IsSort (Operands.kept_sort r)
assigned_fits w (Types.Int t) = tt
assigned_fits w (Types.Pointer q) = tt
assigned_fits w Types.Void = tt
assigned_fits w (Types.Array a b) = tt
assigned_fits w (Types.Struct k) = tt

lvalue_assigned_fits : (w : Context) (p : Place) (l : LvalueTree) (q : Qualified) (v : Rated) → IsLvalue w q.number l → IsRated w v → OnAnswer (IsOperand w) (Rules.lvalue_assigned w.scope p l q v)
unfolding kind_by_type
lvalue_assigned_fits w p l q v h g =
    let r = ctype_of w.scope q.number in
    on_row_unless (λ s. (scalar_of w.scope q.number ≡ Some s) × (kind_by_type r ≡ kind_of_scalar s)) (IsOperand w) (scalar_of w.scope q.number) RefusalKinds.NotLvalue p _ (scalar_kind w q.number r refl) (λ s x.
    on_row_unless (λ e. IsRvalue w (kind_by_type r) e) (IsOperand w) (Operands.given w.scope v q.number) RefusalKinds.Mismatch p _ (given_to_fits w v r g) (λ e y.
    on_row (IsOperand w) q.constant RefusalKinds.NotLvalue p (made (an_assignment s l e p) (Operands.kept_sort r) p) ((q.number, x.0, x.1, h, y), assigned_fits w r)))

pub refusal_either : (w : Context) (b : Bool) (k j : RefusalKind) (p : Place) → OnAnswer (IsOperand w) (cond b (Refusals.refused {A = OperandTree} k p) (Refusals.refused j p))
refusal_either w true k j p = tt
refusal_either w false k j p = tt

assignment_target_fits : (w : Context) (p : Place) (o : OperandTree) (v : Rated) → IsOperand w o → IsRated w v → OnAnswer (IsOperand w) (Rules.assignment_target w.scope p o v)
assignment_target_fits w p (an_lvalue l q) v h g = lvalue_assigned_fits w p l q v h g
assignment_target_fits w p (a_value to) v h g = refusal_either w (Rules.value_takes w.scope to.sort v.sort) _ _ p

pub assignment_fits : (w : Context) (p : Place) (o : OperandTree) (v : Rated) → IsOperand w o → IsRated w v → OnAnswer (IsOperand w) (Rules.assignment_rules w.scope p o v)
assignment_fits w p o v h g = on_row (IsOperand w) (Operands.is_structure v.sort) RefusalKinds.Unsupported p (Rules.assignment_target w.scope p o v) (assignment_target_fits w p o v h g)

part_fits : (w : Context) (p np : Place) (m k : ℕ) (l : LvalueTree) (q : Qualified) (n : Name) (o : Option Member) → member_of w.scope k n ≡ o → ctype_of w.scope q.number ≡ Types.Struct k → IsLvalue w q.number l → OnAnswer (IsOperand w) (row_unless o RefusalKinds.Undeclared np (λ m. Rules.member_made w.scope p q m.part (λ c. a_part l c p)))
part_fits w p np m k l q n None e r h = tt
part_fits w p np m k l q n (Some member) e r h = on_row (IsOperand w) (Rules.is_volatile_pointer w.scope (Rules.member_type q member.part)) RefusalKinds.Unsupported p (Ok (an_lvalue (a_part l member.part.cell p) (Rules.member_type q member.part))) (q.number, k, r, record { name = n; member = member; found = e; cell = refl; type = refl }, h)

dot_by_fits : (w : Context) (p : Place) (l : LvalueTree) (q : Qualified) (n : Name) (np : Place) (r : CType) → ctype_of w.scope q.number ≡ r → IsLvalue w q.number l → OnAnswer (IsOperand w) (dot_by w.scope p l q n np r)
dot_by_fits w p l q n np (Types.Struct k) e h = part_fits w p np 0 k l q n (member_of w.scope k n) refl e h
dot_by_fits w p l q n np Types.Void e h = tt
dot_by_fits w p l q n np (Types.Int t) e h = tt
dot_by_fits w p l q n np (Types.Pointer t) e h = tt
dot_by_fits w p l q n np (Types.Array a b) e h = tt

pub dot_fits : (w : Context) (p : Place) (o : OperandTree) (n : Name) (np : Place) → IsOperand w o → OnAnswer (IsOperand w) (dot_rules w.scope p o n np)
dot_fits w p (an_lvalue l q) n np h = dot_by_fits w p l q n np (ctype_of w.scope q.number) refl h
dot_fits w p (a_value v) n np h = tt
