-- The further rules, and the whole: what typing gives is well-formed.
use Rattle.std.proofs.Common.{◌≡◌, refl, ap, ℕ, ℤ, pos, negsuc, ◌-ℤ◌, ◌≤ℤ◌, Bool, true, false, cond, not, ◌&&◌, List, [], ◌∷◌, Option, Some, None, Ok, rules, arith}
use Rattle.std.specs.Prelude.{find}
use Rattle.tm_terms.specs.tm_cint.declared.int_types.IntType.{IntType}
use Rattle.tm_terms.specs.tm_cint.declared.int_types.IntType.TheVariants as Ints
use Rattle.tm_terms.specs.tm_cint.declared.operators.BinOp.{BinOp}
use Rattle.tm_terms.specs.tm_cint.IntTypes.{IsIn, is_in, lo_of, hi_of}
use Rattle.std.proofs.lemmas.Int.{ints}
use Rattle.tm_terms.specs.tm_cint.Conversions.{promoted_type, usual_type, is_zero}
use Rattle.tm_terms.proofs.low.tm_cint.Ranges.{IsIn-from_test}
use Rattle.tm_terms.specs.declared.places.Place.{Place}
use Rattle.tm_terms.specs.declared.tokens.Name.{Name}
use Rattle.tm_terms.specs.declared.refusals.Kind.TheVariants as RefusalKinds
use Rattle.tm_typed.specs.declared.types.Qualified.{Qualified}
use Rattle.tm_typed.specs.declared.types.CType.{CType}
use Rattle.tm_typed.specs.declared.types.CType.TheVariants as Types
use Rattle.tm_typed.specs.declared.expressions.Step.{Step}
use Rattle.tm_typed.specs.declared.scopes.Named.{Named}
use Rattle.tm_typed.specs.declared.scopes.Named.TheVariants as Names
use Rattle.tm_typed.specs.declared.operands.Fold.{Fold}
use Rattle.tm_typed.specs.declared.operands.Fold.TheVariants as Folds
use Rattle.tm_typed.specs.declared.operands.Sort.{Sort}
use Rattle.tm_typed.specs.declared.operands.Sort.TheVariants as Sorts
use Rattle.tm_typed.specs.declared.scopes.Member.{Member}
use Rattle.tm_typed.specs.Types.{bytes_of}
use Rattle.tm_typed.specs.TypedTrees.{LvalueTree, Rated, OperandTree, an_lvalue, a_value, an_arrow}
use Rattle.tm_typed.specs.TypedTrees.{a_constant, an_input_value, a_choice, a_compound, a_compound_move}
use Rattle.tm_typed.specs.Rules
use Rattle.tm_typed.specs.Operands
use Rattle.tm_typed.specs.Scopes
use Rattle.tm_typed.specs.Refusals.{row, row_unless}
use Rattle.tm_typed.specs.Scopes.{ctype_of, entry, is_complete, named}
use Rattle.tm_typed.specs.Operands.{made, is_condition, fold_of}
use Rattle.tm_typed.specs.WellTyped.{a_pointer, kind_of, IsCondition, Context, IsRvalue, IsLvalue, IsFold}
use Rattle.tm_typed.specs.WellTyped.{IsSort, IsRated, IsOperand, OnAnswer, IsLawful}
use Rattle.c_expr_rules.proofs.low.c_folds.ConvertedValues.{converted_is_in}
use Rattle.c_expr_typing.proofs.WellTypedRules.{on_row, on_row_not, integer_fits, truth_fits, converted_fits, refused_row, condition_of, and_left, and_right, truth_is_in, IsBoth, on_row_unless, paired_fits, right_fits}

complement_fold_fits : (t : IntType) (f : Fold) → IsFold t (Rules.complement_fold t f)
complement_fold_fits t (Folds.Value z) = converted_is_in t (negsuc 0 -ℤ z)
complement_fold_fits t Folds.Unbuilt = tt
complement_fold_fits t Folds.Faulty = tt

pub complement_fits : (w : Context) (p : Place) (v : Rated) (s : Sort) → IsRvalue w (kind_of s) v.value → OnAnswer (IsOperand w) (Rules.complement_rules p v s)
complement_fits w p v (Sorts.Integer t f) h = let u = promoted_type t in integer_fits w u (Rules.complement_fold u f) _ p (complement_fold_fits u f) (refl, converted_fits w t u v h)
complement_fits w p v (Sorts.Pointer q) h = tt
complement_fits w p v Sorts.Null h = tt
complement_fits w p v (Sorts.Structure k) h = tt
complement_fits w p v Sorts.Nothing h = tt

-- && and ||
decided_fits : (and : Bool) (z : ℤ) (g : Fold) → IsFold Ints.Int (Rules.decided and z g)
decided_fits true z Folds.Unbuilt = tt
decided_fits false z Folds.Unbuilt = tt
decided_fits true z (Folds.Value y) = truth_is_in _
decided_fits false z (Folds.Value y) = truth_is_in _
decided_fits true z Folds.Faulty = by_test (is_zero z)
  where
    by_test : (b : Bool) → IsFold Ints.Int (cond b (Folds.Value (pos 0)) Folds.Faulty)
    by_test true = truth_is_in false
    by_test false = tt
decided_fits false z Folds.Faulty = by_test (not (is_zero z))
  where
    by_test : (b : Bool) → IsFold Ints.Int (cond b (Folds.Value (pos 1)) Folds.Faulty)
    by_test true = truth_is_in true
    by_test false = tt

logical_fold_fits : (and : Bool) (f g : Fold) → IsFold Ints.Int (Rules.logical_fold and f g)
logical_fold_fits and Folds.Unbuilt g = tt
logical_fold_fits and Folds.Faulty Folds.Unbuilt = tt
logical_fold_fits and Folds.Faulty Folds.Faulty = tt
logical_fold_fits and Folds.Faulty (Folds.Value y) = tt
logical_fold_fits and (Folds.Value z) g = decided_fits and z g

pub logical_fits : (w : Context) (and : Bool) (p : Place) (l r : Rated) → IsRated w l → IsRated w r → OnAnswer (IsOperand w) (Rules.logical_rules and p l r)
logical_fits w true p l r h g = on_row_not (IsOperand w) (is_condition l.sort && is_condition r.sort) _ p _ (λ e.
    truth_fits w (Rules.logical_fold true (fold_of l.sort) (fold_of r.sort)) _ p (logical_fold_fits true (fold_of l.sort) (fold_of r.sort)) (kind_of l.sort, kind_of r.sort, refl, condition_of l.sort (and_left _ _ e), condition_of r.sort (and_right (is_condition l.sort) (is_condition r.sort) e), h.0, g.0))
logical_fits w false p l r h g = on_row_not (IsOperand w) (is_condition l.sort && is_condition r.sort) _ p _ (λ e.
    truth_fits w (Rules.logical_fold false (fold_of l.sort) (fold_of r.sort)) _ p (logical_fold_fits false (fold_of l.sort) (fold_of r.sort)) (kind_of l.sort, kind_of r.sort, refl, condition_of l.sort (and_left _ _ e), condition_of r.sort (and_right (is_condition l.sort) (is_condition r.sort) e), h.0, g.0))

-- ++, --
pub step_fits : (w : Context) (s : Step) (p : Place) (l : LvalueTree) (q : Qualified) (r : CType) → ctype_of w.scope q.number ≡ r → IsLvalue w q.number l → OnAnswer (IsOperand w) (Rules.step_by w.scope s p l q (entry w.scope q.number) r)
step_fits w s p l q (Types.Int t) e h = on_row (IsOperand w) q.constant RefusalKinds.NotLvalue p (made _ (Sorts.Integer t Folds.Unbuilt) p) ((q.number, ap (λ r. Operands.scalar_by (entry w.scope q.number) r) e, refl, h), tt)
step_fits w s p l q (Types.Pointer u) e h =
    on_row (IsOperand w) (not (is_complete w.scope u.number)) RefusalKinds.Mismatch p (row q.constant RefusalKinds.NotLvalue p (made _ (Sorts.Pointer u) p))
    (on_row (IsOperand w) q.constant RefusalKinds.NotLvalue p (made _ (Sorts.Pointer u) p) ((q.number, ap (λ r. Operands.scalar_by (entry w.scope q.number) r) e, refl, h), tt))
step_fits w s p l q Types.Void e h = tt
step_fits w s p l q (Types.Array a b) e h = tt
step_fits w s p l q (Types.Struct k) e h = tt

-- sizeof
size_fits : (w : Context) (n : ℕ) (p : Place) → IsIn Ints.UInt (pos n) → OnAnswer (IsOperand w) (Rules.size_made n p)
size_fits w n p h = ((refl, h), h)

small : (t : IntType) → IsIn Ints.UInt (pos (bytes_of t))
small Ints.Bool = record { at_least = search rules; at_most = search rules }
small Ints.Char = record { at_least = search rules; at_most = search rules }
small Ints.UChar = record { at_least = search rules; at_most = search rules }
small Ints.Short = record { at_least = search rules; at_most = search rules }
small Ints.UShort = record { at_least = search rules; at_most = search rules }
small Ints.Int = record { at_least = search rules; at_most = search rules }
small Ints.UInt = record { at_least = search rules; at_most = search rules }
small Ints.Long = record { at_least = search rules; at_most = search rules }
small Ints.ULong = record { at_least = search rules; at_most = search rules }
small Ints.LLong = record { at_least = search rules; at_most = search rules }
small Ints.ULLong = record { at_least = search rules; at_most = search rules }

sizeof_sort_fits : (w : Context) → IsLawful w → (p : Place) (s : Sort) → OnAnswer (IsOperand w) (Rules.sizeof_sort w.scope p s)
sizeof_sort_fits w law p (Sorts.Integer t f) = size_fits w (bytes_of t) p (small t)
sizeof_sort_fits w law p (Sorts.Pointer q) = size_fits w 4 p (small Ints.Int)
sizeof_sort_fits w law p Sorts.Null = size_fits w 4 p (small Ints.Int)
sizeof_sort_fits w law p (Sorts.Structure k) = size_fits w _ p (law.structure_sizes k)
sizeof_sort_fits w law p Sorts.Nothing = tt

pub sizeof_type_fits : (w : Context) → IsLawful w → (p : Place) (n : ℕ) → OnAnswer (IsOperand w) (Rules.sizeof_type_rules w.scope p n)
sizeof_type_fits w law p n = on_row (IsOperand w) (not (is_complete w.scope n)) RefusalKinds.Mismatch p _ (size_fits w (Scopes.size_of w.scope n) p (law.sizes n))

pub sizeof_fits : (w : Context) → IsLawful w → (p : Place) (o : OperandTree) → OnAnswer (IsOperand w) (Rules.sizeof_rules w.scope p o)
sizeof_fits w law p (an_lvalue l q) = on_row (IsOperand w) (not (is_complete w.scope q.number)) RefusalKinds.Mismatch p _ (size_fits w (Scopes.size_of w.scope q.number) p (law.sizes q.number))
sizeof_fits w law p (a_value v) = sizeof_sort_fits w law p v.sort

-- constants
pub constant_fits : (w : Context) (z : ℤ) (p : Place) (ts : List IntType) → OnAnswer (IsOperand w) (row_unless (find (λ t. is_in t z) ts) RefusalKinds.Unsupported p (λ t. Operands.integer_made t (Folds.Value z) (a_constant t z p) p))
constant_fits w z p [] = tt
constant_fits w z p (t ∷ ts) = by_test (is_in t z) refl (constant_fits w z p ts)
  where
    by_test : (b : Bool) → is_in t z ≡ b → OnAnswer (IsOperand w) (row_unless (find (λ u. is_in u z) ts) RefusalKinds.Unsupported p (λ u. Operands.integer_made u (Folds.Value z) (a_constant u z p) p)) → OnAnswer (IsOperand w) (row_unless (cond b (Some t) (find (λ u. is_in u z) ts)) RefusalKinds.Unsupported p (λ u. Operands.integer_made u (Folds.Value z) (a_constant u z p) p))
    by_test true e h = ((refl, IsIn-from_test t z e), IsIn-from_test t z e)
    by_test false e h = h

-- __input
bound_fits_fold : (f : Fold) (p : Place) → OnAnswer (λ z. IsIn Ints.Int z) (row_unless (Rules.folded_in_int f) RefusalKinds.NotConstant p (λ z. Ok z))
bound_fits_fold Folds.Unbuilt p = tt
bound_fits_fold Folds.Faulty p = tt
bound_fits_fold (Folds.Value z) p = by_test (is_in Ints.Int z) refl
  where
    by_test : (b : Bool) → is_in Ints.Int z ≡ b → OnAnswer (λ z. IsIn Ints.Int z) (row_unless (cond b (Some z) None) RefusalKinds.NotConstant p (λ z. Ok z))
    by_test true e = IsIn-from_test Ints.Int z e
    by_test false e = tt

pub bound_fits : (v : Rated) → OnAnswer (λ z. IsIn Ints.Int z) (Rules.bound v)
bound_fits v = bound_fits_fold (fold_of v.sort) v.place

pub input_fits : (w : Context) (p : Place) (x y : ℤ) → IsIn Ints.Int x → IsIn Ints.Int y → OnAnswer (IsOperand w) (Rules.input_rules p x y)
input_fits w p x y h g = on_row (IsOperand w) _ RefusalKinds.NotConstant p (made (an_input_value x y p) (Sorts.Integer Ints.Int Folds.Unbuilt) p) ((refl, h, g), tt)

pub islocked_fits : (w : Context) → IsLawful w → (n : Name) (p q : Place) (o : Option Named) → named w.scope n ≡ o → OnAnswer (IsOperand w) (Rules.islocked_rules p q o)
islocked_fits w law n p q None e = tt
islocked_fits w law n p q (Some (Names.Mutex m)) e = ((refl, law.mutexes n m e), tt)
islocked_fits w law n p q (Some x) e = tt

-- ?:
pub fold_converted_fits : (t : IntType) (f : Fold) → IsFold t (Operands.fold_converted t f)
fold_converted_fits t (Folds.Value z) = converted_is_in t z
fold_converted_fits t Folds.Unbuilt = tt
fold_converted_fits t Folds.Faulty = tt

chosen_fold_fits : (t : IntType) (c f g : Fold) → IsFold t (Rules.chosen_fold t c f g)
chosen_fold_fits t Folds.Unbuilt f g = tt
chosen_fold_fits t Folds.Faulty Folds.Unbuilt g = tt
chosen_fold_fits t (Folds.Value z) Folds.Unbuilt g = tt
chosen_fold_fits t Folds.Faulty Folds.Faulty Folds.Unbuilt = tt
chosen_fold_fits t Folds.Faulty (Folds.Value x) Folds.Unbuilt = tt
chosen_fold_fits t (Folds.Value z) Folds.Faulty Folds.Unbuilt = tt
chosen_fold_fits t (Folds.Value z) (Folds.Value x) Folds.Unbuilt = tt
chosen_fold_fits t Folds.Faulty f g = search rules
chosen_fold_fits t (Folds.Value z) f g = fold_converted_fits t (cond (is_zero z) g f)

pair_fits : (w : Context) (p : Place) (c : Rated) (both : Rules.Pair) (s : Sort) → IsCondition (kind_of c.sort) → IsRated w c → IsRvalue w a_pointer both.left → IsRvalue w a_pointer both.right → OnAnswer (IsOperand w) (Rules.conditional_pair p c both s)
pair_fits w p c both (Sorts.Pointer q) i h x y = ((kind_of c.sort, i, h.0, x, y), tt)
pair_fits w p c both (Sorts.Integer t f) i h x y = tt
pair_fits w p c both Sorts.Null i h x y = tt
pair_fits w p c both (Sorts.Structure k) i h x y = tt
pair_fits w p c both Sorts.Nothing i h x y = tt

conditional_paired : (w : Context) (p : Place) (c a : Rated) (s : Sort) (b : Rated) (t : Sort) → IsCondition (kind_of c.sort) → IsRated w c → IsRvalue w (kind_of s) a.value → IsRvalue w (kind_of t) b.value → OnAnswer (IsOperand w) (row_unless (Rules.paired w.scope a s b t) RefusalKinds.Mismatch p (λ both. Rules.conditional_pair p c both both.common))
unfolding IsBoth
conditional_paired w p c a s b t i h x y = on_row_unless (IsBoth w) (IsOperand w) (Rules.paired w.scope a s b t) RefusalKinds.Mismatch p (λ both. Rules.conditional_pair p c both both.common) (paired_fits w a s b t x y) (λ both z. pair_fits w p c both both.common i h z.1 z.2)

conditional_sorts_fit : (w : Context) (p : Place) (c a : Rated) (s : Sort) (b : Rated) (t : Sort) → IsCondition (kind_of c.sort) → IsRated w c → IsRvalue w (kind_of s) a.value → IsRvalue w (kind_of t) b.value → OnAnswer (IsOperand w) (Rules.conditional_sorts w.scope p c a s b t)
conditional_sorts_fit w p c a (Sorts.Integer t f) b (Sorts.Integer u g) i h x y =
    let v = usual_type t u in integer_fits w v (Rules.chosen_fold v (fold_of c.sort) f g) (a_choice c.value (Operands.converted t v a) (Operands.converted u v b) p) p (chosen_fold_fits v (fold_of c.sort) f g) (kind_of c.sort, i, h.0, converted_fits w t v a x, converted_fits w u v b y)
conditional_sorts_fit w p c a Sorts.Nothing b Sorts.Nothing i h x y = ((kind_of c.sort, i, h.0, x, y), tt)
conditional_sorts_fit w p c a s b t i h x y = conditional_paired w p c a s b t i h x y

pub conditional_fits : (w : Context) (p : Place) (c a b : Rated) → IsRated w c → IsRated w a → IsRated w b → OnAnswer (IsOperand w) (Rules.conditional_rules w.scope p c a b)
conditional_fits w p c a b h x y = on_row_not (IsOperand w) (is_condition c.sort) RefusalKinds.Mismatch p (Rules.conditional_sorts w.scope p c a a.sort b b.sort) (λ e. conditional_sorts_fit w p c a a.sort b b.sort (condition_of c.sort e) h x.0 y.0)

-- ->
arrow_part : (w : Context) (p np : Place) (k : ℕ) (v : Rated) (q : Qualified) (n : Name) (o : Option Member) → Scopes.member_of w.scope k n ≡ o → ctype_of w.scope q.number ≡ Types.Struct k → IsRvalue w a_pointer v.value → OnAnswer (IsOperand w) (row_unless o RefusalKinds.Undeclared np (λ m. Rules.member_made w.scope p q m.part (λ c. an_arrow v.value q.number c p)))
arrow_part w p np k v q n None e r h = tt
arrow_part w p np k v q n (Some member) e r h = on_row (IsOperand w) (Rules.is_volatile_pointer w.scope (Rules.member_type q member.part)) RefusalKinds.Unsupported p (Ok (an_lvalue (an_arrow v.value q.number member.part.cell p) (Rules.member_type q member.part))) (k, r, record { name = n; member = member; found = e; cell = refl; type = refl }, h)

arrow_by_fits : (w : Context) (p np : Place) (v : Rated) (q : Qualified) (n : Name) (r : CType) → ctype_of w.scope q.number ≡ r → IsRvalue w a_pointer v.value → OnAnswer (IsOperand w) (Rules.arrow_by w.scope p v q n np r)
arrow_by_fits w p np v q n (Types.Struct k) e h = arrow_part w p np k v q n (Scopes.member_of w.scope k n) refl e h
arrow_by_fits w p np v q n Types.Void e h = tt
arrow_by_fits w p np v q n (Types.Int t) e h = tt
arrow_by_fits w p np v q n (Types.Pointer t) e h = tt
arrow_by_fits w p np v q n (Types.Array a b) e h = tt

pub arrow_fits : (w : Context) (p np : Place) (v : Rated) (s : Sort) (n : Name) → IsRvalue w (kind_of s) v.value → OnAnswer (IsOperand w) (Rules.arrow_rules w.scope p v s n np)
arrow_fits w p np v (Sorts.Pointer q) n h = arrow_by_fits w p np v q n (ctype_of w.scope q.number) refl h
arrow_fits w p np v (Sorts.Integer t f) n h = tt
arrow_fits w p np v Sorts.Null n h = tt
arrow_fits w p np v (Sorts.Structure k) n h = tt
arrow_fits w p np v Sorts.Nothing n h = tt

-- op=
compound_integer_fits : (w : Context) (op : BinOp) (p : Place) (l : LvalueTree) (q : Qualified) (t : IntType) (v : Rated) (s : Sort) → ctype_of w.scope q.number ≡ Types.Int t → IsLvalue w q.number l → IsRvalue w (kind_of s) v.value → OnAnswer (IsOperand w) (Rules.compound_integer op p l q t v s)
compound_integer_fits w op p l q t v (Sorts.Integer u f) e h g =
    on_row (IsOperand w) q.constant RefusalKinds.NotLvalue p (made (a_compound op t (Rules.working_type op t u) q.volatile l (Operands.converted u (Rules.right_type op (Rules.working_type op t u) u) v) p) (Sorts.Integer t Folds.Unbuilt) p)
    ((q.number, Rules.right_type op (Rules.working_type op t u) u, ap (λ r. Operands.scalar_by (entry w.scope q.number) r) e, refl, right_fits op (Rules.working_type op t u) u, h, converted_fits w u (Rules.right_type op (Rules.working_type op t u) u) v g), tt)
compound_integer_fits w op p l q t v (Sorts.Pointer r) e h g = tt
compound_integer_fits w op p l q t v Sorts.Null e h g = tt
compound_integer_fits w op p l q t v (Sorts.Structure k) e h g = tt
compound_integer_fits w op p l q t v Sorts.Nothing e h g = tt

compound_pointer_fits : (w : Context) (op : BinOp) (p : Place) (l : LvalueTree) (q to : Qualified) (v : Rated) (s : Sort) → ctype_of w.scope q.number ≡ Types.Pointer to → IsLvalue w q.number l → IsRvalue w (kind_of s) v.value → OnAnswer (IsOperand w) (Rules.compound_pointer w.scope op p l q (entry w.scope q.number).class to v s)
compound_pointer_fits w op p l q to v (Sorts.Integer u f) e h g =
    let node = a_compound_move (Rules.is_difference op) (Scopes.cells_of w.scope to.number) (entry w.scope q.number).class l v.value p in
    on_row (IsOperand w) (not (Rules.is_additive op && is_complete w.scope to.number)) RefusalKinds.Mismatch p (row q.constant RefusalKinds.NotLvalue p (made node (Sorts.Pointer to) p))
    (on_row (IsOperand w) q.constant RefusalKinds.NotLvalue p (made node (Sorts.Pointer to) p) ((q.number, u, ap (λ r. Operands.scalar_by (entry w.scope q.number) r) e, refl, h, g), tt))
compound_pointer_fits w op p l q to v (Sorts.Pointer r) e h g = refused_row w (Rules.is_difference op && true) RefusalKinds.Unsupported RefusalKinds.Mismatch p
compound_pointer_fits w op p l q to v Sorts.Null e h g = refused_row w (Rules.is_difference op && true) RefusalKinds.Unsupported RefusalKinds.Mismatch p
compound_pointer_fits w op p l q to v (Sorts.Structure k) e h g = refused_row w (Rules.is_difference op && false) RefusalKinds.Unsupported RefusalKinds.Mismatch p
compound_pointer_fits w op p l q to v Sorts.Nothing e h g = refused_row w (Rules.is_difference op && false) RefusalKinds.Unsupported RefusalKinds.Mismatch p

pub compound_by_fits : (w : Context) (op : BinOp) (p : Place) (l : LvalueTree) (q : Qualified) (v : Rated) (r : CType) → ctype_of w.scope q.number ≡ r → IsLvalue w q.number l → IsRated w v → OnAnswer (IsOperand w) (Rules.compound_by w.scope op p l q v (entry w.scope q.number) r)
compound_by_fits w op p l q v (Types.Int t) e h g = compound_integer_fits w op p l q t v v.sort e h g.0
compound_by_fits w op p l q v (Types.Pointer to) e h g = compound_pointer_fits w op p l q to v v.sort e h g.0
compound_by_fits w op p l q v Types.Void e h g = tt
compound_by_fits w op p l q v (Types.Array a b) e h g = tt
compound_by_fits w op p l q v (Types.Struct k) e h g = tt

-- promotion keeps values
≤ℤ_trans : (x y z : ℤ) → x ≤ℤ y → y ≤ℤ z → x ≤ℤ z
≤ℤ_trans x y z h g = omega (arith, ints)

within : (t u : IntType) (z : ℤ) → lo_of u ≤ℤ lo_of t → hi_of t ≤ℤ hi_of u → IsIn t z → IsIn u z
within t u z a b h = record { at_least = ≤ℤ_trans (lo_of u) (lo_of t) z a h.at_least; at_most = ≤ℤ_trans z (hi_of t) (hi_of u) h.at_most b }

pub promoted_in : (t : IntType) (z : ℤ) → IsIn t z → IsIn (promoted_type t) z
promoted_in Ints.Bool z h = within Ints.Bool Ints.Int z (search rules) (search rules) h
promoted_in Ints.Char z h = within Ints.Char Ints.Int z (search rules) (search rules) h
promoted_in Ints.UChar z h = within Ints.UChar Ints.Int z (search rules) (search rules) h
promoted_in Ints.Short z h = within Ints.Short Ints.Int z (search rules) (search rules) h
promoted_in Ints.UShort z h = within Ints.UShort Ints.Int z (search rules) (search rules) h
promoted_in Ints.Int z h = h
promoted_in Ints.UInt z h = h
promoted_in Ints.Long z h = h
promoted_in Ints.ULong z h = h
promoted_in Ints.LLong z h = h
promoted_in Ints.ULLong z h = h

-- of values
pub step_value_fits : (w : Context) (p : Place) (s : Sort) → OnAnswer (IsOperand w) (Rules.step_value w.scope p s)
step_value_fits w p (Sorts.Pointer q) = refused_row w (not (is_complete w.scope q.number)) RefusalKinds.Mismatch RefusalKinds.NotLvalue p
step_value_fits w p Sorts.Null = tt
step_value_fits w p (Sorts.Integer t f) = tt
step_value_fits w p (Sorts.Structure k) = tt
step_value_fits w p Sorts.Nothing = tt

pub compound_value_fits : (w : Context) (op : BinOp) (p : Place) (s t : Sort) → OnAnswer (IsOperand w) (Rules.compound_value w.scope op p s t)
compound_value_fits w op p (Sorts.Integer u f) t = refused_row w (not (Operands.is_integer t)) RefusalKinds.Mismatch RefusalKinds.NotLvalue p
compound_value_fits w op p (Sorts.Pointer q) (Sorts.Integer u f) = refused_row w (not (Rules.is_additive op && is_complete w.scope q.number)) RefusalKinds.Mismatch RefusalKinds.NotLvalue p
compound_value_fits w op p (Sorts.Pointer q) t = refused_row w (Rules.is_difference op && Operands.is_pointer t) RefusalKinds.Unsupported RefusalKinds.Mismatch p
compound_value_fits w op p Sorts.Null t = refused_row w (Rules.is_difference op && Operands.is_pointer t) RefusalKinds.Unsupported RefusalKinds.Mismatch p
compound_value_fits w op p (Sorts.Structure k) t = tt
compound_value_fits w op p Sorts.Nothing t = tt

pub compound_fits : (w : Context) (op : BinOp) (p : Place) (o : OperandTree) (v : Rated) → IsOperand w o → IsRated w v → OnAnswer (IsOperand w) (Rules.compound_rules w.scope op p o v)
compound_fits w op p (an_lvalue l q) v h g = compound_by_fits w op p l q v (ctype_of w.scope q.number) refl h g
compound_fits w op p (a_value to) v h g = compound_value_fits w op p to.sort v.sort

-- unary +: promotion keeps a folded value in the type
pub plus_fits : (w : Context) (p : Place) (v : Rated) (s : Sort) → IsRvalue w (kind_of s) v.value × IsSort s → OnAnswer (IsOperand w) (Rules.plus_rules p v s)
plus_fits w p v (Sorts.Integer t f) h = let u = promoted_type t in integer_fits w u f _ p (promoted_fold t f h.1) (converted_fits w t u v h.0)
  where
    promoted_fold : (t : IntType) (f : Fold) → IsFold t f → IsFold (promoted_type t) f
    promoted_fold t (Folds.Value z) h = promoted_in t z h
    promoted_fold t Folds.Unbuilt h = tt
    promoted_fold t Folds.Faulty h = tt
plus_fits w p v (Sorts.Pointer q) h = tt
plus_fits w p v Sorts.Null h = tt
plus_fits w p v (Sorts.Structure k) h = tt
plus_fits w p v Sorts.Nothing h = tt
