-- The rules of expressions mention what their operands mention.
use Rattle.std.proofs.Common.{◌≡◌, ℕ, List, [], ◌∷◌, refl}
use Rattle.std.specs.Prelude.{ℤ, int_le, Bool, true, false, cond, not, ◌&&◌, slice_get, Option, Some, None, Result}
use Rattle.tm_laid.specs.tm_cint.declared.int_types.IntType.{IntType}
use Rattle.tm_laid.specs.tm_cint.declared.int_types.IntType.TheVariants as Ints
use Rattle.tm_laid.specs.tm_cint.declared.operators.BinOp.{BinOp}
use Rattle.tm_laid.specs.tm_cint.declared.operators.BinOp.TheVariants as Ops
use Rattle.tm_laid.specs.tm_cint.Conversions.{promoted_type, usual_type}
use Rattle.tm_laid.specs.tm_terms.declared.places.Place.{Place}
use Rattle.tm_laid.specs.tm_terms.declared.tokens.Name.{Name}
use Rattle.tm_laid.specs.tm_terms.declared.refusals.Kind.TheVariants as Kinds
use Rattle.tm_laid.specs.tm_terms.declared.refusals.Refusal.{Refusal}
use Rattle.tm_laid.specs.tm_terms.declared.tokens.IntConstant.{IntConstant}
use Rattle.tm_laid.specs.tm_typed.declared.types.Qualified.{Qualified}
use Rattle.tm_laid.specs.tm_typed.declared.types.CType.{CType}
use Rattle.tm_laid.specs.tm_typed.declared.types.CType.TheVariants as Types
use Rattle.tm_laid.specs.tm_typed.declared.types.TypeEntry.{TypeEntry}
use Rattle.tm_laid.specs.tm_typed.declared.types.Scalar.{Scalar}
use Rattle.tm_laid.specs.tm_typed.declared.scopes.Named.{Named}
use Rattle.tm_laid.specs.tm_typed.declared.scopes.Named.TheVariants as Names
use Rattle.tm_laid.specs.tm_typed.declared.scopes.ObjectNumber.TheVariants as Objects
use Rattle.tm_laid.specs.tm_typed.declared.scopes.Member.{Member}
use Rattle.tm_laid.specs.tm_typed.declared.operands.Fold.{Fold}
use Rattle.tm_laid.specs.tm_typed.declared.operands.Fold.TheVariants as Folds
use Rattle.tm_laid.specs.tm_typed.declared.operands.Sort.{Sort}
use Rattle.tm_laid.specs.tm_typed.declared.operands.Sort.TheVariants as Sorts
use Rattle.tm_laid.specs.tm_typed.declared.expressions.Step.{Step}
use Rattle.tm_laid.specs.tm_typed.declared.expressions.Unary.TheVariants as Unaries
use Rattle.tm_laid.specs.tm_typed.Types.{is_same_int, is_enumerated}
use Rattle.tm_laid.specs.tm_typed.Scopes.{Scope, Function, entry, ctype_of, is_same_type, is_complete, member_of}
use Rattle.tm_laid.specs.tm_typed.TypedTrees.{RvalueTree, a_null, the_same, a_unary, a_binary, a_not, an_and, an_or}
use Rattle.tm_laid.specs.tm_typed.TypedTrees.{a_choice, an_input_value, a_conversion, LvalueTree, an_object}
use Rattle.tm_laid.specs.tm_typed.TypedTrees.{RvalueTrees, Rated}
use Rattle.tm_laid.specs.tm_typed.TypedTrees.{OperandTree, an_lvalue, a_value}
use Rattle.tm_laid.specs.tm_typed.Refusals.{refused, row, row_unless}
use Rattle.tm_laid.specs.tm_typed.Operands.{qualified_as, fold_converted, fold_of, is_condition, is_structure}
use Rattle.tm_laid.specs.tm_typed.Operands.{is_integer, is_pointer, is_null, is_void_pointer, made, integer_made}
use Rattle.tm_laid.specs.tm_typed.Operands.{truth_made, converted, loaded, valued, is_taken, as_pointer, pointer_given}
use Rattle.tm_laid.specs.tm_typed.Operands.{integer_given, given_to, given, scalar_of}
use Rattle.tm_laid.specs.tm_typed.Rules
use Rattle.tm_laid.specs.tm_typed.declared.types.CastType.{CastType}
use Rattle.tm_laid.specs.tm_typed.Rules.{Pair, paired}
use Rattle.tm_laid.specs.tm_typed.WellTyped.{OnAnswer}
use Rattle.typed_file_laws.specs.Mentions.{WorksIn, Mentions, LvalueMentions, AllMention, OperandMentions}
use Rattle.typed_file_laws.proofs.RuleSteps.{on_row, OnSome, on_row_unless, some_any}

in_order : (b : Bool) → not b ≡ false → b ≡ true
in_order true e = refl
in_order false e = absurd cc

negate_works : (t : IntType) → WorksIn Unaries.Negate t
negate_works t e f = absurd (cc)

promoted_works : (t : IntType) → WorksIn Unaries.Complement (promoted_type t)
promoted_works t e f = not_bool t f
  where
    not_bool : (t : IntType) → promoted_type t ≡ Ints.Bool → ⊥
    not_bool Ints.Bool f = absurd (cc)
    not_bool _ f = absurd (cc)

module _ (o : ℕ → Bool) (c : List ℕ) where
  abbrev Says : OperandTree → Type 0
  Says = OperandMentions o c

  abbrev Gives : Result OperandTree Refusal → Type 0
  Gives r = OnAnswer (OperandMentions o c) r

  -- ## Values

  loaded_mentions : (scope : Scope) (l : LvalueTree) (q : Qualified) (t : CType) → LvalueMentions o c l → Mentions o c (let v : Rated = loaded scope l q t in v.value)
  loaded_mentions scope l q (Types.Int t) h = (tt, h)
  loaded_mentions scope l q (Types.Pointer r) h = (refl, h)
  loaded_mentions scope l q _ h = h

  pub valued_mentions : (scope : Scope) (a : OperandTree) → OperandMentions o c a → Mentions o c (let v : Rated = valued scope a in v.value)
  valued_mentions scope (a_value v) h = h
  valued_mentions scope (an_lvalue l q) h = loaded_mentions scope l q (ctype_of scope q.number) h

  integer_mentions : (t : IntType) (f : Fold) (e : RvalueTree) (p : Place) → Mentions o c e → Gives (integer_made t f e p)
  integer_mentions t (Folds.Value z) e p h = tt
  integer_mentions t Folds.Unbuilt e p h = h
  integer_mentions t Folds.Faulty e p h = h

  truth_mentions : (f : Fold) (e : RvalueTree) (p : Place) → Mentions o c e → Gives (truth_made f e p)
  truth_mentions (Folds.Value z) e p h = h
  truth_mentions Folds.Unbuilt e p h = h
  truth_mentions Folds.Faulty e p h = h

  pub converted_mentions : (from to : IntType) (v : Rated) → Mentions o c v.value → Mentions o c (converted from to v)
  converted_mentions from to v h = by_test (is_same_int from to)
    where
      by_test : (b : Bool) → Mentions o c (cond b v.value (a_conversion from to v.value v.place))
      by_test true = h
      by_test false = h

  as_pointer_mentions : (v : Rated) (s : Sort) → Mentions o c v.value → Mentions o c (as_pointer v s)
  as_pointer_mentions v (Sorts.Pointer q) h = h
  as_pointer_mentions v _ h = tt

  chosen_mentions : (b : Bool) (e : RvalueTree) → Mentions o c e → OnSome (Mentions o c) (cond b (Some e) None)
  chosen_mentions true e h = h
  chosen_mentions false e h = tt

  integer_given_mentions : (t : IntType) (v : Rated) (s : Sort) → Mentions o c v.value → OnSome (Mentions o c) (integer_given t v s)
  integer_given_mentions t v (Sorts.Integer from f) h = converted_mentions from t v h
  integer_given_mentions t v _ h = tt

  given_to_mentions : (scope : Scope) (v : Rated) (t : CType) → Mentions o c v.value → OnSome (Mentions o c) (given_to scope v t)
  given_to_mentions scope v (Types.Int t) h = integer_given_mentions t v v.sort h
  given_to_mentions scope v (Types.Pointer q) h = chosen_mentions (is_taken scope q v.sort) (as_pointer v v.sort) (as_pointer_mentions v v.sort h)
  given_to_mentions scope v _ h = tt

  pub given_mentions : (scope : Scope) (v : Rated) (n : ℕ) → Mentions o c v.value → OnSome (Mentions o c) (given scope v n)
  given_mentions scope v n h = given_to_mentions scope v (ctype_of scope n) h

  -- ## Names and constants

  -- a name that passes
  abbrev pub IsNamed : Option Named → Type 0
  IsNamed (Some (Names.Object (Objects.Static k) q)) = o k ≡ true
  IsNamed n = Unit {0}

  pub name_mentions : (p : Place) (n : Option Named) → IsNamed n → Gives (Rules.name_rules p n)
  name_mentions p (Some (Names.Object (Objects.Static k) q)) h = h
  name_mentions p _ h = tt

  pub constant_mentions : (k : IntConstant) (p : Place) → Gives (Rules.constant_rules k p)
  constant_mentions k p = on_row_unless (λ (t : IntType). Unit {0}) Says (Rules.constant_type k) Kinds.Unsupported p _ (some_any (Rules.constant_type k)) (λ t i. tt)

  pub input_mentions : (p : Place) (x y : ℤ) → Gives (Rules.input_rules p x y)
  input_mentions p x y = on_row Says (not (int_le x y)) Kinds.NotConstant p (made (an_input_value x y p) (Sorts.Integer Ints.Int Folds.Unbuilt) p) (λ e. in_order (int_le x y) e)

  pub islocked_mentions : (p q : Place) (n : Option Named) → Gives (Rules.islocked_rules p q n)
  islocked_mentions p q (Some (Names.Mutex m)) = tt
  islocked_mentions p q _ = tt

  -- ## Unary operators

  address_value_mentions : (l : LvalueTree) (p : Place) → LvalueMentions o c l → Mentions o c (Rules.address_value l p)
  address_value_mentions (an_object (Objects.Static k) q) p h = h
  address_value_mentions _ p h = h

  pub address_mentions : (p : Place) (a : OperandTree) → Says a → Gives (Rules.address_rules p a)
  address_mentions p (a_value v) h = tt
  address_mentions p (an_lvalue l q) h = address_value_mentions l p h

  pub dereference_mentions : (scope : Scope) (p : Place) (v : Rated) (s : Sort) → Mentions o c v.value → Gives (Rules.dereference_rules scope p v s)
  dereference_mentions scope p v (Sorts.Pointer q) h = on_row Says (not (is_complete scope q.number)) Kinds.Mismatch p _ (λ e. h)
  dereference_mentions scope p v _ h = tt

  pub not_mentions : (p : Place) (v : Rated) → Mentions o c v.value → Gives (Rules.not_rules p v)
  not_mentions p v h = on_row Says (not (is_condition v.sort)) Kinds.Mismatch p _ (λ e. truth_mentions (Rules.not_fold (fold_of v.sort)) (a_not v.value p) p h)

  pub minus_mentions : (p : Place) (v : Rated) (s : Sort) → Mentions o c v.value → Gives (Rules.minus_rules p v s)
  minus_mentions p v (Sorts.Integer t f) h =
      let u : IntType = promoted_type t in integer_mentions u (Rules.minus_fold u f) (a_unary Unaries.Negate u (converted t u v) p) p (negate_works u, converted_mentions t u v h)
  minus_mentions p v _ h = tt

  pub complement_mentions : (p : Place) (v : Rated) (s : Sort) → Mentions o c v.value → Gives (Rules.complement_rules p v s)
  complement_mentions p v (Sorts.Integer t f) h =
      let u : IntType = promoted_type t in integer_mentions u (Rules.complement_fold u f) (a_unary Unaries.Complement u (converted t u v) p) p (promoted_works t, converted_mentions t u v h)
  complement_mentions p v _ h = tt

  pub plus_mentions : (p : Place) (v : Rated) (s : Sort) → Mentions o c v.value → Gives (Rules.plus_rules p v s)
  plus_mentions p v (Sorts.Integer t f) h =
      let u : IntType = promoted_type t in integer_mentions u f (the_same (converted t u v) p) p (converted_mentions t u v h)
  plus_mentions p v _ h = tt

  pub sizeof_type_mentions : (scope : Scope) (p : Place) (n : ℕ) → Gives (Rules.sizeof_type_rules scope p n)
  sizeof_type_mentions scope p n = on_row Says (not (is_complete scope n)) Kinds.Mismatch p _ (λ e. tt)

  sizeof_sort_mentions : (scope : Scope) (p : Place) (s : Sort) → Gives (Rules.sizeof_sort scope p s)
  sizeof_sort_mentions scope p (Sorts.Integer t f) = tt
  sizeof_sort_mentions scope p _ = tt

  pub sizeof_mentions : (scope : Scope) (p : Place) (a : OperandTree) → Gives (Rules.sizeof_rules scope p a)
  sizeof_mentions scope p (an_lvalue l q) = sizeof_type_mentions scope p q.number
  sizeof_mentions scope p (a_value v) = sizeof_sort_mentions scope p v.sort

  -- ## Binary operators

  made_mentions : (b : Bool) (t : IntType) (f : Fold) (e : RvalueTree) (p : Place) → Mentions o c e → Gives (cond b (truth_made f e p) (integer_made t f e p))
  made_mentions true t f e p h = truth_mentions f e p h
  made_mentions false t f e p h = integer_mentions t f e p h

  integers_mention : (op : BinOp) (p : Place) (l : Rated) (a : IntType) (f : Fold) (r : Rated) (b : IntType) (g : Fold) → Mentions o c l.value → Mentions o c r.value → Gives (Rules.integers_rules op p l a f r b g)
  integers_mention op p l a f r b g h k =
      let t : IntType = Rules.working_type op a b in
      let u : IntType = Rules.right_type op t b in
      made_mentions (Rules.is_comparison op) t (Rules.binary_fold op t u f g) (a_binary op t (converted a t l) (converted b u r) p) p (converted_mentions a t l h, converted_mentions b u r k)

  abbrev Both : Pair → Type 0
  Both x = Mentions o c x.left × Mentions o c x.right

  pair_chosen : (b : Bool) (x : Pair) → Both x → OnSome Both (cond b (Some x) None)
  pair_chosen true x h = h
  pair_chosen false x h = tt

  abbrev two : RvalueTree → RvalueTree → Sort → Pair
  two l r s = record { left = l; right = r; common = s }

  paired_mention : (scope : Scope) (l : Rated) (s : Sort) (r : Rated) (t : Sort) → Mentions o c l.value → Mentions o c r.value → OnSome Both (paired scope l s r t)
  paired_mention scope l (Sorts.Pointer q) r (Sorts.Pointer s) h k = pair_chosen (is_same_type scope q.number s.number) (two l.value r.value (Sorts.Pointer (qualified_as q s))) (h, k)
  paired_mention scope l (Sorts.Pointer q) r (Sorts.Integer t f) h k = pair_chosen (is_null (Sorts.Integer t f)) (two l.value (a_null r.place) (Sorts.Pointer q)) (h, tt)
  paired_mention scope l (Sorts.Pointer q) r Sorts.Null h k = (h, tt)
  paired_mention scope l Sorts.Null r (Sorts.Pointer q) h k = (tt, k)
  paired_mention scope l Sorts.Null r (Sorts.Integer t f) h k = pair_chosen (is_null (Sorts.Integer t f)) (two l.value (a_null r.place) Sorts.Null) (h, tt)
  paired_mention scope l Sorts.Null r Sorts.Null h k = (h, tt)
  paired_mention scope l (Sorts.Integer t f) r (Sorts.Pointer q) h k = pair_chosen (is_null (Sorts.Integer t f)) (two (a_null l.place) r.value (Sorts.Pointer q)) (tt, k)
  paired_mention scope l (Sorts.Integer t f) r Sorts.Null h k = pair_chosen (is_null (Sorts.Integer t f)) (two (a_null l.place) r.value Sorts.Null) (tt, k)
  paired_mention scope l (Sorts.Structure n) r t h k = structure_mentions t
    where
      structure_mentions : (t : Sort) → OnSome Both (paired scope l (Sorts.Structure n) r t)
      structure_mentions (Sorts.Pointer q) = tt
      structure_mentions Sorts.Null = tt
      structure_mentions (Sorts.Integer u g) = tt
      structure_mentions (Sorts.Structure m) = tt
      structure_mentions Sorts.Nothing = tt
  paired_mention scope l Sorts.Nothing r t h k = nothing_mentions t
    where
      nothing_mentions : (t : Sort) → OnSome Both (paired scope l Sorts.Nothing r t)
      nothing_mentions (Sorts.Pointer q) = tt
      nothing_mentions Sorts.Null = tt
      nothing_mentions (Sorts.Integer u g) = tt
      nothing_mentions (Sorts.Structure m) = tt
      nothing_mentions Sorts.Nothing = tt
  paired_mention scope l _ r _ h k = tt

  equality_mentions : (scope : Scope) (b : Bool) (p : Place) (l r : Rated) → Mentions o c l.value → Mentions o c r.value → Gives (Rules.equality_rules scope b p l r)
  equality_mentions scope b p l r h k = on_row_unless Both Says (paired scope l l.sort r r.sort) Kinds.Mismatch p _ (paired_mention scope l l.sort r r.sort h k) (λ x i. i)

  refusal_mentions : (b : Bool) (p : Place) → Gives (row b Kinds.Unsupported p (refused Kinds.Mismatch p))
  refusal_mentions true p = tt
  refusal_mentions false p = tt

  move_mentions : (scope : Scope) (minus first : Bool) (p : Place) (e : Rated) (q : Qualified) (i : Rated) → Mentions o c e.value → Mentions o c i.value → Gives (Rules.move_rules scope minus first p e q i)
  move_mentions scope minus first p e q i h k = on_row Says (not (is_complete scope q.number)) Kinds.Mismatch p _ (λ x. (h, k))

  sum_mentions : (scope : Scope) (p : Place) (l : Rated) (s : Sort) (r : Rated) (t : Sort) → Mentions o c l.value → Mentions o c r.value → Gives (Rules.sum_rules scope p l s r t)
  sum_mentions scope p l (Sorts.Pointer q) r (Sorts.Integer t f) h k = move_mentions scope false false p l q r h k
  sum_mentions scope p l (Sorts.Integer t f) r (Sorts.Pointer q) h k = move_mentions scope false true p r q l k h
  sum_mentions scope p l _ r _ h k = tt

  difference_mentions : (scope : Scope) (p : Place) (l : Rated) (s : Sort) (r : Rated) (t : Sort) → Mentions o c l.value → Mentions o c r.value → Gives (Rules.difference_rules scope p l s r t)
  difference_mentions scope p l (Sorts.Pointer q) r (Sorts.Integer t f) h k = move_mentions scope true false p l q r h k
  difference_mentions scope p l Sorts.Null r t h k = refusal_mentions (is_pointer t) p
  difference_mentions scope p l _ r _ h k = tt

  order_mentions : (p : Place) (s t : Sort) → Gives (Rules.order_rules p s t)
  order_mentions p s t = refusal_mentions (is_pointer s && is_pointer t) p

  others_mention : (scope : Scope) (op : BinOp) (p : Place) (l r : Rated) → Mentions o c l.value → Mentions o c r.value → Gives (Rules.others_rules scope op p l r)
  others_mention scope Ops.Eq p l r h k = equality_mentions scope true p l r h k
  others_mention scope Ops.Ne p l r h k = equality_mentions scope false p l r h k
  others_mention scope Ops.Add p l r h k = sum_mentions scope p l l.sort r r.sort h k
  others_mention scope Ops.Sub p l r h k = difference_mentions scope p l l.sort r r.sort h k
  others_mention scope Ops.Lt p l r h k = order_mentions p l.sort r.sort
  others_mention scope Ops.Le p l r h k = order_mentions p l.sort r.sort
  others_mention scope Ops.Gt p l r h k = order_mentions p l.sort r.sort
  others_mention scope Ops.Ge p l r h k = order_mentions p l.sort r.sort
  others_mention scope _ p l r h k = tt

  sorts_mention : (scope : Scope) (op : BinOp) (p : Place) (l : Rated) (s : Sort) (r : Rated) (t : Sort) → l.sort ≡ s → r.sort ≡ t → Mentions o c l.value → Mentions o c r.value → Gives (Rules.binary_sorts scope op p l s r t)
  sorts_mention scope op p l (Sorts.Integer t f) r (Sorts.Integer u g) a b h k = integers_mention op p l t f r u g h k
  sorts_mention scope op p l _ r _ a b h k = others_mention scope op p l r h k

  pub binary_mentions : (scope : Scope) (op : BinOp) (p : Place) (l r : Rated) → Mentions o c l.value → Mentions o c r.value → Gives (Rules.binary_rules scope op p l r)
  binary_mentions scope op p l r h k = sorts_mention scope op p l l.sort r r.sort refl refl h k

  logical_value : (b : Bool) (l r : RvalueTree) (p : Place) → Mentions o c l → Mentions o c r → Mentions o c (cond b (an_and l r p) (an_or l r p))
  logical_value true l r p h k = (h, k)
  logical_value false l r p h k = (h, k)

  pub logical_mentions : (b : Bool) (p : Place) (l r : Rated) → Mentions o c l.value → Mentions o c r.value → Gives (Rules.logical_rules b p l r)
  logical_mentions b p l r h k = on_row Says (not (is_condition l.sort && is_condition r.sort)) Kinds.Mismatch p _ (λ e.
      truth_mentions (Rules.logical_fold b (fold_of l.sort) (fold_of r.sort)) (cond b (an_and l.value r.value p) (an_or l.value r.value p)) p (logical_value b l.value r.value p h k))

  -- ## `?:`, comma, assignment

  choice_mentions : (p : Place) (x : Rated) (both : Pair) (s : Sort) → Mentions o c x.value → Both both → Gives (Rules.conditional_pair p x both s)
  choice_mentions p x both (Sorts.Pointer q) h k = (h, k.0, k.1)
  choice_mentions p x both _ h k = tt

  paired_choice : (scope : Scope) (p : Place) (x a : Rated) (s : Sort) (b : Rated) (t : Sort) → Mentions o c x.value → Mentions o c a.value → Mentions o c b.value
      → Gives (row_unless (paired scope a s b t) Kinds.Mismatch p (λ both. Rules.conditional_pair p x both both.common))
  paired_choice scope p x a s b t h i j =
      on_row_unless Both Says (paired scope a s b t) Kinds.Mismatch p _ (paired_mention scope a s b t i j) (λ both k. choice_mentions p x both both.common h k)

  conditional_sorts_mention : (scope : Scope) (p : Place) (x a : Rated) (s : Sort) (b : Rated) (t : Sort) → Mentions o c x.value → Mentions o c a.value → Mentions o c b.value → Gives (Rules.conditional_sorts scope p x a s b t)
  conditional_sorts_mention scope p x a (Sorts.Integer t f) b (Sorts.Integer u g) h i j =
      let w : IntType = usual_type t u in
      integer_mentions w (Rules.chosen_fold w (fold_of x.sort) f g) (a_choice x.value (converted t w a) (converted u w b) p) p (h, converted_mentions t w a i, converted_mentions u w b j)
  conditional_sorts_mention scope p x a Sorts.Nothing b Sorts.Nothing h i j = (h, i, j)
  conditional_sorts_mention scope p x a (Sorts.Pointer q) b t h i j = paired_choice scope p x a (Sorts.Pointer q) b t h i j
  conditional_sorts_mention scope p x a Sorts.Null b t h i j = paired_choice scope p x a Sorts.Null b t h i j
  conditional_sorts_mention scope p x a (Sorts.Structure k) b t h i j = paired_choice scope p x a (Sorts.Structure k) b t h i j
  conditional_sorts_mention scope p x a (Sorts.Integer t f) b (Sorts.Pointer q) h i j = paired_choice scope p x a (Sorts.Integer t f) b (Sorts.Pointer q) h i j
  conditional_sorts_mention scope p x a (Sorts.Integer t f) b Sorts.Null h i j = paired_choice scope p x a (Sorts.Integer t f) b Sorts.Null h i j
  conditional_sorts_mention scope p x a _ b _ h i j = tt

  pub conditional_mentions : (scope : Scope) (p : Place) (x a b : Rated) → Mentions o c x.value → Mentions o c a.value → Mentions o c b.value → Gives (Rules.conditional_rules scope p x a b)
  conditional_mentions scope p x a b h i j = on_row Says (not (is_condition x.sort)) Kinds.Mismatch p _ (λ e. conditional_sorts_mention scope p x a a.sort b b.sort h i j)

  pub comma_mentions : (p : Place) (l r : Rated) → Mentions o c l.value → Mentions o c r.value → Gives (Rules.comma_rules p l r)
  comma_mentions p l r h k = on_row Says (is_void_pointer r.sort) Kinds.Unsupported p _ (λ e. (h, k))

  lvalue_assigned_mentions : (scope : Scope) (p : Place) (l : LvalueTree) (q : Qualified) (v : Rated) → LvalueMentions o c l → Mentions o c v.value → Gives (Rules.lvalue_assigned scope p l q v)
  lvalue_assigned_mentions scope p l q v h k =
      on_row_unless (λ (s : Scalar). Unit {0}) Says (scalar_of scope q.number) Kinds.NotLvalue p _ (some_any (scalar_of scope q.number)) (λ s i.
      on_row_unless (Mentions o c) Says (given scope v q.number) Kinds.Mismatch p _ (given_mentions scope v q.number k) (λ e j.
      on_row Says q.constant Kinds.NotLvalue p _ (λ x. (h, j))))

  two_refusals : (b : Bool) (p : Place) → Gives (cond b (refused Kinds.NotLvalue p) (refused Kinds.Mismatch p))
  two_refusals true p = tt
  two_refusals false p = tt

  target_mentions : (scope : Scope) (p : Place) (a : OperandTree) (v : Rated) → Says a → Mentions o c v.value → Gives (Rules.assignment_target scope p a v)
  target_mentions scope p (an_lvalue l q) v h k = lvalue_assigned_mentions scope p l q v h k
  target_mentions scope p (a_value x) v h k = two_refusals (Rules.value_takes scope x.sort v.sort) p

  pub assignment_mentions : (scope : Scope) (p : Place) (a : OperandTree) (v : Rated) → Says a → Mentions o c v.value → Gives (Rules.assignment_rules scope p a v)
  assignment_mentions scope p a v h k = on_row Says (is_structure v.sort) Kinds.Unsupported p _ (λ e. target_mentions scope p a v h k)

  step_by_mentions : (scope : Scope) (step : Step) (p : Place) (l : LvalueTree) (q : Qualified) (e : TypeEntry) (t : CType) → LvalueMentions o c l → Gives (Rules.step_by scope step p l q e t)
  step_by_mentions scope step p l q e (Types.Int t) h = on_row Says q.constant Kinds.NotLvalue p _ (λ x. h)
  step_by_mentions scope step p l q e (Types.Pointer r) h = on_row Says (not (is_complete scope r.number)) Kinds.Mismatch p _ (λ x. on_row Says q.constant Kinds.NotLvalue p _ (λ y. h))
  step_by_mentions scope step p l q e _ h = tt

  step_value_mentions : (scope : Scope) (p : Place) (s : Sort) → Gives (Rules.step_value scope p s)
  step_value_mentions scope p (Sorts.Pointer q) = on_row Says (not (is_complete scope q.number)) Kinds.Mismatch p _ (λ x. tt)
  step_value_mentions scope p _ = tt

  pub step_mentions : (scope : Scope) (step : Step) (p : Place) (a : OperandTree) → Says a → Gives (Rules.step_rules scope step p a)
  step_mentions scope step p (an_lvalue l q) h = step_by_mentions scope step p l q (entry scope q.number) (ctype_of scope q.number) h
  step_mentions scope step p (a_value v) h = step_value_mentions scope p v.sort

  compound_integer_mentions : (op : BinOp) (p : Place) (l : LvalueTree) (q : Qualified) (t : IntType) (v : Rated) (s : Sort) → LvalueMentions o c l → Mentions o c v.value → Gives (Rules.compound_integer op p l q t v s)
  compound_integer_mentions op p l q t v (Sorts.Integer u f) h k = on_row Says q.constant Kinds.NotLvalue p _ (λ x. (h, converted_mentions u _ v k))
  compound_integer_mentions op p l q t v _ h k = tt

  compound_pointer_mentions : (scope : Scope) (op : BinOp) (p : Place) (l : LvalueTree) (q : Qualified) (n : ℕ) (r : Qualified) (v : Rated) (s : Sort) → LvalueMentions o c l → Mentions o c v.value → Gives (Rules.compound_pointer scope op p l q n r v s)
  compound_pointer_mentions scope op p l q n r v (Sorts.Integer u f) h k =
      on_row Says (not (Rules.is_additive op && is_complete scope r.number)) Kinds.Mismatch p _ (λ x. on_row Says q.constant Kinds.NotLvalue p _ (λ y. (h, k)))
  compound_pointer_mentions scope op p l q n r v (Sorts.Pointer s) h k = refusal_mentions (Rules.is_difference op && is_pointer (Sorts.Pointer s)) p
  compound_pointer_mentions scope op p l q n r v Sorts.Null h k = refusal_mentions (Rules.is_difference op && is_pointer Sorts.Null) p
  compound_pointer_mentions scope op p l q n r v (Sorts.Structure s) h k = refusal_mentions (Rules.is_difference op && is_pointer (Sorts.Structure s)) p
  compound_pointer_mentions scope op p l q n r v Sorts.Nothing h k = refusal_mentions (Rules.is_difference op && is_pointer Sorts.Nothing) p

  compound_by_mentions : (scope : Scope) (op : BinOp) (p : Place) (l : LvalueTree) (q : Qualified) (v : Rated) (e : TypeEntry) (t : CType) → LvalueMentions o c l → Mentions o c v.value → Gives (Rules.compound_by scope op p l q v e t)
  compound_by_mentions scope op p l q v e (Types.Int t) h k = compound_integer_mentions op p l q t v v.sort h k
  compound_by_mentions scope op p l q v e (Types.Pointer r) h k = compound_pointer_mentions scope op p l q e.class r v v.sort h k
  compound_by_mentions scope op p l q v e _ h k = tt

  compound_value_mentions : (scope : Scope) (op : BinOp) (p : Place) (s t : Sort) → Gives (Rules.compound_value scope op p s t)
  compound_value_mentions scope op p (Sorts.Integer t f) s = on_row Says (not (is_integer s)) Kinds.Mismatch p _ (λ x. tt)
  compound_value_mentions scope op p (Sorts.Pointer q) (Sorts.Integer t f) = on_row Says (not (Rules.is_additive op && is_complete scope q.number)) Kinds.Mismatch p _ (λ x. tt)
  compound_value_mentions scope op p (Sorts.Pointer q) (Sorts.Pointer s) = refusal_mentions (Rules.is_difference op && is_pointer (Sorts.Pointer s)) p
  compound_value_mentions scope op p (Sorts.Pointer q) Sorts.Null = refusal_mentions (Rules.is_difference op && is_pointer Sorts.Null) p
  compound_value_mentions scope op p (Sorts.Pointer q) (Sorts.Structure s) = refusal_mentions (Rules.is_difference op && is_pointer (Sorts.Structure s)) p
  compound_value_mentions scope op p (Sorts.Pointer q) Sorts.Nothing = refusal_mentions (Rules.is_difference op && is_pointer Sorts.Nothing) p
  compound_value_mentions scope op p Sorts.Null s = refusal_mentions (Rules.is_difference op && is_pointer s) p
  compound_value_mentions scope op p (Sorts.Structure k) s = tt
  compound_value_mentions scope op p Sorts.Nothing s = tt

  pub compound_mentions : (scope : Scope) (op : BinOp) (p : Place) (a : OperandTree) (v : Rated) → Says a → Mentions o c v.value → Gives (Rules.compound_rules scope op p a v)
  compound_mentions scope op p (an_lvalue l q) v h k = compound_by_mentions scope op p l q v (entry scope q.number) (ctype_of scope q.number) h k
  compound_mentions scope op p (a_value x) v h k = compound_value_mentions scope op p x.sort v.sort

  -- ## Casts

  cast_form_mentions : (b : Bool) (e : RvalueTree) (p : Place) → Mentions o c e → Mentions o c (Rules.cast_form b e p)
  cast_form_mentions true e p h = h
  cast_form_mentions false e p h = h

  cast_integer_mentions : (p : Place) (t : IntType) (b : Bool) (v : Rated) (s : Sort) → Mentions o c v.value → Gives (Rules.cast_to_integer p t b v s)
  cast_integer_mentions p t b v (Sorts.Integer from f) h =
      let e : RvalueTree = a_conversion from t v.value p in
      integer_mentions t (fold_converted t f) (Rules.cast_form b e p) p (cast_form_mentions b e p h)
  cast_integer_mentions p t b v _ h = tt

  null_or : (b : Bool) (p : Place) (s : Sort) (r : Result OperandTree Refusal) → Gives r → Gives (cond b (made (a_null p) s p) r)
  null_or true p s r h = tt
  null_or false p s r h = h

  cast_pointer_mentions : (scope : Scope) (p : Place) (q : Qualified) (v : Rated) (s : Sort) → Mentions o c v.value → Gives (Rules.cast_to_pointer scope p q v s)
  cast_pointer_mentions scope p q v (Sorts.Pointer r) h =
      on_row_unless (Mentions o c) Says (pointer_given scope q v (Sorts.Pointer r)) Kinds.Unsupported p _
      (chosen_mentions (is_taken scope q (Sorts.Pointer r)) v.value h) (λ e i. i)
  cast_pointer_mentions scope p q v (Sorts.Integer t f) h = null_or (is_null (Sorts.Integer t f)) p (Sorts.Pointer q) _ tt
  cast_pointer_mentions scope p q v _ h = tt

  cast_by_mentions : (scope : Scope) (p : Place) (b : Bool) (v : Rated) (t : CType) → Mentions o c v.value → Gives (Rules.cast_by scope p b v t)
  cast_by_mentions scope p b v Types.Void h = h
  cast_by_mentions scope p b v (Types.Int t) h = cast_integer_mentions p t b v v.sort h
  cast_by_mentions scope p b v (Types.Pointer q) h = cast_pointer_mentions scope p q v v.sort h
  cast_by_mentions scope p b v (Types.Array e n) h = tt
  cast_by_mentions scope p b v (Types.Struct k) h = tt

  pub cast_mentions : (scope : Scope) (p : Place) (to : CastType) (v : Rated) → Mentions o c v.value → Gives (Rules.cast_rules scope p to v)
  cast_mentions scope p to v h =
      null_or (to.is_void_pointer && is_integer v.sort && is_null v.sort) p Sorts.Null _
      (on_row Says to.is_left_out Kinds.Unsupported p _ (λ e. cast_by_mentions scope p (is_enumerated to.of.number) v (ctype_of scope to.of.number) h))

  -- ## Calls

  abbrev pub RatedMention : List Rated → Type 0
  RatedMention [] = Unit {0}
  RatedMention (v ∷ vs) = Mentions o c v.value × RatedMention vs

  one_more : (e : Option RvalueTree) (es : Option RvalueTrees) → OnSome (Mentions o c) e → OnSome (AllMention o c) es → OnSome (AllMention o c) (Rules.and_given e es)
  one_more None es h k = tt
  one_more (Some e) None h k = tt
  one_more (Some e) (Some es) h k = (h, k)

  all_given_mention : (scope : Scope) (vs : List Rated) (ns : List ℕ) → RatedMention vs → OnSome (AllMention o c) (Rules.all_given scope vs ns)
  all_given_mention scope [] [] h = tt
  all_given_mention scope [] (n ∷ ns) h = tt
  all_given_mention scope (v ∷ vs) [] h = tt
  all_given_mention scope (v ∷ vs) (n ∷ ns) h = one_more (given scope v n) (Rules.all_given scope vs ns) (given_mentions scope v n h.0) (all_given_mention scope vs ns h.1)

  function_mentions : (scope : Scope) (p : Place) (f site : ℕ) (vs : List Rated) (g : Option Function) → slice_get c site ≡ Some f → RatedMention vs → Gives (Rules.function_rules scope p f site vs g)
  function_mentions scope p f site vs None e h = tt
  function_mentions scope p f site vs (Some g) e h =
      on_row Says (Rules.has_structure vs) Kinds.Unsupported p _ (λ x.
      on_row_unless (AllMention o c) Says (Rules.all_given scope vs g.parameters) Kinds.Mismatch p _ (all_given_mention scope vs g.parameters h) (λ es i. (e, i)))

  -- what is called stands at the site
  abbrev pub IsCalled : ℕ → Named → Type 0
  IsCalled site (Names.Function f) = slice_get c site ≡ Some f
  IsCalled site n = Unit {0}

  pub call_mentions : (scope : Scope) (p : Place) (site : ℕ) (vs : List Rated) (n : Named) → IsCalled site n → RatedMention vs → Gives (Rules.call_rules scope p site vs n)
  call_mentions scope p site vs (Names.Function f) e h = function_mentions scope p f site vs (slice_get scope.functions f) e h
  call_mentions scope p site vs _ e h = tt

  -- ## Subscripts and members

  pointer_subscript_mentions : (scope : Scope) (p : Place) (e : Rated) (s : Sort) (i : Rated) → Mentions o c e.value → Mentions o c i.value → Gives (Rules.pointer_subscript scope p e s i)
  pointer_subscript_mentions scope p e (Sorts.Pointer q) i h k = on_row Says (not (is_integer i.sort && is_complete scope q.number)) Kinds.Mismatch p _ (λ x. (h, k))
  pointer_subscript_mentions scope p e _ i h k = tt

  lvalue_subscript_mentions : (scope : Scope) (p : Place) (l : LvalueTree) (q : Qualified) (i : Rated) (t : CType) → LvalueMentions o c l → Mentions o c i.value → Gives (Rules.lvalue_subscript scope p l q i t)
  lvalue_subscript_mentions scope p l q i (Types.Array e n) h k = on_row Says (not (is_integer i.sort)) Kinds.Mismatch p _ (λ x. (h, k))
  lvalue_subscript_mentions scope p l q i (Types.Pointer r) h k =
      pointer_subscript_mentions scope p (loaded scope l q (Types.Pointer r)) (Sorts.Pointer r) i (refl, h) k
  lvalue_subscript_mentions scope p l q i _ h k = tt

  pub subscript_mentions : (scope : Scope) (p : Place) (a : OperandTree) (i : Rated) → Says a → Mentions o c i.value → Gives (Rules.subscript_rules scope p a i)
  subscript_mentions scope p (an_lvalue l q) i h k = lvalue_subscript_mentions scope p l q i (ctype_of scope q.number) h k
  subscript_mentions scope p (a_value e) i h k = pointer_subscript_mentions scope p e e.sort i h k

  dot_by_mentions : (scope : Scope) (p : Place) (l : LvalueTree) (q : Qualified) (n : Name) (np : Place) (t : CType) → LvalueMentions o c l → Gives (Rules.dot_by scope p l q n np t)
  dot_by_mentions scope p l q n np (Types.Struct k) h =
      on_row_unless (λ (m : Member). Unit {0}) Says (member_of scope k n) Kinds.Undeclared np _ (some_any (member_of scope k n)) (λ m i.
      on_row Says (Rules.is_volatile_pointer scope (Rules.member_type q m.part)) Kinds.Unsupported p _ (λ e. h))
  dot_by_mentions scope p l q n np _ h = tt

  pub dot_mentions : (scope : Scope) (p : Place) (a : OperandTree) (n : Name) (np : Place) → Says a → Gives (Rules.dot_rules scope p a n np)
  dot_mentions scope p (an_lvalue l q) n np h = dot_by_mentions scope p l q n np (ctype_of scope q.number) h
  dot_mentions scope p (a_value v) n np h = tt

  arrow_by_mentions : (scope : Scope) (p : Place) (v : Rated) (q : Qualified) (n : Name) (np : Place) (t : CType) → Mentions o c v.value → Gives (Rules.arrow_by scope p v q n np t)
  arrow_by_mentions scope p v q n np (Types.Struct k) h =
      on_row_unless (λ (m : Member). Unit {0}) Says (member_of scope k n) Kinds.Undeclared np _ (some_any (member_of scope k n)) (λ m i.
      on_row Says (Rules.is_volatile_pointer scope (Rules.member_type q m.part)) Kinds.Unsupported p _ (λ e. h))
  arrow_by_mentions scope p v q n np _ h = tt

  pub arrow_mentions : (scope : Scope) (p : Place) (v : Rated) (s : Sort) (n : Name) (np : Place) → Mentions o c v.value → Gives (Rules.arrow_rules scope p v s n np)
  arrow_mentions scope p v (Sorts.Pointer q) n np h = arrow_by_mentions scope p v q n np (ctype_of scope q.number) h
  arrow_mentions scope p v _ n np h = tt
