-- Expressions keep to proper actions.
use Rattle.std.proofs.Common.{◌≡◌, sym, subst, ℕ, ◌+◌, ◌*◌, ◌<◌, ◌≤◌, Bool, true, false, List, [], ◌∷◌, length, get_or}
use Rattle.std.proofs.Common.{Some, ℤ}
use Rattle.std.specs.Prelude.{pos, if◌then◌else◌, slice_get, map}
use Rattle.cell_layout.specs.tm_cint.declared.int_types.IntType.{IntType}
use Rattle.cell_layout.specs.tm_cint.declared.int_types.IntType.TheVariants as Ints
use Rattle.cell_layout.specs.tm_cint.Operators.{result_type}
use Rattle.cell_layout.specs.tm_terms.declared.places.Place.{Place}
use Rattle.cell_layout.specs.tm_typed.declared.types.CType.TheVariants as Types
use Rattle.cell_layout.specs.tm_typed.declared.types.Scalar.{Scalar}
use Rattle.cell_layout.specs.tm_typed.declared.types.Scalar.TheVariants as Scalars
use Rattle.cell_layout.specs.tm_typed.declared.expressions.Step.{Step}
use Rattle.cell_layout.specs.tm_typed.declared.scopes.ObjectNumber.{ObjectNumber}
use Rattle.cell_layout.specs.tm_typed.declared.scopes.ObjectNumber.TheVariants as Objects
use Rattle.cell_layout.specs.tm_typed.declared.files.LocalEntry.{LocalEntry}
use Rattle.cell_layout.specs.tm_typed.Scopes.{Scope, Function, ctype_of, cells_of}
use Rattle.cell_layout.specs.tm_typed.Operands.{scalar_of, kept_sort}
use Rattle.cell_layout.specs.tm_typed.TypeRows.{is_pointer_type}
use Rattle.cell_layout.specs.tm_typed.Files.{no_typed_function}
use Rattle.cell_layout.specs.tm_typed.TypedTrees.{RvalueTree, a_constant, a_folded, a_null, a_load, an_address}
use Rattle.cell_layout.specs.tm_typed.TypedTrees.{a_structure}
use Rattle.cell_layout.specs.tm_typed.TypedTrees.{the_same, a_unary, a_binary, a_comparison_of_pointers, a_move, a_not}
use Rattle.cell_layout.specs.tm_typed.TypedTrees.{an_and}
use Rattle.cell_layout.specs.tm_typed.TypedTrees.{an_or, a_choice, an_assignment, a_compound, a_compound_move}
use Rattle.cell_layout.specs.tm_typed.TypedTrees.{a_unit_step}
use Rattle.cell_layout.specs.tm_typed.TypedTrees.{a_pointer_step, a_function_call, an_input_value, a_probe, a_comma}
use Rattle.cell_layout.specs.tm_typed.TypedTrees.{a_conversion}
use Rattle.cell_layout.specs.tm_typed.TypedTrees.{a_discard, LvalueTree, an_object, an_element, a_pointed_element}
use Rattle.cell_layout.specs.tm_typed.TypedTrees.{a_pointed}
use Rattle.cell_layout.specs.tm_typed.TypedTrees.{an_arrow, a_part, lvalue_place, RvalueTrees, no_rvalues, and_rvalue}
use Rattle.cell_layout.specs.tm_typed.WellTyped.{ValueKind, a_number, a_pointer, no_value, kind_of_scalar, kind_of}
use Rattle.cell_layout.specs.tm_typed.WellTyped.{Context}
use Rattle.cell_layout.specs.tm_typed.WellTyped.{HasPart, IsRvalue, IsLvalue, AreArguments}
use Rattle.cell_layout.specs.tm_laid.Layouts.{LaidTree, object_of}
use Rattle.cell_types.specs.concrete_values.declared.values.Pointer.TheVariants as Pointers
use Rattle.cell_types.specs.concrete_values.declared.values.Value.{Value}
use Rattle.cell_types.specs.concrete_values.declared.values.Value.TheVariants.{Number, Pointer as APointer}
use Rattle.cell_types.specs.concrete_values.declared.values.Answer.{Answer}
use Rattle.cell_types.specs.concrete_values.declared.actions.Next.TheVariants as Acts
use Rattle.cell_types.specs.concrete_values.Values.{nothing}
use Rattle.cell_types.specs.concrete_values.Operators.{binary, unary, converted}
use Rattle.cell_types.specs.concrete_values.Pointers.{base, part, element, moved, dereferenced, is_object_at, usable}
use Rattle.cell_types.specs.concrete_values.Pointers.{is_compared}
use Rattle.concrete_steps.specs.Places.{is_pointer_scalar, gives_pointer, result_type as result_ctype}
use Rattle.cell_types.specs.concrete_values.Actions.{load_at}
use Rattle.concrete_steps.specs.NextAction.{After, act_then, stored_then, result_then, Use, as_value, as_branch}
use Rattle.concrete_steps.specs.NextAction.{value_used, compound_result, step_operator, step_value, Here, expr_then}
use Rattle.concrete_steps.specs.NextAction.{address_then, arguments_then}
use Rattle.next_action_laws.specs.Actions.{IsCell, IsOwn, IsPlace}
use Rattle.next_action_laws.specs.Regular.{HasScalar}
use Rattle.typed_file_laws.specs.Mentions.{Mentions, LvalueMentions, AllMention}
use Rattle.typed_file_laws.specs.TypedBodies.{file_context, called}
use Rattle.typed_file_laws.specs.Lawful.{object_type}
use Rattle.next_action_laws.proofs.Keeping.{HasKind, to_scalar, Keeps, act_keeps, result_keeps, Uses, value_keeps}
use Rattle.next_action_laws.proofs.Keeping.{truth_keeps}
use Rattle.next_action_laws.proofs.GivenValues.{number_is, binary_is, unary_is, converted_is, compound_is, between_is}
use Rattle.next_action_laws.proofs.GivenValues.{probed_is, moved_is, null_is, leads}
use Rattle.next_action_laws.proofs.Addresses.{at, base_is, part_is, IsElement, element_is, pointer_kind, load_keeps}
use Rattle.next_action_laws.proofs.Addresses.{store_keeps}

-- ## What is known where an expression stands

-- the scope of the tables of a file
abbrev pub scope_in : LaidTree → Scope
scope_in laid = (file_context laid.file []).scope

-- the values are of the cells of these types, as many as there are
abbrev pub AreGiven : LaidTree → List ℕ → List Value → Type 0
AreGiven laid [] [] = Unit {0}
AreGiven laid (n ∷ ns) (v ∷ vs) = (s : Scalar) × (scalar_of (scope_in laid) n ≡ Some s)
    × HasKind laid (kind_of_scalar s) v × AreGiven laid ns vs
AreGiven laid [] (v ∷ vs) = ⊥
AreGiven laid (n ∷ ns) [] = ⊥

-- an object of static storage that passes the test, or a local one
abbrev pub IsNamed : (ℕ → Bool) → ObjectNumber → Type 0
IsNamed defined (Objects.Static k) = defined k ≡ true
IsNamed defined (Objects.Local k) = Unit {0}

-- what holds of the tables and of the objects
pub record AreTables (laid : LaidTree) (body : ℕ) : Type 0 where
  pub few : length laid.objects ≤ 4294967296
  pub parts : (o k m j c n : ℕ) → IsPlace laid body o k m → ctype_of (scope_in laid) m ≡ Types.Struct j
      → HasPart (scope_in laid) j c n → IsPlace laid body o (k + c) n
  pub elements : (o k m n l i : ℕ) → IsPlace laid body o k m → ctype_of (scope_in laid) m ≡ Types.Array n l → i < l
      → IsPlace laid body o (k + i * cells_of (scope_in laid) n) n
  pub scalars : (o k n : ℕ) (s : Scalar) → IsPlace laid body o k n → scalar_of (scope_in laid) n ≡ Some s
      → IsCell laid body o k s
  pub cells : (o n c : ℕ) (s : Scalar) → IsPlace laid body o 0 n → HasScalar (scope_in laid) n c s
      → IsCell laid body o c s

abbrev pub Calls : Type 0
Calls = ℕ → List Value → Place → (Value → After) → After

-- what holds of a call path
pub record IsStage (laid : LaidTree) (body : ℕ) (a : Answer) (path : ℕ) (locals : List LocalEntry) (defined : ℕ → Bool)
    (calls : List ℕ) (call : Calls) : Type 0 where
  pub tables : AreTables laid body
  pub objects : (x : ObjectNumber) (n : ℕ) → object_type laid.file.statics locals x ≡ Some n → IsNamed defined x
      → IsPlace laid body (object_of laid path x) 0 n
  pub own : (k n : ℕ) → object_type laid.file.statics locals (Objects.Local k) ≡ Some n
      → IsOwn laid body (object_of laid path (Objects.Local k))
  pub targets : (o k n : ℕ) → is_object_at laid path o k n ≡ true → IsPlace laid body o k n
  pub called : (m f site : ℕ) (g : Function) (vs : List Value) (p : Place) (go to : Value → After)
      → slice_get calls site ≡ Some f → slice_get (map called laid.file.functions) f ≡ Some g
      → AreGiven laid g.parameters vs
      → ((v : Value) → HasKind laid (kind_of (kept_sort (ctype_of (scope_in laid) g.result))) v
      → Keeps laid body a m (go v) (to v))
      → Keeps laid body a m (call site vs p go) (call site vs p to)

module _ (laid : LaidTree) (body : ℕ) (a : Answer) (path : ℕ) (locals : List LocalEntry) (defined : ℕ → Bool)
    (calls : List ℕ) (call : Calls)
    (stage : IsStage laid body a path locals defined calls call) where
  abbrev pub here : Here
  here = record { laid = laid; path = path; call = call }

  abbrev pub w : Context
  w = file_context laid.file locals

  abbrev pub K : ℕ → After → After → Type 0
  K m k j = Keeps laid body a m k j

  -- what goes on from the address of a place where the type stands
  abbrev pub GoesOn : ℕ → ℕ → (Value → After) → (Value → After) → Type 0
  GoesOn m n go to = (o k : ℕ) → IsPlace laid body o k n → K m (go (at o k)) (to (at o k))

  abbrev of_kind : (m : ℕ) (k j : ValueKind) (how how' : Use) → k ≡ j → Uses laid body a m k how how'
      → Uses laid body a m j how how'
  of_kind m k j how how' e u = subst (λ (x : ValueKind). Uses laid body a m x how how') e u

  folded : (m : ℕ) (z : ℤ) (e : RvalueTree) (how how' : Use) → HasKind laid (a_number Ints.Int) (Number z)
      → ((how how' : Use) → Uses laid body a m (a_number Ints.Int) how how'
      → K m (expr_then here e how) (expr_then here e how'))
      → Uses laid body a m (a_number Ints.Int) how how'
      → K m (expr_then here (a_folded z e) how) (expr_then here (a_folded z e) how')
  folded m z e (as_value go) (as_value to) h r u = u (Number z) h
  folded m z e (as_branch one other) (as_branch one' other') h r u = r (as_branch one other) (as_branch one' other') u
  folded m z e (as_value go) (as_branch one' other') h r u = absurd u
  folded m z e (as_branch one other) (as_value to) h r u = absurd u

  -- what a place gives, and what is stored there
  loads : (m o k n : ℕ) (s : Scalar) (b : Bool) (p : Place) (go to : Value → After) → IsPlace laid body o k n
      → scalar_of w.scope n ≡ Some s
      → ((v : Value) → HasKind laid (kind_of_scalar s) v → K m (go v) (to v))
      → K m (act_then laid (load_at (at o k) s b p) go) (act_then laid (load_at (at o k) s b p) to)
  loads m o k n s b p go to place e h =
      load_keeps laid stage.tables.few body a m o k s b p go to (stage.tables.scalars o k n s place e) h

  stores : (m o k n : ℕ) (s : Scalar) (v : Value) (p : Place) (go to : Value → After) → IsPlace laid body o k n
      → scalar_of w.scope n ≡ Some s → HasKind laid (kind_of_scalar s) v
      → K m (go v) (to v) → K m (stored_then laid (at o k) s v p go) (stored_then laid (at o k) s v p to)
  stores m o k n s v p go to place e x h =
      store_keeps laid stage.tables.few body a m o k s v p (λ u. go v) (λ u. to v)
      (stage.tables.scalars o k n s place e) (to_scalar laid s v x) (λ u. h)

  -- `++` and `--` give the old value or the new one
  stepped : (step : Step) (k : ValueKind) (x v : Value) → HasKind laid k x → HasKind laid k v
      → HasKind laid k (step_value step x v)
  stepped step k x v h g = by_test step.postfix
    where
      by_test : (b : Bool) → HasKind laid k (if b then x else v)
      by_test true = h
      by_test false = g

  based : (m o n : ℕ) (go to : Value → After) → IsPlace laid body o 0 n → GoesOn m n go to
      → K m (go (base laid o)) (to (base laid o))
  based m o n go to place h =
      let P : Value → Type 0 = λ x. K m (go x) (to x) in
      subst P (sym (base_is laid stage.tables.few o place.object)) (h o 0 place)

  parted : (m o k c n : ℕ) (go to : Value → After) → IsPlace laid body o (k + c) n → GoesOn m n go to
      → K m (go (part laid c (at o k))) (to (part laid c (at o k)))
  parted m o k c n go to place h =
      let P : Value → Type 0 = λ x. K m (go x) (to x) in
      subst P (sym (part_is laid stage.tables.few o k c place.object place.inside)) (h o (k + c) place)

  subscripted : (m o k b n l : ℕ) (t : IntType) (c : ℕ) (i : Value) (p : Place) (go to : Value → After)
      → IsPlace laid body o k b → ctype_of w.scope b ≡ Types.Array n l → c ≡ cells_of w.scope n
      → HasKind laid (a_number t) i → GoesOn m n go to
      → K m (result_then (element laid l c (at o k) i) p go) (result_then (element laid l c (at o k) i) p to)
  subscripted m o k b n l t c i p go to place e q x h =
      result_keeps laid body a m (element laid l c (at o k) i) p go to (λ r f.
      let y : IsElement laid stage.tables.few o k l c r = element_is laid stage.tables.few t o k l c i r x f in
      let P : Value → Type 0 = λ x. K m (go x) (to x) in
      let Q : ℕ → Type 0 = λ d. IsPlace laid body o (k + y.place * d) n in
      let there : IsPlace laid body o (k + y.place * c) n =
      subst Q (sym q) (stage.tables.elements o k b n l y.place place e y.below) in
      subst P (sym (y.is there.object there.inside)) (h o (k + y.place * c) there))

  pointed : (m n : ℕ) (v : Value) (p : Place) (go to : Value → After) → GoesOn m n go to
      → K m (result_then (dereferenced laid path n v) p go) (result_then (dereferenced laid path n v) p to)
  pointed m n v p go to h =
      result_keeps laid body a m (dereferenced laid path n v) p go to (λ u e.
      let x = leads laid path n v u e in
      let P : Value → Type 0 = λ y. K m (go y) (to y) in
      subst P (sym x.2) (h x.0 x.1 (stage.targets x.0 x.1 n x.3)))

  used : (m : ℕ) (k : ValueKind) (how how' : Use) (pointer : Bool) (p : Place) → Uses laid body a m k how how'
      → (v : Value) → HasKind laid k v → K m (value_used how pointer p v) (value_used how' pointer p v)
  used m k how how' pointer p u v x = value_keeps laid body a m k how how' pointer p u v x

  mutual
    pub expr_keeps : (m : ℕ) (k : ValueKind) (e : RvalueTree) → IsRvalue w k e → Mentions defined calls e
        → (how how' : Use) → Uses laid body a m k how how' → K m (expr_then here e how) (expr_then here e how')
    expr_keeps m k (a_constant t z p) h q how how' u =
        used m (a_number t) how how' false p (of_kind m k (a_number t) how how' h.0 u) (Number z)
        (number_is laid t z h.1)
    expr_keeps m k (a_folded z e) h q how how' u =
        folded m z e how how' (number_is laid Ints.Int z h.1) (λ x y v. expr_keeps m (a_number Ints.Int) e h.2 q x y v)
        (of_kind m k (a_number Ints.Int) how how' h.0 u)
    expr_keeps m k (a_null p) h q how how' u =
        used m a_pointer how how' true p (of_kind m k a_pointer how how' h u) (APointer Pointers.Null) (null_is laid)
    expr_keeps m k (a_load s b l) h q how how' u =
        let u' = of_kind m k (kind_of_scalar s) how how' h.2 u in
        address_keeps m h.0 l h.3 q.1 _ _ (λ o j place.
        loads m o j h.0 s b (lvalue_place l) _ _ place h.1
        (λ v x. used m (kind_of_scalar s) how how' (is_pointer_scalar s) (lvalue_place l) u' v x))
    expr_keeps m k (an_address l p) h q how how' u =
        let u' = of_kind m k a_pointer how how' h.1 u in
        address_keeps m h.0 l h.2 q
        _ _ (λ o j place. used m a_pointer how how' true p u' (at o j)
        (pointer_kind laid stage.tables.few o j place.object place.inside))
    expr_keeps m k (a_structure l) h q how how' u =
        let u' = of_kind m k no_value how how' h.1 u in
        address_keeps m h.0 l h.2 q _ _ (λ o j place. used m no_value how how' false (lvalue_place l) u' nothing tt)
    expr_keeps m k (the_same e p) h q how how' u =
        expr_keeps m k e h q (as_value (value_used how (gives_pointer laid e) p))
        (as_value (value_used how' (gives_pointer laid e) p))
        (λ v x. used m k how how' (gives_pointer laid e) p u v x)
    expr_keeps m k (a_unary o t e p) h q how how' u =
        let u' = of_kind m k (a_number t) how how' h.0 u in
        expr_keeps m (a_number t) e h.1 q.1 (as_value _) (as_value _) (λ x y.
        result_keeps laid body a m (unary o t x) p
        _ _ (λ v f. used m (a_number t) how how' false p u' v (unary_is laid o t x v f)))
    expr_keeps m k (a_binary op t l r p) h q how how' u =
        let u' = of_kind m k (a_number (result_type op t)) how how' h.1 u in
        expr_keeps m (a_number t) l h.3 q.0 (as_value _) (as_value _) (λ x hx.
        expr_keeps m (a_number h.0) r h.4 q.1 (as_value _) (as_value _) (λ y hy.
        result_keeps laid body a m (binary op t x y) p
        _ _ (λ v f. used m (a_number (result_type op t)) how how' false p u' v (binary_is laid op t x y v f))))
    expr_keeps m k (a_comparison_of_pointers equal l r p) h q how how' u =
        let u' = of_kind m k (a_number Ints.Int) how how' h.0 u in
        expr_keeps m a_pointer l h.1 q.0 (as_value _) (as_value _) (λ x hx.
        expr_keeps m a_pointer r h.2 q.1 (as_value _) (as_value _) (λ y hy.
        result_keeps laid body a m (usable x) p _ _ (λ v e.
        result_keeps laid body a m (usable y) p
        _ _ (λ v' e'. truth_keeps laid body a m how how' u' (is_compared equal v v')))))
    expr_keeps m k (a_move minus c true e i p) h q how how' u =
        let u' = of_kind m k a_pointer how how' h.1 u in
        expr_keeps m (a_number h.0) i h.3 q.1 (as_value _) (as_value _) (λ y hy.
        expr_keeps m a_pointer e h.2 q.0 (as_value _) (as_value _) (λ x hx.
        result_keeps laid body a m (moved laid minus c x y) p
        _ _ (λ v f. used m a_pointer how how' true p u' v (moved_is laid minus c x y v f))))
    expr_keeps m k (a_move minus c false e i p) h q how how' u =
        let u' = of_kind m k a_pointer how how' h.1 u in
        expr_keeps m a_pointer e h.2 q.0 (as_value _) (as_value _) (λ x hx.
        expr_keeps m (a_number h.0) i h.3 q.1 (as_value _) (as_value _) (λ y hy.
        result_keeps laid body a m (moved laid minus c x y) p
        _ _ (λ v f. used m a_pointer how how' true p u' v (moved_is laid minus c x y v f))))
    expr_keeps m k (a_not e p) h q how how' u =
        let u' = of_kind m k (a_number Ints.Int) how how' h.1 u in
        expr_keeps m h.0 e h.3 q (as_branch _ _) (as_branch _ _)
        (truth_keeps laid body a m how how' u' false, truth_keeps laid body a m how how' u' true)
    expr_keeps m k (an_and l r p) h q how how' u =
        let u' = of_kind m k (a_number Ints.Int) how how' h.2 u in
        expr_keeps m h.0 l h.5 q.0 (as_branch _ _) (as_branch _ _) (
          expr_keeps m h.1 r h.6 q.1 (as_branch _ _) (as_branch _ _)
              (truth_keeps laid body a m how how' u' true, truth_keeps laid body a m how how' u' false),
          truth_keeps laid body a m how how' u' false,
        )
    expr_keeps m k (an_or l r p) h q how how' u =
        let u' = of_kind m k (a_number Ints.Int) how how' h.2 u in
        expr_keeps m h.0 l h.5 q.0 (as_branch _ _) (as_branch _ _) (
          truth_keeps laid body a m how how' u' true,
          expr_keeps m h.1 r h.6 q.1 (as_branch _ _) (as_branch _ _)
              (truth_keeps laid body a m how how' u' true, truth_keeps laid body a m how how' u' false),
        )
    expr_keeps m k (a_choice c x y p) h q how how' u =
        expr_keeps m h.0 c h.2 q.0 (as_branch _ _) (as_branch _ _) (
          expr_keeps m k x h.3 q.1 (as_value _) (as_value _)
              (λ v hv. used m k how how' (gives_pointer laid x) p u v hv),
          expr_keeps m k y h.4 q.2 (as_value _) (as_value _)
              (λ v hv. used m k how how' (gives_pointer laid x) p u v hv),
        )
    expr_keeps m k (an_assignment s l e p) h q how how' u =
        let u' = of_kind m k (kind_of_scalar s) how how' h.2 u in
        address_keeps m h.0 l h.3 q.0 _ _ (λ o j place.
        expr_keeps m k e h.4 q.1 (as_value _) (as_value _) (λ v hv.
        let x : HasKind laid (kind_of_scalar s) v = subst (λ (y : ValueKind). HasKind laid y v) h.2 hv in
        stores m o j h.0 s v p (value_used how (is_pointer_scalar s) p) (value_used how' (is_pointer_scalar s) p) place
        h.1 x (used m (kind_of_scalar s) how how' (is_pointer_scalar s) p u' v x)))
    expr_keeps m k (a_compound op c t b l e p) h q how how' u =
        let u' = of_kind m k (a_number c) how how' h.3 u in
        address_keeps m h.0 l h.5 q.0 _ _ (λ o j place.
        loads m o j h.0 (Scalars.Int c) b (lvalue_place l) _ _ place h.2 (λ x hx.
        expr_keeps m (a_number h.1) e h.6 q.1 (as_value _) (as_value _) (λ y hy.
        result_keeps laid body a m (compound_result op c t x y) p _ _ (λ v f.
        let z : HasKind laid (a_number c) v = compound_is laid op c t x y v f in
        stores m o j h.0 (Scalars.Int c) v p (value_used how false p) (value_used how' false p) place h.2 z
        (used m (a_number c) how how' false p u' v z)))))
    expr_keeps m k (a_compound_move minus c class l e p) h q how how' u =
        let u' = of_kind m k a_pointer how how' h.3 u in
        address_keeps m h.0 l h.4 q.0 _ _ (λ o j place.
        loads m o j h.0 (Scalars.Pointer class) false (lvalue_place l) _ _ place h.2 (λ x hx.
        expr_keeps m (a_number h.1) e h.5 q.1 (as_value _) (as_value _) (λ y hy.
        result_keeps laid body a m (moved laid minus c x y) p _ _ (λ v f.
        let z : HasKind laid a_pointer v = moved_is laid minus c x y v f in
        stores m o j h.0 (Scalars.Pointer class) v p (value_used how true p) (value_used how' true p) place h.2 z
        (used m a_pointer how how' true p u' v z)))))
    expr_keeps m k (a_unit_step step c t b l p) h q how how' u =
        let u' = of_kind m k (a_number c) how how' h.2 u in
        address_keeps m h.0 l h.3 q _ _ (λ o j place.
        loads m o j h.0 (Scalars.Int c) b (lvalue_place l) _ _ place h.1 (λ x hx.
        result_keeps laid body a m (compound_result (step_operator step) c t x (Number (pos 1))) p _ _ (λ v f.
        let z : HasKind laid (a_number c) v = compound_is laid (step_operator step) c t x (Number (pos 1)) v f in
        stores m o j h.0 (Scalars.Int c) v p (λ y. value_used how false p (step_value step x y))
        (λ y. value_used how' false p (step_value step x y)) place h.1 z
        (used m (a_number c) how how' false p u' (step_value step x v) (stepped step (a_number c) x v hx z)))))
    expr_keeps m k (a_pointer_step step c class l p) h q how how' u =
        let u' = of_kind m k a_pointer how how' h.2 u in
        address_keeps m h.0 l h.3 q _ _ (λ o j place.
        loads m o j h.0 (Scalars.Pointer class) false (lvalue_place l) _ _ place h.1 (λ x hx.
        result_keeps laid body a m (moved laid step.minus c x (Number (pos 1))) p _ _ (λ v f.
        let z : HasKind laid a_pointer v = moved_is laid step.minus c x (Number (pos 1)) v f in
        stores m o j h.0 (Scalars.Pointer class) v p (λ y. value_used how true p (step_value step x y))
        (λ y. value_used how' true p (step_value step x y)) place h.1 z
        (used m a_pointer how how' true p u' (step_value step x v) (stepped step a_pointer x v hx z)))))
    expr_keeps m k (a_function_call f site es p) h q how how' u =
        let g : Function = h.0 in
        let j : ValueKind = kind_of (kept_sort (ctype_of w.scope g.result)) in
        let u' = of_kind m k j how how' h.2 u in
        arguments_keeps m g.parameters es h.3 q.1 _ _ (λ vs given.
        stage.called m f site g vs p _ _ q.0 h.1 given
        (λ v x. used m j how how' (is_pointer_type (result_ctype laid (get_or laid.file.functions f no_typed_function)))
        p u' v x))
    expr_keeps m k (an_input_value low high p) h q how how' u =
        let u' = of_kind m k (a_number Ints.Int) how how' h.0 u in
        act_keeps laid body a m (Acts.Chosen low high) _ _ tt
        (λ y v f. used m (a_number Ints.Int) how how' false p u' v
        (between_is laid Ints.Int low high y v h.1 h.2 f))
    expr_keeps m k (a_probe x p) h q how how' u =
        let u' = of_kind m k (a_number Ints.Int) how how' h.0 u in
        act_keeps laid body a m (Acts.Probe x p) _ _ h.1
        (λ y v f. used m (a_number Ints.Int) how how' false p u' v (probed_is laid x p y v f))
    expr_keeps m k (a_comma l r p) h q how how' u =
        expr_keeps m h.0 l h.1 q.0 (as_value _) (as_value _) (λ x hx.
        expr_keeps m k r h.2 q.1 (as_value _) (as_value _) (λ v hv. used m k how how' (gives_pointer laid r) p u v hv))
    expr_keeps m k (a_conversion from to e p) h q how how' u =
        let u' = of_kind m k (a_number to) how how' h.0 u in
        expr_keeps m (a_number from) e h.1 q (as_value _) (as_value _)
        (λ x hx. used m (a_number to) how how' false p u' (converted from to x) (converted_is laid from to x hx))
    expr_keeps m k (a_discard e p) h q how how' u =
        let u' = of_kind m k no_value how how' h.1 u in
        expr_keeps m h.0 e h.2 q (as_value _) (as_value _) (λ x hx. used m no_value how how' false p u' nothing tt)

    pub address_keeps : (m n : ℕ) (l : LvalueTree) → IsLvalue w n l → LvalueMentions defined calls l
        → (go to : Value → After) → GoesOn m n go to → K m (address_then here l go) (address_then here l to)
    address_keeps m n (an_object (Objects.Static x) p) h q go to g =
        based m (object_of laid path (Objects.Static x)) n go to (stage.objects (Objects.Static x) n h q) g
    address_keeps m n (an_object (Objects.Local x) p) h q go to g =
        based m (object_of laid path (Objects.Local x)) n go to (stage.objects (Objects.Local x) n h tt) g
    address_keeps m n (an_element l i len c p) h q go to g =
        address_keeps m h.0 l h.5 q.0 _ _ (λ o j place.
        expr_keeps m (a_number h.1) i h.6 q.1 (as_value _) (as_value _)
        (λ y hy. subscripted m o j h.0 n len h.1 c y p go to place h.2 h.4 hy g))
    address_keeps m n (a_pointed_element e i c t p) h q go to g =
        expr_keeps m a_pointer e h.4 q.0 (as_value _) (as_value _) (λ x hx.
        expr_keeps m (a_number h.0) i h.5 q.1 (as_value _) (as_value _) (λ y hy.
        result_keeps laid body a m (moved laid false c x y) p
        _ _ (λ v f. pointed m t v p go to (subst (λ y. GoesOn m y go to) (sym h.1) g))))
    address_keeps m n (a_pointed e t p) h q go to g =
        expr_keeps m a_pointer e h.2 q (as_value _) (as_value _)
        (λ x hx. pointed m t x p go to (subst (λ y. GoesOn m y go to) (sym h.0) g))
    address_keeps m n (an_arrow e t c p) h q go to g =
        expr_keeps m a_pointer e h.3 q (as_value _) (as_value _) (λ x hx.
        pointed m t x p _ _ (λ o j place. parted m o j c n go to (stage.tables.parts o j t h.0 c n place h.1 h.2) g))
    address_keeps m n (a_part l c p) h q go to g =
        address_keeps m h.0 l h.4 q
        _ _ (λ o j place. parted m o j c n go to (stage.tables.parts o j h.0 h.1 c n place h.2 h.3) g)

    pub arguments_keeps : (m : ℕ) (ns : List ℕ) (es : RvalueTrees) → AreArguments w ns es → AllMention defined calls es
        → (go to : List Value → After)
        → ((vs : List Value) → AreGiven laid ns vs → K m (go vs) (to vs))
        → K m (arguments_then here es go) (arguments_then here es to)
    arguments_keeps m [] no_rvalues h q go to g = g [] tt
    arguments_keeps m (n ∷ ns) no_rvalues h q go to g = absurd h
    arguments_keeps m [] (and_rvalue e es) h q go to g = absurd h
    arguments_keeps m (n ∷ ns) (and_rvalue e es) h q go to g =
        expr_keeps m (kind_of_scalar h.0) e h.2 q.0 (as_value _) (as_value _) (λ v hv.
        arguments_keeps m ns es h.3 q.1 _ _ (λ vs x. g (v ∷ vs) (h.0, h.1, hv, x)))
