-- What an expression is lowered to has sorts: its value has that of its kind.
use Rattle.std.proofs.Common.{◌≡◌, refl, sym, ap, subst, ◌∙◌, ℕ, zero, suc, ◌<◌, ◌≤◌, Bool, true, false, List, []}
use Rattle.std.proofs.Common.{◌∷◌, length, get_or, map, Option, Some, None, slice_get, arith}
use Rattle.std.specs.Prelude.{pos, if◌then◌else◌}
use Rattle.std.proofs.lemmas.Option.{none-some, same_Some}
use Rattle.std.proofs.lemmas.Bool.{false≢true}
use Rattle.std.proofs.lemmas.Int.{ints}
use Rattle.temporary_types.specs.tm_cint.declared.int_types.IntType.{IntType}
use Rattle.temporary_types.specs.tm_cint.declared.int_types.IntType.TheVariants as Ints
use Rattle.temporary_types.specs.tm_cint.declared.operators.BinOp.TheVariants as Bins
use Rattle.temporary_types.specs.tm_cint.IntTypes.{IsIn}
use Rattle.temporary_types.specs.tm_cint.Operators.{result_type}
use Rattle.temporary_types.specs.tm_typed.declared.types.CType.{CType}
use Rattle.temporary_types.specs.tm_typed.declared.types.CType.TheVariants as Types
use Rattle.temporary_types.specs.tm_typed.declared.types.Scalar.{Scalar}
use Rattle.temporary_types.specs.tm_typed.declared.types.Scalar.TheVariants as Scalars
use Rattle.temporary_types.specs.tm_typed.declared.expressions.Step.{Step as StepBy}
use Rattle.temporary_types.specs.tm_typed.declared.scopes.ObjectNumber.{ObjectNumber}
use Rattle.temporary_types.specs.tm_typed.declared.scopes.ObjectNumber.TheVariants as Objects
use Rattle.temporary_types.specs.tm_typed.declared.files.LocalEntry.{LocalEntry}
use Rattle.temporary_types.specs.tm_typed.Scopes.{Scope, Function, ctype_of}
use Rattle.temporary_types.specs.tm_typed.Operands.{scalar_of, kept_sort}
use Rattle.temporary_types.specs.tm_typed.TypeRows.{is_pointer_type}
use Rattle.temporary_types.specs.tm_typed.Rules.{is_comparison, FitsRight}
use Rattle.temporary_types.specs.tm_typed.Files.{TypedFunctionTree, no_typed_function}
use Rattle.temporary_types.specs.tm_typed.TypedTrees.{RvalueTree, a_constant, a_folded, a_null, a_load, an_address}
use Rattle.temporary_types.specs.tm_typed.TypedTrees.{a_structure}
use Rattle.temporary_types.specs.tm_typed.TypedTrees.{the_same, a_unary, a_binary, a_comparison_of_pointers, a_move}
use Rattle.temporary_types.specs.tm_typed.TypedTrees.{a_not, an_and}
use Rattle.temporary_types.specs.tm_typed.TypedTrees.{an_or, a_choice, an_assignment, a_compound, a_compound_move}
use Rattle.temporary_types.specs.tm_typed.TypedTrees.{a_unit_step}
use Rattle.temporary_types.specs.tm_typed.TypedTrees.{a_pointer_step, a_function_call, an_input_value, a_probe, a_comma}
use Rattle.temporary_types.specs.tm_typed.TypedTrees.{a_conversion}
use Rattle.temporary_types.specs.tm_typed.TypedTrees.{a_discard, LvalueTree, an_object, an_element, a_pointed_element}
use Rattle.temporary_types.specs.tm_typed.TypedTrees.{a_pointed}
use Rattle.temporary_types.specs.tm_typed.TypedTrees.{an_arrow, a_part, RvalueTrees, no_rvalues, and_rvalue}
use Rattle.temporary_types.specs.tm_typed.TypedTrees.{lvalue_place}
use Rattle.temporary_types.specs.tm_typed.WellTyped.{ValueKind, a_number, a_pointer, no_value, kind_of_scalar, kind_of}
use Rattle.temporary_types.specs.tm_typed.WellTyped.{Context, IsRvalue, IsLvalue, AreArguments}
use Rattle.temporary_types.specs.tm_laid.Layouts.{LaidTree, object_of}
use Rattle.next_action_laws.proofs.low.c_folds.ConvertedValues.{converted_is_in}
use Rattle.temporary_types.specs.concrete_values.declared.values.Value.TheVariants.{Number}
use Rattle.next_action_laws.specs.concrete_steps.Places.{rvalue_place, is_pointer_scalar, gives_pointer}
use Rattle.next_action_laws.specs.concrete_steps.NextAction.{step_operator}
use Rattle.temporary_types.specs.flow_graph.declared.operations.Operation.TheVariants as Op
use Rattle.next_action_laws.specs.typed_file_laws.Mentions.{Mentions, LvalueMentions, AllMention}
use Rattle.next_action_laws.specs.typed_file_laws.TypedBodies.{file_context, called}
use Rattle.next_action_laws.specs.typed_file_laws.Lawful.{object_type}
use Rattle.temporary_types.specs.Sorts.{Sort, numbers, pointers, sort_of_scalar, Within, LeadsInto, IsMutex}
use Rattle.lowering_laws.specs.lowering.Steps.{no_more, first_then, operate, value_of, code}
use Rattle.lowering_laws.specs.lowering.Table.{codes, address_code, inputs, into, implied, has_value, call_has_value}
use Rattle.lowering_laws.specs.lowering.Table.{is_same_place}
use Rattle.lowering_laws.specs.lowering.Table.{is_value_type}
use Rattle.lowering_laws.proofs.Operands.{is_value, AreCalled, gives}
use Rattle.operation_laws.proofs.Within.{within_self}
use Rattle.operation_laws.proofs.StepSorts.{StepFits, InputsFit, CodeFits}
use Rattle.operation_laws.proofs.ValueSorts.{is_pointer_kind, pointer_kind, sort_of_kind, ValueFits, CodesFit}
use Rattle.operation_laws.proofs.ValueSorts.{of_kind, any_value, scalar_value, valued_fits, decided_fits, binary_fits}
use Rattle.operation_laws.proofs.ValueSorts.{pointers_fit, move_fits, load_fits, assignment_fits, compound_fits}
use Rattle.operation_laws.proofs.ValueSorts.{unit_step_fits, moved_fits, choice_fits, comma_fits, call_fits}
use Rattle.operation_laws.proofs.ValueSorts.{conversion_fits}

-- an object of static storage that the file defines, or a local one
abbrev pub IsNamed : (ℕ → Bool) → ObjectNumber → Type 0
IsNamed defined (Objects.Static k) = defined k ≡ true
IsNamed defined (Objects.Local k) = Unit {0}

-- arguments for cells of these types, as many as there are
abbrev pub AreGiven : Scope → List ℕ → List Sort → Type 0
AreGiven scope [] [] = Unit {0}
AreGiven scope (n ∷ ns) (s ∷ ss) =
    (c : Scalar) × (scalar_of scope n ≡ Some c) × Within s (sort_of_scalar c) × AreGiven scope ns ss
AreGiven scope [] (s ∷ ss) = ⊥
AreGiven scope (n ∷ ns) [] = ⊥

-- the sort of the result of a function
abbrev pub result_sort : CType → Option Sort
result_sort t = sort_of_kind (kind_of (kept_sort t))

-- what is known on a call path: which objects there are, and what its calls take and give
pub record IsStage (laid : LaidTree) (path : ℕ) (locals : List LocalEntry) (defined : ℕ → Bool) (calls : List ℕ)
    (Call : ℕ → List Sort → Option Sort → Type 0) : Type 0 where
  pub objects : (x : ObjectNumber) (n : ℕ) → object_type laid.file.statics locals x ≡ Some n → IsNamed defined x
      → object_of laid path x < length laid.objects
  pub few : length laid.file.mutexes ≤ 16
  pub called : AreCalled laid path (file_context laid.file locals) calls
  pub takes : (site f : ℕ) (g : Function) (ins : List Sort) → slice_get calls site ≡ Some f
      → slice_get (file_context laid.file locals).scope.functions f ≡ Some g
      → AreGiven (file_context laid.file locals).scope g.parameters ins
      → Call site ins (result_sort (ctype_of (file_context laid.file locals).scope g.result))

-- ## Which expressions give pointers

scalar_pointer : (s : Scalar) → is_pointer_scalar s ≡ is_pointer_kind (kind_of_scalar s)
scalar_pointer (Scalars.Int t) = refl
scalar_pointer (Scalars.Pointer c) = refl

result_pointer : (t : CType) → is_pointer_type t ≡ is_pointer_kind (kind_of (kept_sort t))
result_pointer Types.Void = refl
result_pointer _ = refl

result_is_value : (t : CType) → is_value_type t ≡ is_value (kind_of (kept_sort t))
result_is_value Types.Void = refl
result_is_value _ = refl

called_result : (fs : List TypedFunctionTree) (f : ℕ) (g : Function) → slice_get (map called fs) f ≡ Some g
    → (get_or fs f no_typed_function).result ≡ g.result
called_result [] f g e = absurd (none-some g e)
called_result (x ∷ xs) zero g e = ap (λ (y : Function). y.result) (same_Some (called x) g e)
called_result (x ∷ xs) (suc f) g e = called_result xs f g e

module _ (laid : LaidTree) (path : ℕ) (locals : List LocalEntry) where
  abbrev pub w : Context
  w = file_context laid.file locals

  pointer_given : (k : ValueKind) (e : RvalueTree) → IsRvalue w k e → gives_pointer laid e ≡ is_pointer_kind k
  pointer_given k (a_folded z e) h = pointer_given (a_number Ints.Int) e h.2 ∙ sym (ap is_pointer_kind h.0)
  pointer_given k (a_null p) h = sym (ap is_pointer_kind h)
  pointer_given k (a_load s v l) h = scalar_pointer s ∙ sym (ap is_pointer_kind h.2)
  pointer_given k (an_address l p) h = sym (ap is_pointer_kind h.1)
  pointer_given k (a_structure l) h = sym (ap is_pointer_kind h.1)
  pointer_given k (the_same e p) h = pointer_given k e h
  pointer_given k (a_binary o t l r p) h = sym (ap is_pointer_kind h.1)
  pointer_given k (a_move m c f e i p) h = sym (ap is_pointer_kind h.1)
  pointer_given k (a_not e p) h = sym (ap is_pointer_kind h.1)
  pointer_given k (an_and l r p) h = sym (ap is_pointer_kind h.2)
  pointer_given k (an_or l r p) h = sym (ap is_pointer_kind h.2)
  pointer_given k (a_choice c x y p) h = pointer_given k x h.3
  pointer_given k (an_assignment s l e p) h = scalar_pointer s ∙ sym (ap is_pointer_kind h.2)
  pointer_given k (a_compound o c t v l e p) h = sym (ap is_pointer_kind h.3)
  pointer_given k (a_compound_move m c n l e p) h = sym (ap is_pointer_kind h.3)
  pointer_given k (a_unit_step s c t v l p) h = sym (ap is_pointer_kind h.2)
  pointer_given k (a_pointer_step s c n l p) h = sym (ap is_pointer_kind h.2)
  pointer_given k (a_function_call f site es p) h =
      ap (λ n. is_pointer_type (ctype_of w.scope n)) (called_result laid.file.functions f h.0 h.1)
      ∙ result_pointer (ctype_of w.scope h.0.result) ∙ sym (ap is_pointer_kind h.2)
  pointer_given k (a_comma l r p) h = pointer_given k r h.2
  pointer_given k (a_discard e p) h = sym (ap is_pointer_kind h.1)
  pointer_given k _ h = sym (ap is_pointer_kind h.0)

  -- where an expression is tested as a pointer, it gives one
  if_pointer : (k : ValueKind) (e : RvalueTree) → IsRvalue w k e → gives_pointer laid e ≡ true → k ≡ a_pointer
  if_pointer k e h t = pointer_kind k (sym (pointer_given k e h) ∙ t)

  scalar_if : (s : Scalar) → is_pointer_scalar s ≡ true → kind_of_scalar s ≡ a_pointer
  scalar_if s t = pointer_kind (kind_of_scalar s) (sym (scalar_pointer s) ∙ t)

  never : (k : ValueKind) → false ≡ true → k ≡ a_pointer
  never k e = absurd (false≢true e)

  -- `++` and `--` add and subtract
  step_right : (s : StepBy) (t : IntType) → FitsRight (step_operator s) t t
  step_right s t = by_test s.minus
    where
      by_test : (b : Bool) → FitsRight (if b then Bins.Sub else Bins.Add) t t
      by_test true = record { fits = λ z. converted_is_in t z }
      by_test false = record { fits = λ z. converted_is_in t z }

  module _ (defined : ℕ → Bool) (calls : List ℕ) (Call : ℕ → List Sort → Option Sort → Type 0)
      (stage : IsStage laid path locals defined calls Call) where
    abbrev Kept : ValueKind → RvalueTree → Type 0
    Kept k e = CodesFit laid Call k (implied e) (codes laid path e)

    -- where a store into an lvalue goes
    leads : (n : ℕ) (l : LvalueTree) → IsLvalue w n l → LvalueMentions defined calls l
        → LeadsInto laid (into laid path l)
    leads n (an_object (Objects.Static x) p) h q = stage.objects (Objects.Static x) n h q
    leads n (an_object (Objects.Local x) p) h q = stage.objects (Objects.Local x) n h tt
    leads n (an_element l i m c p) h q = leads h.0 l h.5 q.0
    leads n (a_part l c p) h q = leads h.0 l h.4 q
    leads n _ h q = tt

    pub is_mutex : (m : ℕ) → m < length laid.file.mutexes → IsMutex laid m
    is_mutex m l = let f = stage.few in (l, omega (arith, l, f))

    -- a number that is added or subtracted
    one_step : StepFits laid Call (pointers ∷ pointers ∷ []) (operate (Op.Const 0 (Number (pos 1))))
        (Some (numbers Ints.Int))
    one_step = (tt, one_in)
      where
        one_in : IsIn Ints.Int (pos 1)
        one_in = record { at_least = omega (arith, ints); at_most = omega (arith, ints) }

    stepped_result : (b : Bool) → slice_get (pointers ∷ pointers ∷ numbers Ints.Int ∷ pointers ∷ [])
        (if b then 1 else 3) ≡ Some pointers
    stepped_result true = refl
    stepped_result false = refl

    mutual
      pub codes_fit : (k : ValueKind) (e : RvalueTree) → IsRvalue w k e → Mentions defined calls e → Kept k e
      codes_fit k (a_constant t z p) h q =
          of_kind laid Call k (a_number t) None _ h.0
          (valued_fits laid Call false p (a_number t) _ (never (a_number t))
          (t, (numbers t ∷ [], (Some (numbers t), (tt, h.1), refl), refl), within_self (numbers t)))
      codes_fit k (a_folded z e) h q =
          let v : ValueFits laid Call (a_number Ints.Int)
          (code (first_then (operate (Op.Const 0 (Number z))) no_more) (Some 0)) =
          (Ints.Int, (numbers Ints.Int ∷ [], (Some (numbers Ints.Int), (tt, h.1), refl), refl), refl) in
          let inner : Kept (a_number Ints.Int) e = codes_fit (a_number Ints.Int) e h.2 q in
          of_kind laid Call k (a_number Ints.Int) None _ h.0 (record { value = v; bare = v; fork = inner.fork })
      codes_fit k (a_null p) h q =
          of_kind laid Call k a_pointer None _ h
          (valued_fits laid Call true p a_pointer _ (λ x. refl)
          (pointers ∷ [], (Some pointers, (tt, tt), refl), refl))
      codes_fit k (a_load s volatile l) h q =
          of_kind laid Call k (kind_of_scalar s) None _ h.2
          (valued_fits laid Call (is_pointer_scalar s) (lvalue_place l) (kind_of_scalar s) _ (scalar_if s)
          (load_fits laid Call volatile s (lvalue_place l) (address_code laid path l) (address_fits h.0 l h.3 q.1)))
      codes_fit k (an_address l p) h q =
          of_kind laid Call k a_pointer None _ h.1
          (valued_fits laid Call true p a_pointer _ (λ x. refl) (address_fits h.0 l h.2 q))
      codes_fit k (a_structure l) h q =
          of_kind laid Call k no_value None _ h.1
          (valued_fits laid Call false (lvalue_place l) no_value _ (never no_value)
          ([], (None, (Some pointers, address_fits h.0 l h.2 q), refl)))
      codes_fit k (the_same e p) h q =
          valued_fits laid Call (gives_pointer laid e) p k _ (if_pointer k e h) (codes_fit k e h q).value
      codes_fit k (a_unary o t e p) h q =
          let v = (codes_fit (a_number t) e h.1 q.1).value in
          of_kind laid Call k (a_number t) None _ h.0
          (valued_fits laid Call false p (a_number t) _ (never (a_number t)) (
            t,
            (
              numbers v.0 ∷ numbers t ∷ [],
              (
                Some (numbers v.0),
                v.1,
                (Some (numbers t), ((numbers v.0, refl, v.2), within_self (numbers t)), refl),
              ),
              refl,
            ),
            within_self (numbers t),
          ))
      codes_fit k (a_binary op t l r p) h q =
          of_kind laid Call k (a_number (result_type op t)) None _ h.1
          (binary_fits laid Call op t h.0 p (codes laid path l).bare (implied l) (codes laid path r).bare (implied r)
          h.2 (codes_fit (a_number t) l h.3 q.0).bare (codes_fit (a_number h.0) r h.4 q.1).bare (is_comparison op) refl)
      codes_fit k (a_comparison_of_pointers equal l r p) h q =
          of_kind laid Call k (a_number Ints.Int) None _ h.0
          (pointers_fit laid Call equal p (codes laid path l).value (codes laid path r).value
          (codes_fit a_pointer l h.1 q.0).value (codes_fit a_pointer r h.2 q.1).value)
      codes_fit k (a_move minus cells first e i p) h q =
          of_kind laid Call k a_pointer None _ h.1
          (valued_fits laid Call true p a_pointer _ (λ x. refl)
          (move_fits laid Call minus cells first p (codes laid path e).value (codes laid path i).value h.0
          (codes_fit a_pointer e h.2 q.0).value (codes_fit (a_number h.0) i h.3 q.1).value))
      codes_fit k (a_not e p) h q =
          of_kind laid Call k (a_number Ints.Int) None _ h.1
          (decided_fits laid Call _ ((codes_fit h.0 e h.3 q).fork h.2))
      codes_fit k (an_and l r p) h q =
          of_kind laid Call k (a_number Ints.Int) None _ h.2
          (decided_fits laid Call _ ((codes_fit h.0 l h.5 q.0).fork h.3, (codes_fit h.1 r h.6 q.1).fork h.4))
      codes_fit k (an_or l r p) h q =
          of_kind laid Call k (a_number Ints.Int) None _ h.2
          (decided_fits laid Call _ ((codes_fit h.0 l h.5 q.0).fork h.3, (codes_fit h.1 r h.6 q.1).fork h.4))
      codes_fit k (a_choice c x y p) h q =
          valued_fits laid Call (gives_pointer laid x) p k _ (if_pointer k x h.3)
          (choice_fits laid Call (has_value laid path x) k (gives laid path w defined calls stage.called k x h.3 q.1)
          (codes laid path c).fork (codes laid path x).value (codes laid path y).value
          ((codes_fit h.0 c h.2 q.0).fork h.1) (codes_fit k x h.3 q.1).value (codes_fit k y h.4 q.2).value)
      codes_fit k (an_assignment s l e p) h q =
          let v : ValueFits laid Call (kind_of_scalar s) (codes laid path e).value =
          subst (λ (z : ValueKind). ValueFits laid Call z (codes laid path e).value) h.2
          (codes_fit k e h.4 q.1).value in
          of_kind laid Call k (kind_of_scalar s) None _ h.2
          (valued_fits laid Call (is_pointer_scalar s) p (kind_of_scalar s) _ (scalar_if s)
          (assignment_fits laid Call s (into laid path l) p (address_code laid path l) (codes laid path e).value
          (address_fits h.0 l h.3 q.0) (leads h.0 l h.3 q.0) v))
      codes_fit k (a_compound op cell of volatile l e p) h q =
          of_kind laid Call k (a_number cell) None _ h.3
          (valued_fits laid Call false p (a_number cell) _ (never (a_number cell))
          (compound_fits laid Call op cell of h.1 volatile (into laid path l) (lvalue_place l) p
          (address_code laid path l)
          (codes laid path e).bare (implied e) (address_fits h.0 l h.5 q.0) h.4 (leads h.0 l h.5 q.0)
          (codes_fit (a_number h.1) e h.6 q.1).bare))
      codes_fit k (a_compound_move minus cells class l e p) h q =
          let v = (codes_fit (a_number h.1) e h.5 q.1).value in
          of_kind laid Call k a_pointer None _ h.3
          (valued_fits laid Call true p a_pointer _ (λ x. refl)
          (moved_fits laid Call minus cells class (into laid path l) (lvalue_place l) p (address_code laid path l)
          (value_of (codes laid path e).value) 3 v.0 (address_fits h.0 l h.4 q.0) (leads h.0 l h.4 q.0) v.1 refl))
      codes_fit k (a_unit_step s cell of volatile l p) h q =
          of_kind laid Call k (a_number cell) None _ h.2
          (valued_fits laid Call false p (a_number cell) _ (never (a_number cell))
          (unit_step_fits laid Call (step_operator s) s.postfix cell of volatile (into laid path l) (lvalue_place l) p
          (address_code laid path l) (address_fits h.0 l h.3 q) (step_right s of) (leads h.0 l h.3 q)))
      codes_fit k (a_pointer_step s cells class l p) h q =
          of_kind laid Call k a_pointer None _ h.2
          (valued_fits laid Call true p a_pointer _ (λ x. refl)
          (moved_fits laid Call s.minus cells class (into laid path l) (lvalue_place l) p (address_code laid path l)
          (operate (Op.Const 0 (Number (pos 1)))) (if s.postfix then 1 else 3) Ints.Int (address_fits h.0 l h.3 q)
          (leads h.0 l h.3 q) one_step (stepped_result s.postfix)))
      codes_fit k (a_function_call f site es p) h q =
          let g : Function = h.0 in
          let j : ValueKind = kind_of (kept_sort (ctype_of w.scope g.result)) in
          let a = inputs_fit g.parameters es h.3 q.1 in
          let same : call_has_value laid path site ≡ is_value j =
          stage.called.call site f g q.0 h.1 ∙ result_is_value (ctype_of w.scope g.result) in
          of_kind laid Call k j None _ h.2
          (valued_fits laid Call (gives_pointer laid (a_function_call f site es p)) p j _
          (if_pointer j (a_function_call f site es p) (g, h.1, refl, h.3))
          (call_fits laid Call (call_has_value laid path site) j same site p (inputs laid path es) a.0 a.1
          (stage.takes site f g a.0 q.0 h.1 a.2)))
      codes_fit k (an_input_value low high p) h q =
          of_kind laid Call k (a_number Ints.Int) None _ h.0
          (valued_fits laid Call false p (a_number Ints.Int) _ (never (a_number Ints.Int)) (
            Ints.Int,
            (numbers Ints.Int ∷ [], (Some (numbers Ints.Int), (tt, (h.1, h.2)), refl), refl),
            refl,
          ))
      codes_fit k (a_probe m p) h q =
          of_kind laid Call k (a_number Ints.Int) None _ h.0
          (valued_fits laid Call false p (a_number Ints.Int) _ (never (a_number Ints.Int)) (
            Ints.Bool,
            (numbers Ints.Bool ∷ [], (Some (numbers Ints.Bool), (is_mutex m h.1, refl), refl), refl),
            refl,
          ))
      codes_fit k (a_comma l r p) h q =
          let v = any_value laid Call h.0 (codes laid path l).value (codes_fit h.0 l h.1 q.0).value in
          valued_fits laid Call (gives_pointer laid r) p k _ (if_pointer k r h.2)
          (comma_fits laid Call (has_value laid path r) k (gives laid path w defined calls stage.called k r h.2 q.1)
          (codes laid path l).value (codes laid path r).value v.0 v.1 (codes_fit k r h.2 q.1).value)
      codes_fit k (a_conversion from to e p) h q =
          of_kind laid Call k (a_number to) _ _ h.0
          (conversion_fits laid Call from to (is_same_place p (rvalue_place e)) p (codes laid path e).value
          (codes_fit (a_number from) e h.1 q).value)
      codes_fit k (a_discard e p) h q =
          of_kind laid Call k no_value None _ h.1
          (valued_fits laid Call false p no_value _ (never no_value)
          ([], (None, any_value laid Call h.0 (codes laid path e).value (codes_fit h.0 e h.2 q).value, refl)))

      pub address_fits : (n : ℕ) (l : LvalueTree) → IsLvalue w n l → LvalueMentions defined calls l
          → CodeFits laid Call (address_code laid path l) (Some pointers)
      address_fits n (an_object (Objects.Static x) p) h q =
          (pointers ∷ [], (Some pointers, (stage.objects (Objects.Static x) n h q, tt), refl), refl)
      address_fits n (an_object (Objects.Local x) p) h q =
          (pointers ∷ [], (Some pointers, (stage.objects (Objects.Local x) n h tt, tt), refl), refl)
      address_fits n (an_element l i m c p) h q =
          let v = (codes_fit (a_number h.1) i h.6 q.1).value in (
            pointers ∷ numbers v.0 ∷ pointers ∷ [],
            (
              Some pointers,
              address_fits h.0 l h.5 q.0,
              (
                Some (numbers v.0),
                v.1,
                (Some pointers, (((pointers, refl, tt), (h.1, (numbers v.0, refl, v.2))), tt), refl),
              ),
            ),
            refl,
          )
      address_fits n (a_pointed_element e i c t p) h q =
          let v = (codes_fit (a_number h.0) i h.5 q.1).value in (
            pointers ∷ numbers v.0 ∷ pointers ∷ pointers ∷ [],
            (
              Some pointers,
              (codes_fit a_pointer e h.4 q.0).value,
              (
                Some (numbers v.0),
                v.1,
                (
                  Some pointers,
                  (((pointers, refl, tt), (h.0, (numbers v.0, refl, v.2))), tt),
                  (Some pointers, ((pointers, refl, tt), tt), refl),
                ),
              ),
            ),
            refl,
          )
      address_fits n (a_pointed e t p) h q = (
        pointers ∷ pointers ∷ [],
        (
          Some pointers,
          (codes_fit a_pointer e h.2 q).value,
          (Some pointers, ((pointers, refl, tt), tt), refl),
        ),
        refl,
      )
      address_fits n (an_arrow e t c p) h q = (
        pointers ∷ pointers ∷ pointers ∷ [],
        (
          Some pointers,
          (codes_fit a_pointer e h.3 q).value,
          (
            Some pointers,
            ((pointers, refl, tt), tt),
            (Some pointers, ((pointers, refl, tt), tt), refl),
          ),
        ),
        refl,
      )
      address_fits n (a_part l c p) h q = (
        pointers ∷ pointers ∷ [],
        (Some pointers, address_fits h.0 l h.4 q, (Some pointers, ((pointers, refl, tt), tt), refl)),
        refl,
      )

      inputs_fit : (ns : List ℕ) (es : RvalueTrees) → AreArguments w ns es → AllMention defined calls es
          → (ins : List Sort) × InputsFit laid Call (inputs laid path es) ins × AreGiven w.scope ns ins
      inputs_fit [] no_rvalues h q = ([], tt, tt)
      inputs_fit (n ∷ ns) no_rvalues h q = absurd h
      inputs_fit [] (and_rvalue e es) h q = absurd h
      inputs_fit (n ∷ ns) (and_rvalue e es) h q =
          let v = scalar_value laid Call h.0 (codes laid path e).value
          (codes_fit (kind_of_scalar h.0) e h.2 q.0).value in
          let r = inputs_fit ns es h.3 q.1 in
          (v.0 ∷ r.0, (v.1, r.1), (h.0, h.1, v.2, r.2))
