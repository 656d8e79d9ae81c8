-- What an expression is lowered to keeps kinds: the address of an lvalue is one at which its type stands.
use Rattle.std.proofs.Common.{◌≡◌, refl, sym, subst, ℕ, ◌+◌, ◌*◌, ◌<◌, ◌≤◌, Bool, true, false, List, []}
use Rattle.std.proofs.Common.{◌∷◌, length, Some, slice_get}
use Rattle.std.specs.Prelude.{pos, if◌then◌else◌}
use Rattle.std.proofs.lemmas.Option.{slice_get_within}
use Rattle.operation_laws.specs.tm_cint.declared.int_types.IntType.{IntType}
use Rattle.operation_laws.specs.tm_cint.declared.int_types.IntType.TheVariants as Ints
use Rattle.operation_laws.specs.tm_cint.declared.operators.BinOp.{BinOp}
use Rattle.operation_laws.specs.tm_terms.declared.places.Place.{Place}
use Rattle.operation_laws.specs.tm_typed.declared.types.CType.TheVariants as Types
use Rattle.operation_laws.specs.tm_typed.declared.types.Scalar.{Scalar}
use Rattle.operation_laws.specs.tm_typed.declared.types.Scalar.TheVariants as Scalars
use Rattle.operation_laws.specs.tm_typed.declared.scopes.ObjectNumber.{ObjectNumber}
use Rattle.operation_laws.specs.tm_typed.declared.scopes.ObjectNumber.TheVariants as Objects
use Rattle.operation_laws.specs.tm_typed.declared.files.LocalEntry.{LocalEntry}
use Rattle.operation_laws.specs.tm_typed.Scopes.{ctype_of, cells_of}
use Rattle.operation_laws.specs.tm_typed.Rules.{is_comparison}
use Rattle.operation_laws.specs.tm_typed.TypedTrees.{RvalueTree, a_constant, a_folded, a_null, a_load, an_address}
use Rattle.operation_laws.specs.tm_typed.TypedTrees.{a_structure}
use Rattle.operation_laws.specs.tm_typed.TypedTrees.{the_same, a_unary, a_binary, a_comparison_of_pointers, a_move}
use Rattle.operation_laws.specs.tm_typed.TypedTrees.{a_not, an_and}
use Rattle.operation_laws.specs.tm_typed.TypedTrees.{an_or, a_choice, an_assignment, a_compound, a_compound_move}
use Rattle.operation_laws.specs.tm_typed.TypedTrees.{a_unit_step}
use Rattle.operation_laws.specs.tm_typed.TypedTrees.{a_pointer_step, a_function_call, an_input_value, a_probe, a_comma}
use Rattle.operation_laws.specs.tm_typed.TypedTrees.{a_conversion}
use Rattle.operation_laws.specs.tm_typed.TypedTrees.{a_discard, LvalueTree, an_object, an_element, a_pointed_element}
use Rattle.operation_laws.specs.tm_typed.TypedTrees.{a_pointed}
use Rattle.operation_laws.specs.tm_typed.TypedTrees.{an_arrow, a_part, RvalueTrees, no_rvalues, and_rvalue}
use Rattle.operation_laws.specs.tm_typed.TypedTrees.{lvalue_place}
use Rattle.operation_laws.specs.tm_typed.WellTyped.{ValueKind, a_number, a_pointer, kind_of_scalar, Context}
use Rattle.operation_laws.specs.tm_typed.WellTyped.{IsRvalue, IsLvalue, AreArguments, HasPart}
use Rattle.operation_laws.specs.tm_laid.Layouts.{LaidTree, object_of}
use Rattle.operation_laws.specs.concrete_values.declared.values.Value.TheVariants.{Number}
use Rattle.operation_laws.specs.concrete_values.Pointers.{is_object_at}
use Rattle.operation_laws.specs.concrete_steps.Places.{rvalue_place, is_pointer_scalar, gives_pointer}
use Rattle.operation_laws.specs.concrete_steps.NextAction.{step_operator}
use Rattle.operation_laws.specs.flow_graph.declared.operations.Into.{Into}
use Rattle.operation_laws.specs.flow_graph.declared.operations.Operation.TheVariants as Op
use Rattle.operation_laws.specs.typed_file_laws.Mentions.{Mentions, LvalueMentions, AllMention}
use Rattle.operation_laws.specs.typed_file_laws.TypedBodies.{file_context}
use Rattle.operation_laws.specs.typed_file_laws.Lawful.{object_type}
use Rattle.operation_laws.specs.lowering.Steps.{Steps, no_more, first_then, Step, operate, value_of, Inputs, Code, code}
use Rattle.operation_laws.specs.lowering.Steps.{Fork}
use Rattle.operation_laws.specs.lowering.Steps.{converse, both_of, either_of}
use Rattle.operation_laws.specs.lowering.Table.{Conversion, conversion, converted_at, more_after, Codes, valued}
use Rattle.operation_laws.specs.lowering.Table.{decided}
use Rattle.operation_laws.specs.lowering.Table.{operands, binary_code, binary_codes, pointers_codes, move_code}
use Rattle.operation_laws.specs.lowering.Table.{loading, load_code, choice_code, comma_code, assignment_code}
use Rattle.operation_laws.specs.lowering.Table.{stored_steps}
use Rattle.operation_laws.specs.lowering.Table.{changed_steps, compound_with, unit_step_with, moved_code}
use Rattle.operation_laws.specs.lowering.Table.{converted_code, call_code}
use Rattle.operation_laws.specs.lowering.Table.{codes, address_code, inputs, into, implied, has_value, call_has_value}
use Rattle.operation_laws.specs.lowering.Table.{is_same_place}
use Rattle.operation_laws.specs.next_action_laws.Actions.{IsPlace}
use Rattle.sound_runs.specs.Addresses.{Kind, address_of, anything, KeepsKinds}
use Rattle.sound_addresses.proofs.Kept.{IsDull, base_keeps, deref_keeps, offset_keeps, index_keeps}
use Rattle.sound_addresses.proofs.StepKinds.{Sees, InputsFit, CodeFits, ForkFits, DullStep, DullSteps}
use Rattle.sound_addresses.proofs.StepKinds.{dull_gives, dull_fork, dull_code, any_code, convert_dull}

-- an object of static storage that the file defines, or a local one
abbrev pub IsNamed : (ℕ → Bool) → ObjectNumber → Type 0
IsNamed defined (Objects.Static k) = defined k ≡ true
IsNamed defined (Objects.Local k) = Unit {0}

-- what is known on a call path: where objects, parts, elements and pointed values stand
pub record IsStage (laid : LaidTree) (body path : ℕ) (locals : List LocalEntry) (defined : ℕ → Bool) : Type 0 where
  pub few : length laid.objects ≤ 4294967296
  pub objects : (x : ObjectNumber) (n : ℕ) → object_type laid.file.statics locals x ≡ Some n → IsNamed defined x
      → IsPlace laid body (object_of laid path x) 0 n
  pub targets : (o k n : ℕ) → is_object_at laid path o k n ≡ true → IsPlace laid body o k n
  pub parts : (o k m j c n : ℕ) → IsPlace laid body o k m
      → ctype_of (file_context laid.file locals).scope m ≡ Types.Struct j
      → HasPart (file_context laid.file locals).scope j c n → IsPlace laid body o (k + c) n
  pub elements : (o k m n l i : ℕ) → IsPlace laid body o k m
      → ctype_of (file_context laid.file locals).scope m ≡ Types.Array n l → i < l
      → IsPlace laid body o (k + i * cells_of (file_context laid.file locals).scope n) n

module _ (laid : LaidTree) (body : ℕ) (Call : ℕ → Type 0) where
  abbrev Any : Code → Type 0
  Any c = CodeFits laid body Call c anything

  abbrev Dull : Steps → Type 0
  Dull steps = DullSteps laid body Call steps

  pub record CodesFit (x : Codes) : Type 0 where
    pub value : CodeFits laid body Call x.value anything
    pub bare : CodeFits laid body Call x.bare anything
    pub fork : ForkFits laid body Call x.fork

  -- ## The forms of the table

  valued_fits : (b : Bool) (p : Place) (c : Code) → Any c → CodesFit (valued b p c)
  valued_fits false p c h = record {
    value = h;
    bare = h;
    fork = dull_fork laid body Call (valued false p c).fork (h, tt);
  }
  valued_fits true p c h = record {
    value = h;
    bare = h;
    fork = dull_fork laid body Call (valued true p c).fork (h, (tt, tt));
  }

  decided_fits : (f : Fork) → ForkFits laid body Call f → CodesFit (decided f)
  decided_fits f h = record {
    value = dull_code laid body Call (decided f).value (h, tt);
    bare = dull_code laid body Call (decided f).value (h, tt);
    fork = h;
  }

  operands_dull : (l : Code) (cl : Conversion) (r : Code) (cr : Conversion) (rest : ℕ → ℕ → ℕ → Steps) → Any l → Any r
      → ((x y n : ℕ) → Dull (rest x y n)) → Dull (operands l cl r cr rest)
  operands_dull l cl r cr rest hl hr h = (
    hl,
    (
      hr,
      convert_dull laid body Call cl 0 _
          (convert_dull laid body Call cr 1 _ (h (converted_at cl 0 2) (converted_at cr 1 (more_after cl 2))
          (more_after cr (more_after cl 2)))),
    ),
  )

  binary_value : (op : BinOp) (t : IntType) (p : Place) (l : Code) (cl : Conversion) (r : Code) (cr : Conversion)
      → Any l → Any r → Any (binary_code op t p l cl r cr)
  binary_value op t p l cl r cr hl hr =
      dull_code laid body Call (binary_code op t p l cl r cr)
      (operands_dull l cl r cr (λ x y n. first_then (operate (Op.Bin 0 op t x y p)) no_more) hl hr
      (λ x y n. (tt, tt)))

  binary_fits : (b : Bool) (op : BinOp) (t : IntType) (p : Place) (l : Code) (cl : Conversion) (r : Code)
      (cr : Conversion) → Any l → Any r → CodesFit (binary_codes b op t p l cl r cr)
  binary_fits false op t p l cl r cr hl hr = valued_fits false p _ (binary_value op t p l cl r cr hl hr)
  binary_fits true op t p l cl r cr hl hr = record {
    value = binary_value op t p l cl r cr hl hr;
    bare = binary_value op t p l cl r cr hl hr;
    fork = dull_fork laid body Call (binary_codes true op t p l cl r cr).fork
        (operands_dull l cl r cr (λ x y n. no_more) hl hr (λ x y n. tt));
  }

  pointers_fit : (equal : Bool) (p : Place) (l r : Code) → Any l → Any r → CodesFit (pointers_codes equal p l r)
  pointers_fit equal p l r hl hr = record {
    value = dull_code laid body Call (pointers_codes equal p l r).value (hl, (hr, (tt, (tt, (tt, tt)))));
    bare = dull_code laid body Call (pointers_codes equal p l r).value (hl, (hr, (tt, (tt, (tt, tt)))));
    fork = dull_fork laid body Call (pointers_codes equal p l r).fork (hl, (hr, (tt, (tt, tt))));
  }

  move_fits : (minus : Bool) (cells : ℕ) (first : Bool) (p : Place) (e i : Code) → Any e → Any i
      → Any (move_code minus cells first p e i)
  move_fits minus cells false p e i he hi =
      dull_code laid body Call (move_code minus cells false p e i) (he, (hi, (tt, tt)))
  move_fits minus cells true p e i he hi =
      dull_code laid body Call (move_code minus cells true p e i) (hi, (he, (tt, tt)))

  loading_dull : (volatile : Bool) (s : Scalar) (a : ℕ) (p : Place) → IsDull (loading volatile s a p)
  loading_dull false s a p = tt
  loading_dull true s a p = tt

  load_fits : (volatile : Bool) (s : Scalar) (p : Place) (a : Code) → Any a → Any (load_code volatile s p a)
  load_fits volatile s p a h =
      dull_code laid body Call (load_code volatile s p a) (h, (loading_dull volatile s 0 p, tt))

  choice_fits : (b : Bool) (f : Fork) (x y : Code) → ForkFits laid body Call f → Any x → Any y
      → Any (choice_code b f x y)
  choice_fits true f x y hf hx hy = dull_code laid body Call (choice_code true f x y) ((hf, hx, hy), tt)
  choice_fits false f x y hf hx hy = dull_code laid body Call (choice_code false f x y) ((hf, hx, hy), tt)

  comma_fits : (b : Bool) (l r : Code) → Any l → Any r → Any (comma_code b l r)
  comma_fits true l r hl hr = dull_code laid body Call (comma_code true l r) (hl, (hr, tt))
  comma_fits false l r hl hr = dull_code laid body Call (comma_code false l r) (hl, (hr, tt))

  call_fits : (b : Bool) (site : ℕ) (p : Place) (es : Inputs) → Call site → InputsFit laid body Call es
      → Any (call_code b site p es)
  call_fits true site p es c h = dull_code laid body Call (call_code true site p es) ((c, h), tt)
  call_fits false site p es c h = dull_code laid body Call (call_code false site p es) ((c, h), tt)

  assignment_fits : (s : Scalar) (into' : Into) (p : Place) (a e : Code) → Any a → Any e
      → Any (assignment_code s into' p a e)
  assignment_fits s into' p a e ha he = dull_code laid body Call (assignment_code s into' p a e) (ha, (he, (tt, tt)))

  stored_dull : (op : BinOp) (cell of' : IntType) (back : Conversion) (into' : Into) (p : Place) (x y n : ℕ)
      → Dull (stored_steps op cell of' back into' p x y n)
  stored_dull op cell of' back into' p x y n = (tt, convert_dull laid body Call back n _ (tt, tt))

  changed_dull : (cx cy back : Conversion) (op : BinOp) (cell of' : IntType) (into' : Into) (p : Place)
      → Dull (changed_steps cx cy back op cell of' into' p)
  changed_dull cx cy back op cell of' into' p =
      convert_dull laid body Call cx 1 _
      (convert_dull laid body Call cy 2 _ (stored_dull op cell of' back into' p (converted_at cx 1 3)
      (converted_at cy 2 (more_after cx 3)) (more_after cy (more_after cx 3))))

  compound_fits : (cx back : Conversion) (op : BinOp) (cell of' : IntType) (volatile : Bool) (into' : Into)
      (load_place p : Place) (a e : Code) (ce : Conversion) → Any a → Any e
      → Any (compound_with cx back op cell of' volatile into' load_place p a e ce)
  compound_fits cx back op cell of' volatile into' load_place p a e ce ha he =
      dull_code laid body Call (compound_with cx back op cell of' volatile into' load_place p a e ce) (
        ha,
        (loading_dull volatile (Scalars.Int cell) 0 load_place, (he, changed_dull cx ce back op cell of' into' p)),
      )

  unit_step_fits : (cx c1 back : Conversion) (op : BinOp) (postfix : Bool) (cell of' : IntType) (volatile : Bool)
      (into' : Into) (load_place p : Place) (a : Code) → Any a
      → Any (unit_step_with cx c1 back op postfix cell of' volatile into' load_place p a)
  unit_step_fits cx c1 back op postfix cell of' volatile into' load_place p a ha =
      dull_code laid body Call (unit_step_with cx c1 back op postfix cell of' volatile into' load_place p a) (
        ha,
        (loading_dull volatile (Scalars.Int cell) 0 load_place, (tt, changed_dull cx c1 back op cell of' into' p)),
      )

  moved_fits : (minus : Bool) (cells class : ℕ) (into' : Into) (load_place p : Place) (a : Code) (by : Step)
      (result : ℕ) → Any a → DullStep laid body Call by
      → Any (moved_code minus cells class into' load_place p a by result)
  moved_fits minus cells class into' load_place p a by result ha hb =
      dull_code laid body Call (moved_code minus cells class into' load_place p a by result)
      (ha, (tt, (hb, (tt, (tt, tt)))))

  converted_fits : (c : Conversion) (e : Code) → Any e → Any (converted_code c e)
  converted_fits c e h = dull_code laid body Call (converted_code c e) (h, convert_dull laid body Call c 0 no_more tt)

  conversion_fits : (from to : IntType) (same : Bool) (p : Place) (e : Code) → Any e
      → let c : Code = converted_code (conversion from to) e in
      CodesFit (record (valued false p c) { bare = if same then e else c })
  conversion_fits from to same p e h = record {
    value = converted_fits (conversion from to) e h;
    bare = by_test same;
    fork = dull_fork laid body Call (valued false p (converted_code (conversion from to) e)).fork
        (converted_fits (conversion from to) e h, tt);
  }
    where
      by_test : (b : Bool) → Any (if b then e else converted_code (conversion from to) e)
      by_test true = h
      by_test false = converted_fits (conversion from to) e h

module _ (laid : LaidTree) (body path : ℕ) (locals : List LocalEntry) (defined : ℕ → Bool) (calls : List ℕ)
    (stage : IsStage laid body path locals defined) where
  abbrev pub w : Context
  w = file_context laid.file locals

  abbrev pub Call : ℕ → Type 0
  Call site = site < length calls

  abbrev Fitting : RvalueTree → Type 0
  Fitting e = CodesFit laid body Call (codes laid path e)

  based : (o n : ℕ) → IsPlace laid body o 0 n
      → CodeFits laid body Call (code (first_then (operate (Op.Base 0 o)) no_more)
      (Some 0)) (address_of n)
  based o n p = (
    address_of n ∷ [],
    (Some (address_of n), (λ f to kinds see is. base_keeps laid body stage.few kinds to o n is p), refl),
    refl,
  )

  -- what is dereferenced
  derefs : (vs : List Kind) (v n : ℕ) (p : Place) (f : ℕ → ℕ) (to : ℕ) (kinds : ℕ → Kind) → Sees vs f kinds
      → kinds to ≡ address_of n → KeepsKinds laid body kinds (Op.Deref to (f v) n path p)
  derefs vs v n p f to kinds see is =
      deref_keeps laid body stage.few kinds to (f v) n path p is (λ o k e. stage.targets o k n e)

  parted : (vs : List Kind) (v m k c n : ℕ) → ctype_of w.scope m ≡ Types.Struct k → HasPart w.scope k c n
      → slice_get vs v ≡ Some (address_of m) → (f : ℕ → ℕ) (to : ℕ) (kinds : ℕ → Kind) → Sees vs f kinds
      → kinds to ≡ address_of n → KeepsKinds laid body kinds (Op.Offset to (f v) c)
  parted vs v m k c n t part at' f to kinds see is =
      offset_keeps laid body stage.few kinds to (f v) m c (address_of n) (see v m at') is (λ o j place.
      let q = stage.parts o j m k c n place t part in
      (q.inside, record { object = o; offset = j + c; is = refl; stands = q }))

  indexed : (vs : List Kind) (v u a n l c : ℕ) (p : Place) → ctype_of w.scope a ≡ Types.Array n l
      → c ≡ cells_of w.scope n → slice_get vs v ≡ Some (address_of a) → (f : ℕ → ℕ) (to : ℕ) (kinds : ℕ → Kind)
      → Sees vs f kinds → kinds to ≡ address_of n → KeepsKinds laid body kinds (Op.Index to (f v) l c (f u) p)
  indexed vs v u a n l c p t size at' f to kinds see is =
      index_keeps laid body stage.few kinds to (f v) (f u) l c a n p (see v a at') is (λ o j i place lt.
      let Q : ℕ → Type 0 = λ d. IsPlace laid body o (j + i * d) n in
      subst Q (sym size) (stage.elements o j a n l i place t lt))

  as_any : (l : LvalueTree) (n : ℕ) → CodeFits laid body Call (address_code laid path l) (address_of n)
      → CodeFits laid body Call (address_code laid path l) anything
  as_any l n h = any_code laid body Call (address_code laid path l) (address_of n) h

  mutual
    pub codes_fit : (k : ValueKind) (e : RvalueTree) → IsRvalue w k e → Mentions defined calls e → Fitting e
    codes_fit k (a_constant t z p) h q =
        valued_fits laid body Call false p _
        (dull_code laid body Call (codes laid path (a_constant t z p)).value (tt, tt))
    codes_fit k (a_folded z e) h q = record {
      value = dull_code laid body Call (codes laid path (a_folded z e)).value (tt, tt);
      bare = dull_code laid body Call (codes laid path (a_folded z e)).value (tt, tt);
      fork = (codes_fit (a_number Ints.Int) e h.2 q).fork;
    }
    codes_fit k (a_null p) h q =
        valued_fits laid body Call true p _ (dull_code laid body Call (codes laid path (a_null p)).value (tt, tt))
    codes_fit k (a_load s volatile l) h q =
        valued_fits laid body Call (is_pointer_scalar s) (lvalue_place l) _
        (load_fits laid body Call volatile s (lvalue_place l) (address_code laid path l)
        (as_any l h.0 (address_fits h.0 l h.3 q.1)))
    codes_fit k (an_address l p) h q = valued_fits laid body Call true p _ (as_any l h.0 (address_fits h.0 l h.2 q))
    codes_fit k (a_structure l) h q =
        valued_fits laid body Call false (lvalue_place l) _
        (dull_code laid body Call (codes laid path (a_structure l)).value (as_any l h.0 (address_fits h.0 l h.2 q), tt))
    codes_fit k (the_same e p) h q =
        valued_fits laid body Call (gives_pointer laid e) p _ (codes_fit k e h q).value
    codes_fit k (a_unary o t e p) h q =
        valued_fits laid body Call false p _
        (dull_code laid body Call (codes laid path (a_unary o t e p)).value
        ((codes_fit (a_number t) e h.1 q.1).value, (tt, tt)))
    codes_fit k (a_binary op t l r p) h q =
        binary_fits laid body Call (is_comparison op) op t p (codes laid path l).bare (implied l)
        (codes laid path r).bare (implied r) (codes_fit (a_number t) l h.3 q.0).bare
        (codes_fit (a_number h.0) r h.4 q.1).bare
    codes_fit k (a_comparison_of_pointers equal l r p) h q =
        pointers_fit laid body Call equal p (codes laid path l).value (codes laid path r).value
        (codes_fit a_pointer l h.1 q.0).value (codes_fit a_pointer r h.2 q.1).value
    codes_fit k (a_move minus cells first e i p) h q =
        valued_fits laid body Call true p _
        (move_fits laid body Call minus cells first p (codes laid path e).value (codes laid path i).value
        (codes_fit a_pointer e h.2 q.0).value (codes_fit (a_number h.0) i h.3 q.1).value)
    codes_fit k (a_not e p) h q =
        decided_fits laid body Call (converse (codes laid path e).fork) (codes_fit h.0 e h.3 q).fork
    codes_fit k (an_and l r p) h q =
        decided_fits laid body Call (both_of (codes laid path l).fork (codes laid path r).fork)
        ((codes_fit h.0 l h.5 q.0).fork, (codes_fit h.1 r h.6 q.1).fork)
    codes_fit k (an_or l r p) h q =
        decided_fits laid body Call (either_of (codes laid path l).fork (codes laid path r).fork)
        ((codes_fit h.0 l h.5 q.0).fork, (codes_fit h.1 r h.6 q.1).fork)
    codes_fit k (a_choice c x y p) h q =
        valued_fits laid body Call (gives_pointer laid x) p _
        (choice_fits laid body Call (has_value laid path x) (codes laid path c).fork (codes laid path x).value
        (codes laid path y).value (codes_fit h.0 c h.2 q.0).fork (codes_fit k x h.3 q.1).value
        (codes_fit k y h.4 q.2).value)
    codes_fit k (an_assignment s l e p) h q =
        valued_fits laid body Call (is_pointer_scalar s) p _
        (assignment_fits laid body Call s (into laid path l) p (address_code laid path l) (codes laid path e).value
        (as_any l h.0 (address_fits h.0 l h.3 q.0)) (codes_fit k e h.4 q.1).value)
    codes_fit k (a_compound op cell of' volatile l e p) h q =
        valued_fits laid body Call false p _
        (compound_fits laid body Call (conversion cell of') (conversion of' cell) op cell of' volatile
        (into laid path l) (lvalue_place l) p (address_code laid path l) (codes laid path e).bare (implied e)
        (as_any l h.0 (address_fits h.0 l h.5 q.0)) (codes_fit (a_number h.1) e h.6 q.1).bare)
    codes_fit k (a_compound_move minus cells class l e p) h q =
        valued_fits laid body Call true p _
        (moved_fits laid body Call minus cells class (into laid path l) (lvalue_place l) p (address_code laid path l)
        (value_of (codes laid path e).value) 3 (as_any l h.0 (address_fits h.0 l h.4 q.0))
        (codes_fit (a_number h.1) e h.5 q.1).value)
    codes_fit k (a_unit_step s cell of' volatile l p) h q =
        valued_fits laid body Call false p _
        (unit_step_fits laid body Call (conversion cell of') (conversion Ints.Int of') (conversion of' cell)
        (step_operator s) s.postfix cell of' volatile (into laid path l) (lvalue_place l) p (address_code laid path l)
        (as_any l h.0 (address_fits h.0 l h.3 q)))
    codes_fit k (a_pointer_step s cells class l p) h q =
        valued_fits laid body Call true p _
        (moved_fits laid body Call s.minus cells class (into laid path l) (lvalue_place l) p (address_code laid path l)
        (operate (Op.Const 0 (Number (pos 1)))) (if s.postfix then 1 else 3)
        (as_any l h.0 (address_fits h.0 l h.3 q)) tt)
    codes_fit k (a_function_call f site es p) h q =
        valued_fits laid body Call (gives_pointer laid (a_function_call f site es p)) p _
        (call_fits laid body Call (call_has_value laid path site) site p (inputs laid path es)
        (slice_get_within calls site f q.0) (inputs_fit h.0.parameters es h.3 q.1))
    codes_fit k (an_input_value low high p) h q =
        valued_fits laid body Call false p _
        (dull_code laid body Call (codes laid path (an_input_value low high p)).value (tt, tt))
    codes_fit k (a_probe m p) h q =
        valued_fits laid body Call false p _ (dull_code laid body Call (codes laid path (a_probe m p)).value (tt, tt))
    codes_fit k (a_comma l r p) h q =
        valued_fits laid body Call (gives_pointer laid r) p _
        (comma_fits laid body Call (has_value laid path r) (codes laid path l).value (codes laid path r).value
        (codes_fit h.0 l h.1 q.0).value (codes_fit k r h.2 q.1).value)
    codes_fit k (a_conversion from to e p) h q =
        conversion_fits laid body Call from to (is_same_place p (rvalue_place e)) p (codes laid path e).value
        (codes_fit (a_number from) e h.1 q).value
    codes_fit k (a_discard e p) h q =
        valued_fits laid body Call false p _
        (dull_code laid body Call (codes laid path (a_discard e p)).value ((codes_fit h.0 e h.2 q).value, tt))

    pub address_fits : (n : ℕ) (l : LvalueTree) → IsLvalue w n l → LvalueMentions defined calls l
        → CodeFits laid body Call (address_code laid path l) (address_of n)
    address_fits n (an_object (Objects.Static x) p) h q =
        based (object_of laid path (Objects.Static x)) n (stage.objects (Objects.Static x) n h q)
    address_fits n (an_object (Objects.Local x) p) h q =
        based (object_of laid path (Objects.Local x)) n (stage.objects (Objects.Local x) n h tt)
    address_fits n (an_element l i m c p) h q = (
      address_of h.0 ∷ anything ∷ address_of n ∷ [],
      (
        Some (address_of h.0),
        address_fits h.0 l h.5 q.0,
        (
          Some anything,
          (codes_fit (a_number h.1) i h.6 q.1).value,
          (
            Some (address_of n),
            indexed (address_of h.0 ∷ anything ∷ []) 0 1 h.0 n m c p h.2 h.4 refl,
            refl,
          ),
        ),
      ),
      refl,
    )
    address_fits n (a_pointed_element e i c t p) h q =
        let two : List Kind = anything ∷ anything ∷ [] in
        subst (λ z. CodeFits laid body Call (address_code laid path (a_pointed_element e i c t p)) (address_of z)) h.1 (
          anything ∷ anything ∷ anything ∷ address_of t ∷ [],
          (
            Some anything,
            (codes_fit a_pointer e h.4 q.0).value,
            (
              Some anything,
              (codes_fit (a_number h.0) i h.5 q.1).value,
              (
                Some anything,
                dull_gives laid body two (Op.Move 0 0 c false 1 p) 0 refl tt,
                (Some (address_of t), derefs (anything ∷ anything ∷ anything ∷ []) 2 t p, refl),
              ),
            ),
          ),
          refl,
        )
    address_fits n (a_pointed e t p) h q =
        subst (λ z. CodeFits laid body Call (address_code laid path (a_pointed e t p)) (address_of z)) h.0 (
          anything ∷ address_of t ∷ [],
          (
            Some anything,
            (codes_fit a_pointer e h.2 q).value,
            (Some (address_of t), derefs (anything ∷ []) 0 t p, refl),
          ),
          refl,
        )
    address_fits n (an_arrow e t c p) h q = (
      anything ∷ address_of t ∷ address_of n ∷ [],
      (
        Some anything,
        (codes_fit a_pointer e h.3 q).value,
        (
          Some (address_of t),
          derefs (anything ∷ []) 0 t p,
          (Some (address_of n), parted (anything ∷ address_of t ∷ []) 1 t h.0 c n h.1 h.2 refl, refl),
        ),
      ),
      refl,
    )
    address_fits n (a_part l c p) h q = (
      address_of h.0 ∷ address_of n ∷ [],
      (
        Some (address_of h.0),
        address_fits h.0 l h.4 q,
        (Some (address_of n), parted (address_of h.0 ∷ []) 0 h.0 h.1 c n h.2 h.3 refl, refl),
      ),
      refl,
    )

    inputs_fit : (ns : List ℕ) (es : RvalueTrees) → AreArguments w ns es → AllMention defined calls es
        → InputsFit laid body Call (inputs laid path es)
    inputs_fit [] no_rvalues h q = ([], tt)
    inputs_fit (n ∷ ns) no_rvalues h q = absurd h
    inputs_fit [] (and_rvalue e es) h q = absurd h
    inputs_fit (n ∷ ns) (and_rvalue e es) h q =
        let rest = inputs_fit ns es h.3 q.1 in
        (anything ∷ rest.0, ((codes_fit (kind_of_scalar h.0) e h.2 q.0).value, rest.1))
