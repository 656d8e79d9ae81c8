-- The forms of the table of expressions: the value of each has the sort that typing says.
use Rattle.std.proofs.Common.{◌≡◌, refl, sym, ap, subst, ◌∙◌, ℕ, suc, Bool, true, false, List, [], ◌∷◌}
use Rattle.std.proofs.Common.{◌++◌, length, Option, Some, None, slice_get, arith}
use Rattle.std.specs.Prelude.{pos, if◌then◌else◌}
use Rattle.std.proofs.lemmas.Bool.{false≢true, true≢false}
use Rattle.std.proofs.lemmas.Int.{ints}
use Rattle.temporary_types.specs.tm_cint.declared.int_types.IntType.{IntType}
use Rattle.temporary_types.specs.tm_cint.declared.int_types.IntType.TheVariants as Ints
use Rattle.temporary_types.specs.tm_cint.declared.operators.BinOp.{BinOp}
use Rattle.temporary_types.specs.tm_cint.IntTypes.{IsIn}
use Rattle.temporary_types.specs.tm_cint.Conversions.{represents_all}
use Rattle.temporary_types.specs.tm_cint.Operators.{result_type}
use Rattle.temporary_types.specs.tm_terms.declared.places.Place.{Place}
use Rattle.temporary_types.specs.tm_typed.declared.types.Scalar.{Scalar}
use Rattle.temporary_types.specs.tm_typed.declared.types.Scalar.TheVariants as Scalars
use Rattle.temporary_types.specs.tm_typed.Rules.{is_comparison, FitsRight}
use Rattle.temporary_types.specs.tm_typed.WellTyped.{ValueKind, a_number, a_pointer, no_value, kind_of_scalar}
use Rattle.temporary_types.specs.tm_typed.WellTyped.{IsCondition}
use Rattle.temporary_types.specs.tm_laid.Layouts.{LaidTree}
use Rattle.temporary_types.specs.concrete_values.declared.values.Value.TheVariants.{Number}
use Rattle.temporary_types.specs.flow_graph.declared.operations.Into.{Into}
use Rattle.temporary_types.specs.flow_graph.declared.operations.Operation.TheVariants as Op
use Rattle.temporary_types.specs.Sorts.{Sort, numbers, pointers, sort_of_scalar, Within, Holds, HoldsRight, LeadsInto}
use Rattle.temporary_types.specs.Sorts.{outcome_type}
use Rattle.lowering_laws.specs.lowering.Steps.{Steps, no_more, first_then, Step, operate, value_of}
use Rattle.lowering_laws.specs.lowering.Steps.{Inputs, Code, code, Fork}
use Rattle.lowering_laws.specs.lowering.Table.{Conversion, conversion, convert_then, converted_at, more_after, Codes}
use Rattle.lowering_laws.specs.lowering.Table.{valued, decided}
use Rattle.lowering_laws.specs.lowering.Table.{binary_code, binary_codes, pointers_codes}
use Rattle.lowering_laws.specs.lowering.Table.{move_code, loading, load_code, choice_code, comma_code, assignment_code}
use Rattle.lowering_laws.specs.lowering.Table.{changed_steps}
use Rattle.lowering_laws.specs.lowering.Table.{changed_at, compound_with, unit_step_with, moved_code, converted_code}
use Rattle.lowering_laws.specs.lowering.Table.{call_code}
use Rattle.lowering_laws.proofs.Operands.{is_value}
use Rattle.operation_laws.proofs.Within.{within_self}
use Rattle.operation_laws.proofs.StepSorts.{StepsFit, StepFits, InputsFit, CodeFits, ForkFits}
use Rattle.operation_laws.proofs.Growing.{Grows, grows_on, grows_end, length_end}
use Rattle.operation_laws.proofs.Conversions.{Converts, conversion_converts, convert_vars, convert_grows, convert_count}
use Rattle.operation_laws.proofs.Conversions.{last_is, converted_is, holds_grown, right_fits, compared_right}
use Rattle.operation_laws.proofs.Conversions.{outcome_typed, outcome_within, convert_step, after_operands}
use Rattle.operation_laws.proofs.Conversions.{operands_count, left_holds, right_holds, operands_fit}

-- a pointer
abbrev pub is_pointer_kind : ValueKind → Bool
is_pointer_kind (a_number t) = false
is_pointer_kind a_pointer = true
is_pointer_kind no_value = false

pub pointer_kind : (k : ValueKind) → is_pointer_kind k ≡ true → k ≡ a_pointer
pointer_kind (a_number t) e = absurd (false≢true e)
pointer_kind a_pointer e = refl
pointer_kind no_value e = absurd (false≢true e)

-- the sort of a result of this kind
abbrev pub sort_of_kind : ValueKind → Option Sort
sort_of_kind (a_number t) = Some (numbers t)
sort_of_kind a_pointer = Some pointers
sort_of_kind no_value = None

module _ (laid : LaidTree) (Call : ℕ → List Sort → Option Sort → Type 0) where
  -- a part has a value of this kind
  abbrev pub ValueFits : ValueKind → Code → Type 0
  ValueFits (a_number t) c = (u : IntType) × CodeFits laid Call c (Some (numbers u)) × (represents_all t u ≡ true)
  ValueFits a_pointer c = CodeFits laid Call c (Some pointers)
  ValueFits no_value c = CodeFits laid Call c None

  -- a part has a number that an implied conversion makes one of this type
  abbrev pub BareFits : ValueKind → Conversion → Code → Type 0
  BareFits (a_number t) cv c = (u : IntType) × CodeFits laid Call c (Some (numbers u)) × Converts cv u t
  BareFits a_pointer cv c = Unit {0}
  BareFits no_value cv c = Unit {0}

  pub record CodesFit (k : ValueKind) (cv : Conversion) (x : Codes) : Type 0 where
    pub value : ValueFits k x.value
    pub bare : BareFits k cv x.bare
    pub fork : IsCondition k → ForkFits laid Call x.fork

  bare_value : (k : ValueKind) (c : Code) → ValueFits k c → BareFits k None c
  bare_value (a_number t) c h = h
  bare_value a_pointer c h = tt
  bare_value no_value c h = tt

  pub of_kind : (k j : ValueKind) (cv : Conversion) (x : Codes) → k ≡ j → CodesFit j cv x → CodesFit k cv x
  of_kind k j cv x e h = subst (λ (z : ValueKind). CodesFit z cv x) (sym e) h

  -- a part for what it does
  pub any_value : (k : ValueKind) (c : Code) → ValueFits k c → (o : Option Sort) × CodeFits laid Call c o
  any_value (a_number t) c h = (Some (numbers h.0), h.1)
  any_value a_pointer c h = (Some pointers, h)
  any_value no_value c h = (None, h)

  -- a value of a scalar type
  pub scalar_value : (s : Scalar) (c : Code) → ValueFits (kind_of_scalar s) c → (o : Sort)
      × CodeFits laid Call c (Some o) × Within o (sort_of_scalar s)
  scalar_value (Scalars.Int t) c h = (numbers h.0, h.1, h.2)
  scalar_value (Scalars.Pointer class) c h = (pointers, h, tt)

  pub value_by : (s : Scalar) (c : Code) (o : Sort) → CodeFits laid Call c (Some o) → Within o (sort_of_scalar s)
      → ValueFits (kind_of_scalar s) c
  value_by (Scalars.Int t) c (numbers u) h w = (u, h, w)
  value_by (Scalars.Int t) c pointers h w = absurd w
  value_by (Scalars.Pointer class) c (numbers u) h w = absurd w
  value_by (Scalars.Pointer class) c pointers h w = h

  -- ## Values, truths, and branches by them

  condition_sort : (k : ValueKind) → IsCondition k → (c : Code) → ValueFits k c → (o : Sort)
      × CodeFits laid Call c (Some o)
  condition_sort (a_number t) i c h = (numbers h.0, h.1)
  condition_sort a_pointer i c h = (pointers, h)
  condition_sort no_value i c h = absurd i

  pub valued_fits : (pointer : Bool) (p : Place) (k : ValueKind) (c : Code) → (pointer ≡ true → k ≡ a_pointer)
      → ValueFits k c → CodesFit k None (valued pointer p c)
  valued_fits false p k c q h = record {
    value = h;
    bare = bare_value k c h;
    fork = λ i.
        let s = condition_sort k i c h in
        let o : Sort = s.0 in
        (o ∷ [], (Some o, s.1, refl), (o, (o, refl, within_self o)));
  }
  valued_fits true p k c q h = record {
    value = h;
    bare = bare_value k c h;
    fork = λ i.
        let v : CodeFits laid Call c (Some pointers) = subst (λ (z : ValueKind). ValueFits z c) (q refl) h in (
          pointers ∷ [],
          (Some pointers, v, (None, ((pointers, refl, tt), tt), refl)),
          (pointers, (pointers, refl, tt)),
        );
  }

  pub decided_fits : (f : Fork) → ForkFits laid Call f → CodesFit (a_number Ints.Int) None (decided f)
  decided_fits f h = record {
    value = (Ints.Bool, (numbers Ints.Bool ∷ [], (Some (numbers Ints.Bool), (refl, h), refl), refl), refl);
    bare = (Ints.Bool, (numbers Ints.Bool ∷ [], (Some (numbers Ints.Bool), (refl, h), refl), refl), refl);
    fork = λ i. h;
  }

  -- ## Operators

  module _ (op : BinOp) (t u : IntType) (p : Place) (l : Code) (cl : Conversion) (r : Code) (cr : Conversion)
      (fits : FitsRight op t u) (hl : BareFits (a_number t) cl l) (hr : BareFits (a_number u) cr r) where
    abbrev vars : List Sort
    vars = after_operands laid Call l cl r cr hl.0 t hr.0 u hl.1 hl.2 hr.1 hr.2

    abbrev given_last : ℕ
    given_last = more_after cr (more_after cl 2)

    right_there : HoldsRight vars op t (converted_at cr 1 (more_after cl 2))
    right_there =
        right_fits op t u fits vars (converted_at cr 1 (more_after cl 2))
        (right_holds laid Call l cl r cr hl.0 t hr.0 u hl.1 hl.2 hr.1 hr.2)

    left_there : Holds vars (converted_at cl 0 2) (numbers t)
    left_there = left_holds laid Call l cl r cr hl.0 t hr.0 u hl.1 hl.2 hr.1 hr.2

    binary_value : CodeFits laid Call (binary_code op t p l cl r cr) (Some (numbers (outcome_type op t)))
    binary_value = (
      vars ++ numbers (outcome_type op t) ∷ [],
      operands_fit laid Call l cl r cr hl.0 t hr.0 u hl.1 hl.2 hr.1 hr.2
          (λ x y n. first_then (operate (Op.Bin 0 op t x y p)) no_more) (vars ++ numbers (outcome_type op t) ∷ []) (
            Some (numbers (outcome_type op t)),
            ((left_there, right_there), within_self (numbers (outcome_type op t))),
            refl,
          ),
      last_is vars (numbers (outcome_type op t)) given_last
          (operands_count laid Call l cl r cr hl.0 t hr.0 u hl.1 hl.2 hr.1 hr.2),
    )

    pub binary_fits : (b : Bool) → is_comparison op ≡ b
        → CodesFit (a_number (result_type op t)) None (binary_codes b op t p l cl r cr)
    binary_fits false e =
        valued_fits false p (a_number (result_type op t)) (binary_code op t p l cl r cr) (λ x. absurd (false≢true x))
        (outcome_type op t, binary_value, outcome_typed op t)
    binary_fits true e = record {
      value = (outcome_type op t, binary_value, outcome_typed op t);
      bare = (outcome_type op t, binary_value, outcome_typed op t);
      fork = λ i. (
        vars,
        operands_fit laid Call l cl r cr hl.0 t hr.0 u hl.1 hl.2 hr.1 hr.2 (λ x y n. no_more) vars refl,
        (left_there, compared_right op t vars (converted_at cr 1 (more_after cl 2)) e right_there),
      );
    }

  pub pointers_fit : (equal : Bool) (p : Place) (l r : Code) → CodeFits laid Call l (Some pointers)
      → CodeFits laid Call r (Some pointers) → CodesFit (a_number Ints.Int) None (pointers_codes equal p l r)
  pointers_fit equal p l r hl hr =
      let v : CodeFits laid Call (pointers_codes equal p l r).value (Some (numbers Ints.Bool)) = (
        pointers ∷ pointers ∷ numbers Ints.Bool ∷ [],
        (
          Some pointers,
          hl,
          (
            Some pointers,
            hr,
            (
              None,
              ((pointers, refl, tt), tt),
              (
                None,
                ((pointers, refl, tt), tt),
                (Some (numbers Ints.Bool), (((pointers, refl, tt), (pointers, refl, tt)), refl), refl),
              ),
            ),
          ),
        ),
        refl,
      ) in
      record {
        value = (Ints.Bool, v, refl);
        bare = (Ints.Bool, v, refl);
        fork = λ i. (
          pointers ∷ pointers ∷ [],
          (
            Some pointers,
            hl,
            (
              Some pointers,
              hr,
              (None, ((pointers, refl, tt), tt), (None, ((pointers, refl, tt), tt), refl)),
            ),
          ),
          ((pointers, refl, tt), (pointers, refl, tt)),
        );
      }

  pub move_fits : (minus : Bool) (cells : ℕ) (first : Bool) (p : Place) (e i : Code) (t : IntType)
      → CodeFits laid Call e (Some pointers) → ValueFits (a_number t) i
      → CodeFits laid Call (move_code minus cells first p e i) (Some pointers)
  move_fits minus cells false p e i t he hi = (
    pointers ∷ numbers hi.0 ∷ pointers ∷ [],
    (
      Some pointers,
      he,
      (Some (numbers hi.0), hi.1, (Some pointers, (((pointers, refl, tt), (t, (numbers hi.0, refl, hi.2))), tt), refl)),
    ),
    refl,
  )
  move_fits minus cells true p e i t he hi = (
    numbers hi.0 ∷ pointers ∷ pointers ∷ [],
    (
      Some (numbers hi.0),
      hi.1,
      (Some pointers, he, (Some pointers, (((pointers, refl, tt), (t, (numbers hi.0, refl, hi.2))), tt), refl)),
    ),
    refl,
  )

  -- ## Loads and stores

  loading_fits : (volatile : Bool) (s : Scalar) (a : ℕ) (p : Place) (vs : List Sort) → slice_get vs a ≡ Some pointers
      → StepFits laid Call vs (operate (loading volatile s a p)) (Some (sort_of_scalar s))
  loading_fits false s a p vs e = ((pointers, e, tt), within_self (sort_of_scalar s))
  loading_fits true s a p vs e = ((pointers, e, tt), within_self (sort_of_scalar s))

  pub load_fits : (volatile : Bool) (s : Scalar) (p : Place) (a : Code) → CodeFits laid Call a (Some pointers)
      → ValueFits (kind_of_scalar s) (load_code volatile s p a)
  load_fits volatile s p a h =
      value_by s (load_code volatile s p a) (sort_of_scalar s) (
        pointers ∷ sort_of_scalar s ∷ [],
        (
          Some pointers,
          h,
          (Some (sort_of_scalar s), loading_fits volatile s 0 p (pointers ∷ []) refl, refl),
        ),
        refl,
      ) (within_self (sort_of_scalar s))

  pub assignment_fits : (s : Scalar) (into : Into) (p : Place) (a e : Code) → CodeFits laid Call a (Some pointers)
      → LeadsInto laid into → ValueFits (kind_of_scalar s) e
      → ValueFits (kind_of_scalar s) (assignment_code s into p a e)
  assignment_fits s into p a e ha i he =
      let v = scalar_value s e he in
      let o : Sort = v.0 in
      value_by s (assignment_code s into p a e) o (
        pointers ∷ o ∷ [],
        (Some pointers, ha, (Some o, v.1, (None, (((pointers, refl, tt), (o, refl, v.2), i), tt), refl))),
        refl,
      ) v.2

  -- behind an address, what it holds and an operand: their conversions, the operator, and the store
  module _ (cx cy back : Conversion) (op : BinOp) (cell of : IntType) (into : Into) (p : Place) (b u : IntType)
      (kx : Converts cx cell of) (ky : Converts cy b u) (fits : FitsRight op of u)
      (kb : Converts back (outcome_type op of) cell) (i : LeadsInto laid into) where
    abbrev three : List Sort
    three = pointers ∷ numbers cell ∷ numbers b ∷ []

    abbrev four : List Sort
    four = convert_vars cx three

    abbrev five : List Sort
    five = convert_vars cy four

    abbrev six : List Sort
    six = five ++ numbers (outcome_type op of) ∷ []

    abbrev pub seven : List Sort
    seven = convert_vars back six

    abbrev count : ℕ
    count = more_after cy (more_after cx 3)

    four_count : length four ≡ more_after cx 3
    four_count = convert_count cx three 3 refl

    five_count : length five ≡ count
    five_count = convert_count cy four (more_after cx 3) four_count

    left : Holds five (converted_at cx 1 3) (numbers of)
    left = holds_grown four five (convert_grows cy four) (converted_at cx 1 3) (numbers of)
        (converted_is cx three 1 3 cell of refl refl kx)

    right : Holds five (converted_at cy 2 (more_after cx 3)) (numbers u)
    right = converted_is cy four 2 (more_after cx 3) b u (convert_grows cx three 2 (numbers b) refl) four_count ky

    grows_five : Grows three five
    grows_five = grows_on three four five (convert_grows cx three) (convert_grows cy four)

    pub grows_seven : Grows three seven
    grows_seven =
        grows_on three six seven
        (grows_on three five six grows_five (grows_end five (numbers (outcome_type op of)))) (convert_grows back six)

    six_last : slice_get six count ≡ Some (numbers (outcome_type op of))
    six_last = last_is five (numbers (outcome_type op of)) count five_count

    -- what is stored
    pub changed_holds : Holds seven (changed_at cx cy back) (numbers cell)
    changed_holds = converted_is back six count (suc count) (outcome_type op of) cell six_last
        (length_end five (numbers (outcome_type op of)) ∙ ap suc five_count) kb

    pub changed_fit : StepsFit laid Call three (changed_steps cx cy back op cell of into p) seven
    changed_fit =
        convert_step laid Call cx three 1 cell of _ seven refl kx
        (convert_step laid Call cy four 2 b u _ seven (convert_grows cx three 2 (numbers b) refl) ky (
          Some (numbers (outcome_type op of)),
          (
            (left, right_fits op of u fits five (converted_at cy 2 (more_after cx 3)) right),
            within_self (numbers (outcome_type op of)),
          ),
          convert_step laid Call back six count (outcome_type op of) cell _ seven six_last kb (
            None,
            (((pointers, grows_seven 0 pointers refl, tt), changed_holds, i), tt),
            refl,
          ),
        ))

  -- the value of steps is what a variable holds
  held_value : (t : IntType) (steps : Steps) (ws : List Sort) (v : ℕ) (own : Sort) → StepsFit laid Call [] steps ws
      → slice_get ws v ≡ Some own → Within own (numbers t) → ValueFits (a_number t) (code steps (Some v))
  held_value t steps ws v (numbers u) h e w = (u, (ws, h, e), w)
  held_value t steps ws v pointers h e w = absurd w

  pub compound_fits : (op : BinOp) (cell of u : IntType) (volatile : Bool) (into : Into) (load_place p : Place)
      (a e : Code) (ce : Conversion) → CodeFits laid Call a (Some pointers) → FitsRight op of u → LeadsInto laid into
      → BareFits (a_number u) ce e
      → ValueFits (a_number cell)
      (compound_with (conversion cell of) (conversion of cell) op cell of volatile into load_place p a e ce)
  compound_fits op cell of u volatile into load_place p a e ce ha fits i he =
      let kx = conversion_converts cell of cell (within_self (numbers cell)) in
      let kb = conversion_converts of cell (outcome_type op of) (outcome_within op of) in
      let cx : Conversion = conversion cell of in
      let cb : Conversion = conversion of cell in
      let x = changed_holds cx ce cb op cell of into p he.0 u kx he.2 fits kb i in
      let ws : List Sort = seven cx ce cb op cell of into p he.0 u kx he.2 fits kb i in
      let steps : Steps =
      first_then (value_of a) (first_then (operate (loading volatile (Scalars.Int cell) 0 load_place))
      (first_then (value_of e) (changed_steps cx ce cb op cell of into p))) in
      let h : StepsFit laid Call [] steps ws = (
        Some pointers,
        ha,
        (
          Some (numbers cell),
          loading_fits volatile (Scalars.Int cell) 0 load_place (pointers ∷ []) refl,
          (Some (numbers he.0), he.1, changed_fit cx ce cb op cell of into p he.0 u kx he.2 fits kb i),
        ),
      ) in
      held_value cell steps ws (changed_at cx ce cb) x.0 h x.1 x.2

  pub unit_step_fits : (op : BinOp) (postfix : Bool) (cell of : IntType) (volatile : Bool) (into : Into)
      (load_place p : Place) (a : Code) → CodeFits laid Call a (Some pointers) → FitsRight op of of
      → LeadsInto laid into
      → ValueFits (a_number cell)
      (unit_step_with (conversion cell of) (conversion Ints.Int of) (conversion of cell) op postfix cell of volatile
      into load_place p a)
  unit_step_fits op postfix cell of volatile into load_place p a ha fits i =
      let kx = conversion_converts cell of cell (within_self (numbers cell)) in
      let ky = conversion_converts Ints.Int of Ints.Int refl in
      let kb = conversion_converts of cell (outcome_type op of) (outcome_within op of) in
      let cx : Conversion = conversion cell of in
      let cy : Conversion = conversion Ints.Int of in
      let cb : Conversion = conversion of cell in
      let ws : List Sort = seven cx cy cb op cell of into p Ints.Int of kx ky fits kb i in
      let x = changed_holds cx cy cb op cell of into p Ints.Int of kx ky fits kb i in
      let one : IsIn Ints.Int (pos 1) = one_in in
      let steps : Steps =
      first_then (value_of a) (first_then (operate (loading volatile (Scalars.Int cell) 0 load_place))
      (first_then (operate (Op.Const 0 (Number (pos 1)))) (changed_steps cx cy cb op cell of into p))) in
      let h : StepsFit laid Call [] steps ws = (
        Some pointers,
        ha,
        (
          Some (numbers cell),
          loading_fits volatile (Scalars.Int cell) 0 load_place (pointers ∷ []) refl,
          (
            Some (numbers Ints.Int),
            (tt, one),
            changed_fit cx cy cb op cell of into p Ints.Int of kx ky fits kb i,
          ),
        ),
      ) in
      by_test steps ws h (changed_at cx cy cb) x.0 x.1 x.2
      (grows_seven cx cy cb op cell of into p Ints.Int of kx ky fits kb i 1 (numbers cell) refl) postfix
    where
      one_in : IsIn Ints.Int (pos 1)
      one_in = record { at_least = omega (arith, ints); at_most = omega (arith, ints) }

      by_test : (steps : Steps) (ws : List Sort) → StepsFit laid Call [] steps ws → (v : ℕ) (own : Sort)
          → slice_get ws v ≡ Some own → Within own (numbers cell) → slice_get ws 1 ≡ Some (numbers cell) → (q : Bool)
          → ValueFits (a_number cell) (code steps (Some (if q then 1 else v)))
      by_test steps ws h v own e w old true =
          held_value cell steps ws 1 (numbers cell) h old (within_self (numbers cell))
      by_test steps ws h v own e w old false = held_value cell steps ws v own h e w

  pub moved_fits : (minus : Bool) (cells class : ℕ) (into : Into) (load_place p : Place) (a : Code) (by : Step)
      (result : ℕ) (u : IntType) → CodeFits laid Call a (Some pointers) → LeadsInto laid into
      → StepFits laid Call (pointers ∷ pointers ∷ []) by (Some (numbers u))
      → slice_get (pointers ∷ pointers ∷ numbers u ∷ pointers ∷ []) result ≡ Some pointers
      → CodeFits laid Call (moved_code minus cells class into load_place p a by result) (Some pointers)
  moved_fits minus cells class into load_place p a by result u ha i hb e = (
    pointers ∷ pointers ∷ numbers u ∷ pointers ∷ [],
    (
      Some pointers,
      ha,
      (
        Some pointers,
        ((pointers, refl, tt), tt),
        (
          Some (numbers u),
          hb,
          (
            Some pointers,
            (((pointers, refl, tt), (u, (numbers u, refl, within_self (numbers u)))), tt),
            (None, (((pointers, refl, tt), (pointers, refl, tt), i), tt), refl),
          ),
        ),
      ),
    ),
    e,
  )

  -- ## Parts of two

  pub choice_fits : (b : Bool) (k : ValueKind) → b ≡ is_value k → (f : Fork) (x y : Code) → ForkFits laid Call f
      → ValueFits k x → ValueFits k y → ValueFits k (choice_code b f x y)
  choice_fits true (a_number t) e f x y hf hx hy = (
    t,
    (
      numbers t ∷ [],
      (Some (numbers t), (numbers hx.0, numbers hy.0, hf, hx.1, hx.2, hy.1, hy.2), refl),
      refl,
    ),
    within_self (numbers t),
  )
  choice_fits true a_pointer e f x y hf hx hy =
      (pointers ∷ [], (Some pointers, (pointers, pointers, hf, hx, tt, hy, tt), refl), refl)
  choice_fits true no_value e f x y hf hx hy = absurd (true≢false e)
  choice_fits false (a_number t) e f x y hf hx hy = absurd (false≢true e)
  choice_fits false a_pointer e f x y hf hx hy = absurd (false≢true e)
  choice_fits false no_value e f x y hf hx hy = ([], (None, (None, None, hf, hx, hy), refl))

  pub comma_fits : (b : Bool) (k : ValueKind) → b ≡ is_value k → (l r : Code) (o : Option Sort)
      → CodeFits laid Call l o → ValueFits k r → ValueFits k (comma_code b l r)
  comma_fits true (a_number t) e l r o hl hr =
      (hr.0, (numbers hr.0 ∷ [], (None, (o, hl), (Some (numbers hr.0), hr.1, refl)), refl), hr.2)
  comma_fits true a_pointer e l r o hl hr = (pointers ∷ [], (None, (o, hl), (Some pointers, hr, refl)), refl)
  comma_fits true no_value e l r o hl hr = absurd (true≢false e)
  comma_fits false (a_number t) e l r o hl hr = absurd (false≢true e)
  comma_fits false a_pointer e l r o hl hr = absurd (false≢true e)
  comma_fits false no_value e l r o hl hr = ([], (None, (o, hl), (None, (None, hr), refl)))

  pub call_fits : (b : Bool) (k : ValueKind) → b ≡ is_value k → (site : ℕ) (p : Place) (es : Inputs) (ins : List Sort)
      → InputsFit laid Call es ins → Call site ins (sort_of_kind k) → ValueFits k (call_code b site p es)
  call_fits true (a_number t) e site p es ins h c =
      (t, (numbers t ∷ [], (Some (numbers t), (ins, h, c), refl), refl), within_self (numbers t))
  call_fits true a_pointer e site p es ins h c = (pointers ∷ [], (Some pointers, (ins, h, c), refl), refl)
  call_fits true no_value e site p es ins h c = absurd (true≢false e)
  call_fits false (a_number t) e site p es ins h c = absurd (false≢true e)
  call_fits false a_pointer e site p es ins h c = absurd (false≢true e)
  call_fits false no_value e site p es ins h c = ([], (None, (ins, None, h, c), refl))

  -- a conversion; where it is implied, what it converts is the operand
  pub conversion_fits : (from to : IntType) (same : Bool) (p : Place) (e : Code) → ValueFits (a_number from) e
      → let c : Code = converted_code (conversion from to) e in
      CodesFit (a_number to) (if same then conversion from to else None)
      (record (valued false p c) { bare = if same then e else c })
  conversion_fits from to same p e h =
      let cv : Conversion = conversion from to in
      let k : Converts cv h.0 to = conversion_converts from to h.0 h.2 in
      let vs : List Sort = numbers h.0 ∷ [] in
      let ws : List Sort = convert_vars cv vs in
      let x : Holds ws (converted_at cv 0 1) (numbers to) = converted_is cv vs 0 1 h.0 to refl refl k in
      let v : ValueFits (a_number to) (converted_code cv e) =
      held_value to (first_then (value_of e) (convert_then cv 0 no_more)) ws (converted_at cv 0 1) x.0
      (Some (numbers h.0), h.1, convert_step laid Call cv vs 0 h.0 to no_more ws refl k refl) x.1 x.2 in
      let f = (valued_fits false p (a_number to) (converted_code cv e) (λ q. absurd (false≢true q)) v).fork in
      record { value = v; bare = by_test same v k; fork = f }
    where
      by_test : (b : Bool) → ValueFits (a_number to) (converted_code (conversion from to) e)
          → Converts (conversion from to) h.0 to
          → BareFits (a_number to) (if b then conversion from to else None)
          (if b then e else converted_code (conversion from to) e)
      by_test true v k = (h.0, h.1, k)
      by_test false v k = v
