-- What a statement is lowered to has sorts.
use Rattle.std.proofs.Common.{◌≡◌, refl, sym, ap, subst, ◌∙◌, ℕ, zero, suc, ◌<◌, Bool, true, false, List, [], ◌∷◌}
use Rattle.std.proofs.Common.{length, Option, Some, None, pos}
use Rattle.std.specs.Prelude.{All}
use Rattle.std.proofs.lemmas.Bool.{eqb-true}
use Rattle.std.proofs.lemmas.Int.{ints}
use Rattle.std.proofs.Common.{arith}
use Rattle.std.proofs.lemmas.List.Elements.{All-nil, All-cons, All-head, All-tail}
use Rattle.temporary_types.specs.tm_cint.declared.int_types.IntType.{IntType}
use Rattle.temporary_types.specs.tm_cint.declared.int_types.IntType.TheVariants as Ints
use Rattle.temporary_types.specs.tm_cint.IntTypes.{IsIn}
use Rattle.temporary_types.specs.tm_terms.declared.places.Place.{Place}
use Rattle.temporary_types.specs.tm_typed.declared.types.CType.{CType}
use Rattle.temporary_types.specs.tm_typed.declared.types.CType.TheVariants as Types
use Rattle.temporary_types.specs.tm_typed.declared.types.TypeEntry.{TypeEntry}
use Rattle.temporary_types.specs.tm_typed.declared.types.Scalar.{Scalar}
use Rattle.temporary_types.specs.tm_typed.declared.types.Scalar.TheVariants as Scalars
use Rattle.temporary_types.specs.tm_typed.declared.scopes.ObjectNumber.TheVariants as Objects
use Rattle.temporary_types.specs.tm_typed.declared.files.LocalEntry.{LocalEntry}
use Rattle.temporary_types.specs.tm_typed.Scopes.{ctype_of, entry}
use Rattle.temporary_types.specs.tm_typed.Operands.{scalar_by}
use Rattle.temporary_types.specs.tm_typed.TypedTrees.{RvalueTree}
use Rattle.temporary_types.specs.tm_typed.WellTyped.{a_number, kind_of_scalar, Context}
use Rattle.temporary_types.specs.tm_typed.TypedStatements.{GivenTree, LocalInitialiserTree, LocalTree, TypedTree}
use Rattle.temporary_types.specs.tm_typed.TypedStatements.{evaluates, declares}
use Rattle.temporary_types.specs.tm_typed.TypedStatements.{runs_block, branches, branches_else, loops_while, loops_do}
use Rattle.temporary_types.specs.tm_typed.TypedStatements.{loops_for}
use Rattle.temporary_types.specs.tm_typed.TypedStatements.{selects, breaks, continues, returns, locks, unlocks, yields}
use Rattle.temporary_types.specs.tm_typed.TypedStatements.{TypedTrees}
use Rattle.temporary_types.specs.tm_typed.TypedStatements.{no_statements, and_statement, a_label, a_default_label}
use Rattle.temporary_types.specs.tm_typed.TypedStatements.{a_labelled_step}
use Rattle.temporary_types.specs.tm_typed.TypedStatements.{TypedCase, TypedCases, no_typed_cases, and_typed_case}
use Rattle.temporary_types.specs.tm_laid.Layouts.{LaidTree, object_at, object_of}
use Rattle.next_action_laws.specs.concrete_steps.NextAction.{scalar_at, is_given, rest_of}
use Rattle.next_action_laws.specs.typed_file_laws.Bodies.{IsAnyRvalue, IsTest, IfGiven, IsGivenCell, AreGivenBy}
use Rattle.next_action_laws.specs.typed_file_laws.Bodies.{IsLocal, IsReturned}
use Rattle.next_action_laws.specs.typed_file_laws.Bodies.{IsStatement, AreStatements, AreParts, IsPart}
use Rattle.next_action_laws.specs.typed_file_laws.Mentions.{Mentions, MayMention, GivenMention, StatementMentions}
use Rattle.next_action_laws.specs.typed_file_laws.Mentions.{StatementsMention}
use Rattle.next_action_laws.specs.typed_file_laws.Mentions.{CasesMention, CaseMentions}
use Rattle.temporary_types.specs.Sorts.{Sort, numbers, pointers, sort_of_scalar, Within}
use Rattle.lowering_laws.specs.lowering.Steps.{Steps, Code, Parts}
use Rattle.lowering_laws.specs.lowering.Table.{codes, nothing_stored, cell_value, cell_code, is_alone, cells_stored}
use Rattle.lowering_laws.specs.lowering.Table.{initialised}
use Rattle.lowering_laws.specs.lowering.Table.{locals_steps, effect_steps, optional_fork, optional_code, plan, plans}
use Rattle.lowering_laws.specs.lowering.Table.{part_then, parts}
use Rattle.next_action_laws.specs.Regular.{HasScalar, GivesCells, IsRegular, AreRegular, AreRegularParts}
use Rattle.next_action_laws.specs.Regular.{IsRegularPart}
use Rattle.operation_laws.proofs.Within.{within_self}
use Rattle.operation_laws.proofs.StepSorts.{StepsFit, CodeFits, MaybeFork, AnySteps, MaybeCode, PlanFits, PartsFit}
use Rattle.operation_laws.proofs.ValueSorts.{any_value, scalar_value}
use Rattle.operation_laws.proofs.ExpressionSorts.{IsStage, result_sort, w, is_mutex, codes_fit}

-- the sort of a result is that of its scalar
pub scalar_result : (e : TypeEntry) (t : CType) (s : Scalar) → scalar_by e t ≡ Some s
    → result_sort t ≡ Some (sort_of_scalar s)
scalar_result e (Types.Int t) s q = let P : Option Scalar
    → Type 0 = λ z. elim z as (λ x. Type 0)
    [ None ↦ ⊥ | Some y ↦ result_sort (Types.Int t) ≡ Some (sort_of_scalar y) ] in subst P q refl
scalar_result e (Types.Pointer r) s q = let P : Option Scalar
    → Type 0 = λ z. elim z as (λ x. Type 0)
    [ None ↦ ⊥ | Some y ↦ result_sort (Types.Pointer r) ≡ Some (sort_of_scalar y) ] in subst P q refl
scalar_result e _ s q = absurd cc

module _ (laid : LaidTree) (path : ℕ) (locals : List LocalEntry) (defined : ℕ → Bool) (calls : List ℕ)
    (Call : ℕ → List Sort → Option Sort → Type 0) (stage : IsStage laid path locals defined calls Call)
    (cells : (x n c : ℕ) (s : Scalar) → (w laid path locals).type_of (Objects.Local x) ≡ Some n
    → HasScalar (w laid path locals).scope n c s → scalar_at laid (object_of laid path (Objects.Local x)) c ≡ s)
    (result : ℕ) where
  abbrev W : Context
  W = w laid path locals

  abbrev pub R : Option Sort
  R = result_sort (ctype_of W.scope result)

  -- ## Expressions as parts of statements

  effect_fits : (e : Option RvalueTree) → IfGiven (IsAnyRvalue W) e → MayMention defined calls e
      → AnySteps laid Call (effect_steps laid path e)
  effect_fits None h q = ([], refl)
  effect_fits (Some e) h q = (
    [],
    (
      None,
      any_value laid Call h.0 (codes laid path e).value
          (codes_fit laid path locals defined calls Call stage h.0 e h.1 q).value,
      refl,
    ),
  )

  test_fits : (e : Option RvalueTree) → IfGiven (IsTest W) e → MayMention defined calls e
      → MaybeFork laid Call (optional_fork laid path e)
  test_fits None h q = tt
  test_fits (Some e) h q = (codes_fit laid path locals defined calls Call stage h.0 e h.2 q).fork h.1

  returned_fits : (e : Option RvalueTree) → IsReturned W result e → MayMention defined calls e
      → MaybeCode laid Call R (optional_code laid path e)
  returned_fits None h q = tt
  returned_fits (Some e) h q =
      let v = scalar_value laid Call h.0 (codes laid path e).value
      (codes_fit laid path locals defined calls Call stage (kind_of_scalar h.0) e h.2 q).value in
      subst (λ (z : Option Sort). MaybeCode laid Call z (Some (codes laid path e).value))
      (sym (scalar_result (entry W.scope result) (ctype_of W.scope result) h.0 h.1)) (v.0, v.1, v.2)

  -- ## Declarations

  -- a value for a cell of a scalar type
  abbrev CellFits : Scalar → Code → Type 0
  CellFits s c = (o : Sort) × CodeFits laid Call c (Some o) × Within o (sort_of_scalar s)

  nothing_fits : (s : Scalar) → CellFits s (nothing_stored laid path s)
  nothing_fits (Scalars.Int t) =
      (numbers t, (numbers t ∷ [], (Some (numbers t), (tt, zero_in t), refl), refl), within_self (numbers t))
    where
      zero_in : (t : IntType) → IsIn t (pos 0)
      zero_in Ints.Bool = record { at_least = omega (arith, ints); at_most = omega (arith, ints) }
      zero_in Ints.Char = record { at_least = omega (arith, ints); at_most = omega (arith, ints) }
      zero_in Ints.UChar = record { at_least = omega (arith, ints); at_most = omega (arith, ints) }
      zero_in Ints.Short = record { at_least = omega (arith, ints); at_most = omega (arith, ints) }
      zero_in Ints.UShort = record { at_least = omega (arith, ints); at_most = omega (arith, ints) }
      zero_in Ints.Int = record { at_least = omega (arith, ints); at_most = omega (arith, ints) }
      zero_in Ints.UInt = record { at_least = omega (arith, ints); at_most = omega (arith, ints) }
      zero_in Ints.Long = record { at_least = omega (arith, ints); at_most = omega (arith, ints) }
      zero_in Ints.ULong = record { at_least = omega (arith, ints); at_most = omega (arith, ints) }
      zero_in Ints.LLong = record { at_least = omega (arith, ints); at_most = omega (arith, ints) }
      zero_in Ints.ULLong = record { at_least = omega (arith, ints); at_most = omega (arith, ints) }
  nothing_fits (Scalars.Pointer class) =
      (pointers, (pointers ∷ [], (Some pointers, (tt, tt), refl), refl), tt)

  -- what is known of the cells that an initialiser gives to the object
  abbrev AllGiven : ℕ → List GivenTree → Type 0
  AllGiven o gs = All (IsGivenCell W) gs × All (λ (g : GivenTree). Mentions defined calls g.value) gs
      × All (λ (g : GivenTree). scalar_at laid o g.cell ≡ g.scalar) gs

  rest_given : (o : ℕ) (b : Bool) (gs : List GivenTree) → AllGiven o gs → AllGiven o (rest_of b gs)
  rest_given o true [] h = h
  rest_given o true (g ∷ gs) h = (
    All-tail (IsGivenCell W) g gs h.0,
    All-tail (λ (x : GivenTree). Mentions defined calls x.value) g gs h.1,
    All-tail (λ (x : GivenTree). scalar_at laid o x.cell ≡ x.scalar) g gs h.2,
  )
  rest_given o false gs h = h

  cell_value_fits : (o k : ℕ) (b : Bool) (gs : List GivenTree) → is_given k gs ≡ b → AllGiven o gs
      → CellFits (scalar_at laid o k) (cell_value laid path (scalar_at laid o k) b gs)
  cell_value_fits o k true [] e h = nothing_fits (scalar_at laid o k)
  cell_value_fits o k false gs e h = nothing_fits (scalar_at laid o k)
  cell_value_fits o k true (g ∷ gs) e h =
      let same : g.cell ≡ k = eqb-true g.cell k e in
      let is : g.scalar ≡ scalar_at laid o k =
      sym (All-head (λ (x : GivenTree). scalar_at laid o x.cell ≡ x.scalar) g gs h.2)
      ∙ ap (λ x. scalar_at laid o x) same in
      subst (λ (s : Scalar). CellFits s (codes laid path g.value).value) is
      (scalar_value laid Call g.scalar (codes laid path g.value).value
      (codes_fit laid path locals defined calls Call stage (kind_of_scalar g.scalar) g.value
      (All-head (IsGivenCell W) g gs h.0)
      (All-head (λ (x : GivenTree). Mentions defined calls x.value) g gs h.1)).value)

  cell_fits : (alone : Bool) (o : ℕ) (p : Place) (k : ℕ) (s : Scalar) (c : Code) → o < length laid.objects
      → CellFits s c → CodeFits laid Call (cell_code laid path alone o p k s c) None
  cell_fits true o p k s c l h = (
    pointers ∷ h.0 ∷ [],
    (
      Some pointers,
      (l, tt),
      (Some h.0, h.1, (None, (((pointers, refl, tt), (h.0, refl, h.2), l), tt), refl)),
    ),
  )
  cell_fits false o p k s c l h = (
    pointers ∷ pointers ∷ h.0 ∷ [],
    (
      Some pointers,
      (l, tt),
      (
        Some pointers,
        ((pointers, refl, tt), tt),
        (Some h.0, h.1, (None, (((pointers, refl, tt), (h.0, refl, h.2), l), tt), refl)),
      ),
    ),
  )

  cells_fit : (o : ℕ) (p : Place) (n k : ℕ) (gs : List GivenTree) → o < length laid.objects → AllGiven o gs
      → (rest : Steps) → StepsFit laid Call [] rest []
      → StepsFit laid Call [] (cells_stored laid path o p n k gs rest) []
  cells_fit o p zero k gs l h rest f = f
  cells_fit o p (suc n) k gs l h rest f = (
    None,
    (
      None,
      cell_fits (is_alone laid path o k) o p k (scalar_at laid o k) _ l
          (cell_value_fits o k (is_given k gs) gs refl h),
    ),
    cells_fit o p n (suc k) (rest_of (is_given k gs) gs) l (rest_given o (is_given k gs) gs h) rest f,
  )

  all_of_type : (x n : ℕ) → W.type_of (Objects.Local x) ≡ Some n → (gs : List GivenTree)
      → All (λ (g : GivenTree). HasScalar W.scope n g.cell g.scalar) gs
      → All (λ (g : GivenTree). scalar_at laid (object_of laid path (Objects.Local x)) g.cell ≡ g.scalar) gs
  all_of_type x n e [] h =
      All-nil
      (λ (g : GivenTree). scalar_at laid (object_of laid path (Objects.Local x)) g.cell ≡ g.scalar)
  all_of_type x n e (g ∷ gs) h =
      All-cons
      (λ (y : GivenTree). scalar_at laid (object_of laid path (Objects.Local x)) y.cell ≡ y.scalar) g gs
      (cells x n g.cell g.scalar e (All-head (λ (y : GivenTree). HasScalar W.scope n y.cell y.scalar) g gs h))
      (all_of_type x n e gs (All-tail (λ (y : GivenTree). HasScalar W.scope n y.cell y.scalar) g gs h))

  initialised_fits : (x : ℕ) (i : Option LocalInitialiserTree)
      → object_of laid path (Objects.Local x) < length laid.objects → AreGivenBy W i → GivenMention defined calls i
      → GivesCells W x i → (rest : Steps) → StepsFit laid Call [] rest []
      → StepsFit laid Call [] (initialised laid path (object_of laid path (Objects.Local x)) i rest) []
  initialised_fits x None l h q g rest f = f
  initialised_fits x (Some i) l h q g rest f =
      let o : ℕ = object_of laid path (Objects.Local x) in
      cells_fit o i.place (object_at laid o).cells 0 i.given l (h, q, all_of_type x g.0 g.1 i.given g.2) rest f

  locals_fit : (ls : List LocalTree) → All (IsLocal W) ls
      → All (λ (l : LocalTree). GivenMention defined calls l.initialiser) ls
      → All (λ (l : LocalTree). GivesCells W l.object l.initialiser) ls
      → StepsFit laid Call [] (locals_steps laid path ls) []
  locals_fit [] h q g = refl
  locals_fit (l ∷ ls) h q g =
      let is : IsLocal W l = All-head (IsLocal W) l ls h in
      let there = stage.objects (Objects.Local l.object) is.type is.object tt in (
        None,
        (there, tt),
        initialised_fits l.object l.initialiser there is.given
            (All-head (λ (x : LocalTree). GivenMention defined calls x.initialiser) l ls q)
            (All-head (λ (x : LocalTree). GivesCells W x.object x.initialiser) l ls g) (locals_steps laid path ls)
            (locals_fit ls (All-tail (IsLocal W) l ls h)
            (All-tail (λ (x : LocalTree). GivenMention defined calls x.initialiser) l ls q)
            (All-tail (λ (x : LocalTree). GivesCells W x.object x.initialiser) l ls g)),
      )

  -- ## Statements

  mutual
    plan_fits : (loop switch : Bool) (s : TypedTree) → IsStatement W result s → StatementMentions defined calls s
        → IsRegular W loop switch s → PlanFits laid Call R (plan laid path s)
    plan_fits loop switch (evaluates e) h q g = effect_fits e h q
    plan_fits loop switch (declares ls) h q g = ([], locals_fit ls h q g)
    plan_fits loop switch (runs_block ss) h q g = plans_fit loop switch ss h q g
    plan_fits loop switch (branches c s) h q g =
        (test_fits (Some c) h.0 q.0, plan_fits loop switch s h.1 q.1 g, tt)
    plan_fits loop switch (branches_else c s t) h q g = (
      test_fits (Some c) h.0 q.0,
      plan_fits loop switch s h.1 q.1 g.0,
      plan_fits loop switch t h.2 q.2 g.1,
    )
    plan_fits loop switch (loops_while c s) h q g = (test_fits (Some c) h.0 q.0, plan_fits true switch s h.1 q.1 g)
    plan_fits loop switch (loops_do s c) h q g = (plan_fits true switch s h.1 q.0 g, test_fits (Some c) h.0 q.1)
    plan_fits loop switch (loops_for f c e s) h q g = (
      plan_fits loop switch f h.0 q.0 g.0,
      (test_fits c h.1 q.1, effect_fits e h.2 q.2, plan_fits true switch s h.3 q.3 g.1),
    )
    plan_fits loop switch (selects t e cs) h q g =
        let v = (codes_fit laid path locals defined calls Call stage (a_number t) e h.0 q.0).value in
        (numbers v.0, (t, v.2), v.1, parts_fit loop true cs h.1 q.1 g)
    plan_fits loop switch breaks h q g = tt
    plan_fits loop switch continues h q g = tt
    plan_fits loop switch (returns e) h q g = returned_fits e h q
    plan_fits loop switch (locks m p) h q g =
        ([], (None, (is_mutex laid path locals defined calls Call stage m h, tt), refl))
    plan_fits loop switch (unlocks m p) h q g =
        ([], (None, (is_mutex laid path locals defined calls Call stage m h, tt), refl))
    plan_fits loop switch yields h q g = ([], (None, (tt, tt), refl))

    pub plans_fit : (loop switch : Bool) (ss : TypedTrees) → AreStatements W result ss
        → StatementsMention defined calls ss → AreRegular W loop switch ss → PlanFits laid Call R (plans laid path ss)
    plans_fit loop switch no_statements h q g = tt
    plans_fit loop switch (and_statement s ss) h q g =
        (plan_fits loop switch s h.0 q.0 g.0, plans_fit loop switch ss h.1 q.1 g.1)

    part_fits : (loop switch : Bool) (c : TypedCase) → IsPart W result c → CaseMentions defined calls c
        → IsRegularPart W loop switch c → (rest : Parts) → PartsFit laid Call R rest
        → PartsFit laid Call R (part_then laid path c rest)
    part_fits loop switch (a_label z p) h q g rest k = k
    part_fits loop switch (a_default_label p) h q g rest k = k
    part_fits loop switch (a_labelled_step s) h q g rest k = (plan_fits loop switch s h q g, k)

    parts_fit : (loop switch : Bool) (cs : TypedCases) → AreParts W result cs → CasesMention defined calls cs
        → AreRegularParts W loop switch cs → PartsFit laid Call R (parts laid path cs)
    parts_fit loop switch no_typed_cases h q g = tt
    parts_fit loop switch (and_typed_case c cs) h q g =
        part_fits loop switch c h.0 q.0 g.0 (parts laid path cs) (parts_fit loop switch cs h.1 q.1 g.1)
