-- What a statement is lowered to keeps kinds.
use Rattle.std.proofs.Common.{◌≡◌, refl, ℕ, zero, suc, ◌+◌, ◌≤◌, Bool, true, false, List, [], ◌∷◌, length}
use Rattle.std.proofs.Common.{Option, Some, None, arith}
use Rattle.std.specs.Prelude.{All}
use Rattle.std.proofs.lemmas.List.Elements.{All-head, All-tail}
use Rattle.operation_laws.specs.tm_terms.declared.places.Place.{Place}
use Rattle.operation_laws.specs.tm_typed.declared.types.Scalar.{Scalar}
use Rattle.operation_laws.specs.tm_typed.declared.types.Scalar.TheVariants as Scalars
use Rattle.operation_laws.specs.tm_typed.declared.scopes.ObjectNumber.TheVariants as Objects
use Rattle.operation_laws.specs.tm_typed.declared.files.LocalEntry.{LocalEntry}
use Rattle.operation_laws.specs.tm_typed.TypedTrees.{RvalueTree}
use Rattle.operation_laws.specs.tm_typed.WellTyped.{a_number, kind_of_scalar, Context}
use Rattle.operation_laws.specs.tm_typed.TypedStatements.{GivenTree, LocalInitialiserTree, LocalTree, TypedTree}
use Rattle.operation_laws.specs.tm_typed.TypedStatements.{evaluates, declares}
use Rattle.operation_laws.specs.tm_typed.TypedStatements.{runs_block, branches, branches_else, loops_while, loops_do}
use Rattle.operation_laws.specs.tm_typed.TypedStatements.{loops_for}
use Rattle.operation_laws.specs.tm_typed.TypedStatements.{selects, breaks, continues, returns}
use Rattle.operation_laws.specs.tm_typed.TypedStatements.{TypedTrees}
use Rattle.operation_laws.specs.tm_typed.TypedStatements.{no_statements, and_statement, a_label, a_default_label}
use Rattle.operation_laws.specs.tm_typed.TypedStatements.{a_labelled_step}
use Rattle.operation_laws.specs.tm_typed.TypedStatements.{TypedCase, TypedCases, no_typed_cases, and_typed_case}
use Rattle.operation_laws.specs.tm_laid.Layouts.{LaidTree, object_at, object_of, scalars_of_type, scalars_from}
use Rattle.operation_laws.specs.concrete_steps.NextAction.{scalar_at, is_given, rest_of}
use Rattle.operation_laws.specs.typed_file_laws.Bodies.{IsAnyRvalue, IsTest, IfGiven, IsGivenCell, AreGivenBy, IsLocal}
use Rattle.operation_laws.specs.typed_file_laws.Bodies.{IsReturned}
use Rattle.operation_laws.specs.typed_file_laws.Bodies.{IsStatement, AreStatements, AreParts, IsPart}
use Rattle.operation_laws.specs.typed_file_laws.Mentions.{Mentions, MayMention, GivenMention, StatementMentions}
use Rattle.operation_laws.specs.typed_file_laws.Mentions.{StatementsMention}
use Rattle.operation_laws.specs.typed_file_laws.Mentions.{CasesMention, CaseMentions}
use Rattle.operation_laws.specs.lowering.Steps.{Steps, Code, Parts}
use Rattle.operation_laws.specs.lowering.Table.{nothing_stored, cell_value, cell_code, is_alone, cells_stored}
use Rattle.operation_laws.specs.lowering.Table.{initialised}
use Rattle.operation_laws.specs.lowering.Table.{locals_steps, effect_steps, optional_fork, optional_code, plan, plans}
use Rattle.operation_laws.specs.lowering.Table.{part_then, parts}
use Rattle.operation_laws.specs.next_action_laws.Actions.{IsPlace}
use Rattle.operation_laws.proofs.low.next_action_laws.TypePlaces.{begins_length}
use Rattle.sound_runs.specs.Addresses.{address_of, anything}
use Rattle.sound_addresses.proofs.Kept.{base_keeps, offset_keeps}
use Rattle.sound_addresses.proofs.StepKinds.{StepsFit, CodeFits, MaybeFork, AnySteps, MaybeCode, PlanFits, PartsFit}
use Rattle.sound_addresses.proofs.StepKinds.{dull_code}
use Rattle.sound_addresses.proofs.ExpressionKinds.{IsStage, w, Call, codes_fit}

module _ (laid : LaidTree) (body path : ℕ) (locals : List LocalEntry) (defined : ℕ → Bool) (calls : List ℕ)
    (stage : IsStage laid body path locals defined)
    (sizes : (x n : ℕ) → (w laid body path locals defined calls stage).type_of (Objects.Local x) ≡ Some n
    → (object_at laid (object_of laid path (Objects.Local x))).cells ≤ length (scalars_of_type laid.file n))
    (from_length : (o k : ℕ) → k ≤ (object_at laid o).cells
    → length (scalars_from laid o k) + k ≤ (object_at laid o).cells) (result : ℕ) where
  abbrev pub W : Context
  W = w laid body path locals defined calls stage

  abbrev pub C : ℕ → Type 0
  C = Call laid body path locals defined calls stage

  -- ## Expressions as parts of statements

  effect_fits : (e : Option RvalueTree) → IfGiven (IsAnyRvalue W) e → MayMention defined calls e
      → AnySteps laid body C (effect_steps laid path e)
  effect_fits None h q = ([], refl)
  effect_fits (Some e) h q =
      ([], (None, (Some anything, (codes_fit laid body path locals defined calls stage h.0 e h.1 q).value), refl))

  test_fits : (e : Option RvalueTree) → IfGiven (IsTest W) e → MayMention defined calls e
      → MaybeFork laid body C (optional_fork laid path e)
  test_fits None h q = tt
  test_fits (Some e) h q = (codes_fit laid body path locals defined calls stage h.0 e h.2 q).fork

  returned_fits : (e : Option RvalueTree) → IsReturned W result e → MayMention defined calls e
      → MaybeCode laid body C (optional_code laid path e)
  returned_fits None h q = tt
  returned_fits (Some e) h q =
      (anything, (codes_fit laid body path locals defined calls stage (kind_of_scalar h.0) e h.2 q).value, refl)

  -- ## Declarations

  nothing_fits : (s : Scalar) → CodeFits laid body C (nothing_stored laid path s) anything
  nothing_fits (Scalars.Int t) = dull_code laid body C (nothing_stored laid path (Scalars.Int t)) (tt, tt)
  nothing_fits (Scalars.Pointer class) =
      dull_code laid body C (nothing_stored laid path (Scalars.Pointer class)) (tt, tt)

  -- what is known of the cells that an initialiser gives
  abbrev AllGiven : List GivenTree → Type 0
  AllGiven gs = All (IsGivenCell W) gs × All (λ (g : GivenTree). Mentions defined calls g.value) gs

  rest_given : (b : Bool) (gs : List GivenTree) → AllGiven gs → AllGiven (rest_of b gs)
  rest_given true [] h = h
  rest_given true (g ∷ gs) h =
      (All-tail (IsGivenCell W) g gs h.0, All-tail (λ (x : GivenTree). Mentions defined calls x.value) g gs h.1)
  rest_given false gs h = h

  cell_value_fits : (s : Scalar) (b : Bool) (gs : List GivenTree) → AllGiven gs
      → CodeFits laid body C (cell_value laid path s b gs) anything
  cell_value_fits s true [] h = nothing_fits s
  cell_value_fits s false gs h = nothing_fits s
  cell_value_fits s true (g ∷ gs) h =
      (codes_fit laid body path locals defined calls stage (kind_of_scalar g.scalar) g.value
      (All-head (IsGivenCell W) g gs h.0)
      (All-head (λ (x : GivenTree). Mentions defined calls x.value) g gs h.1)).value

  -- a cell of an object of the type
  offset_inside : (n k : ℕ) → k ≤ length (scalars_of_type laid.file n) → (o j : ℕ) → IsPlace laid body o j n
      → j + k ≤ (object_at laid o).cells
  offset_inside n k le o j p =
      let a = begins_length (scalars_from laid o j) (scalars_of_type laid.file n) p.stands in
      let b = from_length o j p.inside in
      omega (arith, a, b, le)

  cell_fits : (alone : Bool) (o n : ℕ) (p : Place) (k : ℕ) (s : Scalar) (c : Code) → IsPlace laid body o 0 n
      → k ≤ length (scalars_of_type laid.file n) → CodeFits laid body C c anything
      → CodeFits laid body C (cell_code laid path alone o p k s c) anything
  cell_fits true o n p k s c l le h =
      dull_code laid body C (cell_code laid path true o p k s c) (tt, (h, (tt, tt)))
  cell_fits false o n p k s c l le h = (
    address_of n ∷ anything ∷ anything ∷ [],
    (
      Some (address_of n),
      (λ f to kinds see is. base_keeps laid body stage.few kinds to o n is l),
      (
        Some anything,
        (λ f to kinds see is. offset_keeps laid body stage.few kinds to (f 0) n k anything (see 0 n refl) is
            (λ o' j q. (offset_inside n k le o' j q, tt))),
        (Some anything, h, (None, tt, refl)),
      ),
    ),
    tt,
  )

  cells_fit : (o t : ℕ) (p : Place) (n k : ℕ) (gs : List GivenTree) → IsPlace laid body o 0 t
      → n + k ≤ length (scalars_of_type laid.file t) → AllGiven gs → (rest : Steps)
      → StepsFit laid body C [] rest []
      → StepsFit laid body C [] (cells_stored laid path o p n k gs rest) []
  cells_fit o t p zero k gs l le h rest f = f
  cells_fit o t p (suc n) k gs l le h rest f = (
    None,
    (
      Some anything,
      cell_fits (is_alone laid path o k) o t p k (scalar_at laid o k) _ l (omega (arith, le))
          (cell_value_fits (scalar_at laid o k) (is_given k gs) gs h),
    ),
    cells_fit o t p n (suc k) (rest_of (is_given k gs) gs) l (omega (arith, le)) (rest_given (is_given k gs) gs h)
        rest f,
  )

  initialised_fits : (x n : ℕ) (i : Option LocalInitialiserTree) → W.type_of (Objects.Local x) ≡ Some n
      → AreGivenBy W i → GivenMention defined calls i → (rest : Steps) → StepsFit laid body C [] rest []
      → StepsFit laid body C [] (initialised laid path (object_of laid path (Objects.Local x)) i rest) []
  initialised_fits x n None e h q rest f = f
  initialised_fits x n (Some i) e h q rest f =
      let o : ℕ = object_of laid path (Objects.Local x) in
      let s = sizes x n e in
      cells_fit o n i.place (object_at laid o).cells 0 i.given (stage.objects (Objects.Local x) n e tt)
      (omega (arith, s)) (h, q) rest f

  locals_fit : (ls : List LocalTree) → All (IsLocal W) ls
      → All (λ (l : LocalTree). GivenMention defined calls l.initialiser) ls
      → StepsFit laid body C [] (locals_steps laid path ls) []
  locals_fit [] h q = refl
  locals_fit (l ∷ ls) h q =
      let is : IsLocal W l = All-head (IsLocal W) l ls h in (
        None,
        tt,
        initialised_fits l.object is.type l.initialiser is.object is.given
            (All-head (λ (x : LocalTree). GivenMention defined calls x.initialiser) l ls q) (locals_steps laid path ls)
            (locals_fit ls (All-tail (IsLocal W) l ls h)
            (All-tail (λ (x : LocalTree). GivenMention defined calls x.initialiser) l ls q)),
      )

  -- ## Statements

  mutual
    plan_fits : (s : TypedTree) → IsStatement W result s → StatementMentions defined calls s
        → PlanFits laid body C (plan laid path s)
    plan_fits (evaluates e) h q = effect_fits e h q
    plan_fits (declares ls) h q = ([], locals_fit ls h q)
    plan_fits (runs_block ss) h q = plans_fit ss h q
    plan_fits (branches c s) h q = (test_fits (Some c) h.0 q.0, plan_fits s h.1 q.1, tt)
    plan_fits (branches_else c s t) h q =
        (test_fits (Some c) h.0 q.0, plan_fits s h.1 q.1, plan_fits t h.2 q.2)
    plan_fits (loops_while c s) h q = (test_fits (Some c) h.0 q.0, plan_fits s h.1 q.1)
    plan_fits (loops_do s c) h q = (plan_fits s h.1 q.0, test_fits (Some c) h.0 q.1)
    plan_fits (loops_for f c e s) h q =
        (plan_fits f h.0 q.0, (test_fits c h.1 q.1, effect_fits e h.2 q.2, plan_fits s h.3 q.3))
    plan_fits (selects t e cs) h q =
        let v = (codes_fit laid body path locals defined calls stage (a_number t) e h.0 q.0).value in
        (anything, tt, v, parts_fit cs h.1 q.1)
    plan_fits breaks h q = tt
    plan_fits continues h q = tt
    plan_fits (returns e) h q = returned_fits e h q
    plan_fits _ h q = ([], (None, tt, refl))

    pub plans_fit : (ss : TypedTrees) → AreStatements W result ss → StatementsMention defined calls ss
        → PlanFits laid body C (plans laid path ss)
    plans_fit no_statements h q = tt
    plans_fit (and_statement s ss) h q = (plan_fits s h.0 q.0, plans_fit ss h.1 q.1)

    part_fits : (c : TypedCase) → IsPart W result c → CaseMentions defined calls c → (rest : Parts)
        → PartsFit laid body C rest → PartsFit laid body C (part_then laid path c rest)
    part_fits (a_label z p) h q rest k = k
    part_fits (a_default_label p) h q rest k = k
    part_fits (a_labelled_step s) h q rest k = (plan_fits s h q, k)

    parts_fit : (cs : TypedCases) → AreParts W result cs → CasesMention defined calls cs
        → PartsFit laid body C (parts laid path cs)
    parts_fit no_typed_cases h q = tt
    parts_fit (and_typed_case c cs) h q = part_fits c h.0 q.0 (parts laid path cs) (parts_fit cs h.1 q.1)
