-- Statements keep to proper actions.
use Rattle.std.proofs.Common.{◌≡◌, refl, ap, sym, subst, ◌∙◌, ℕ, zero, suc, ◌+◌, ◌<◌, ◌≤◌, Bool, true, false, List, []}
use Rattle.std.proofs.Common.{◌∷◌, Option, Some, None, arith}
use Rattle.std.specs.Prelude.{◌||◌, All}
use Rattle.std.proofs.lemmas.Bool.{eqb-true}
use Rattle.std.proofs.lemmas.List.Elements.{All-head, All-tail}
use Rattle.cell_layout.specs.tm_terms.declared.places.Place.{Place}
use Rattle.cell_layout.specs.tm_typed.declared.types.CType.{CType}
use Rattle.cell_layout.specs.tm_typed.declared.types.CType.TheVariants as Types
use Rattle.cell_layout.specs.tm_typed.declared.types.TypeEntry.{TypeEntry}
use Rattle.cell_layout.specs.tm_typed.declared.types.Scalar.{Scalar}
use Rattle.cell_layout.specs.tm_typed.declared.scopes.ObjectNumber.TheVariants as Objects
use Rattle.cell_layout.specs.tm_typed.declared.files.LocalEntry.{LocalEntry}
use Rattle.cell_layout.specs.tm_typed.Scopes.{ctype_of, entry}
use Rattle.cell_layout.specs.tm_typed.Operands.{scalar_by, kept_sort}
use Rattle.cell_layout.specs.tm_typed.TypedTrees.{RvalueTree}
use Rattle.cell_layout.specs.tm_typed.WellTyped.{ValueKind, a_number, a_pointer, kind_of_scalar, kind_of, Context}
use Rattle.cell_layout.specs.tm_typed.WellTyped.{IsRvalue}
use Rattle.cell_layout.specs.tm_typed.TypedStatements.{GivenTree, LocalInitialiserTree, LocalTree, TypedTree, evaluates}
use Rattle.cell_layout.specs.tm_typed.TypedStatements.{declares}
use Rattle.cell_layout.specs.tm_typed.TypedStatements.{runs_block, branches, branches_else, loops_while, loops_do}
use Rattle.cell_layout.specs.tm_typed.TypedStatements.{loops_for}
use Rattle.cell_layout.specs.tm_typed.TypedStatements.{selects, breaks, continues, returns, locks, unlocks, yields}
use Rattle.cell_layout.specs.tm_typed.TypedStatements.{TypedTrees}
use Rattle.cell_layout.specs.tm_typed.TypedStatements.{no_statements, and_statement, a_label, a_default_label}
use Rattle.cell_layout.specs.tm_typed.TypedStatements.{a_labelled_step}
use Rattle.cell_layout.specs.tm_typed.TypedStatements.{TypedCases, no_typed_cases, and_typed_case}
use Rattle.cell_layout.specs.tm_laid.Layouts.{LaidTree, object_at, object_of}
use Rattle.cell_types.specs.concrete_values.declared.values.Value.{Value}
use Rattle.cell_types.specs.concrete_values.declared.values.Answer.{Answer}
use Rattle.cell_types.specs.concrete_values.declared.actions.Next.TheVariants as Acts
use Rattle.cell_types.specs.concrete_values.Values.{nothing}
use Rattle.cell_types.specs.concrete_values.Operators.{is_case}
use Rattle.cell_types.specs.concrete_values.Pointers.{base, part}
use Rattle.cell_types.specs.concrete_values.Actions.{store_at}
use Rattle.concrete_steps.specs.NextAction.{After, act_then, Here, as_value, as_branch, scalar_at, zero_of, expr_then}
use Rattle.concrete_steps.specs.NextAction.{unused_then, condition_then, is_given, cell_then, rest_of, cells_then}
use Rattle.concrete_steps.specs.NextAction.{initialiser_then, local_then, locals_then, Exits, returned_then, inside}
use Rattle.concrete_steps.specs.NextAction.{stmt_then, block_then, cases_then, case_then, default_then}
use Rattle.next_action_laws.specs.Actions.{IsCell, IsPlace}
use Rattle.next_action_laws.specs.Regular.{HasScalar, GivesCells, IsRegular, AreRegular, AreRegularParts}
use Rattle.typed_file_laws.specs.Bodies.{IsAnyRvalue, IsTest, IfGiven, IsGivenCell, AreGivenBy, IsLocal, IsReturned}
use Rattle.typed_file_laws.specs.Bodies.{IsStatement, AreStatements, AreParts}
use Rattle.typed_file_laws.specs.Mentions.{Mentions, MayMention, GivenMention, StatementMentions, StatementsMention}
use Rattle.typed_file_laws.specs.Mentions.{CasesMention}
use Rattle.next_action_laws.proofs.Keeping.{HasKind, to_scalar, keeps_less, act_keeps, if_keeps, loop_keeps}
use Rattle.next_action_laws.proofs.GivenValues.{zero_is}
use Rattle.next_action_laws.proofs.Addresses.{at, base_is, part_is, store_keeps, clear_keeps}
use Rattle.next_action_laws.proofs.Expressions.{Calls, IsStage, here, w, K, expr_keeps}

-- the scalar of a result is of the kind of what a call gives
pub kept_kind : (e : TypeEntry) (t : CType) (s : Scalar) → scalar_by e t ≡ Some s
    → kind_of_scalar s ≡ kind_of (kept_sort t)
kept_kind e Types.Void s q = absurd cc
kept_kind e (Types.Int t) s q = let P : Option Scalar
    → Type 0 = λ z. elim z as (λ x. Type 0) [ None ↦ ⊥ | Some y ↦ kind_of_scalar y ≡ a_number t ] in subst P q refl
kept_kind e (Types.Pointer r) s q = let P : Option Scalar
    → Type 0 = λ z. elim z as (λ x. Type 0) [ None ↦ ⊥ | Some y ↦ kind_of_scalar y ≡ a_pointer ] in subst P q refl
kept_kind e (Types.Array f n) s q = absurd cc
kept_kind e (Types.Struct n) s q = absurd cc

module _ (laid : LaidTree) (body : ℕ) (a : Answer) (path : ℕ) (locals : List LocalEntry) (defined : ℕ → Bool)
    (calls : List ℕ) (call : Calls)
    (stage : IsStage laid body a path locals defined calls call) (result : ℕ) where
  abbrev H : Here
  H = here laid body a path locals defined calls call stage

  abbrev W : Context
  W = w laid body a path locals defined calls call stage

  abbrev Kept : ℕ → After → After → Type 0
  Kept m k j = K laid body a path locals defined calls call stage m k j

  abbrev pub result_kind : ValueKind
  result_kind = kind_of (kept_sort (ctype_of W.scope result))

  expr : (m : ℕ) (k : ValueKind) (e : RvalueTree) → IsRvalue W k e → Mentions defined calls e → (go to : Value → After)
      → ((v : Value) → HasKind laid k v → Kept m (go v) (to v))
      → Kept m (expr_then H e (as_value go)) (expr_then H e (as_value to))
  expr m k e h q go to u = expr_keeps laid body a path locals defined calls call stage m k e h q (as_value go)
      (as_value to) u

  test : (m : ℕ) (e : RvalueTree) → IsTest W e → Mentions defined calls e → (one other one' other' : After)
      → Kept m one one' → Kept m other other'
      → Kept m (expr_then H e (as_branch one other)) (expr_then H e (as_branch one' other'))
  test m e h q one other one' other' u v =
      expr_keeps laid body a path locals defined calls call stage m h.0 e h.2 q (as_branch one other)
      (as_branch one' other') (u, v)

  unused : (m : ℕ) (e : Option RvalueTree) → IfGiven (IsAnyRvalue W) e → MayMention defined calls e → (go to : After)
      → Kept m go to → Kept m (unused_then H e go) (unused_then H e to)
  unused m None h q go to u = u
  unused m (Some e) h q go to u = expr m h.0 e h.1 q (λ v. go) (λ v. to) (λ v x. u)

  condition : (m : ℕ) (e : Option RvalueTree) → IfGiven (IsTest W) e → MayMention defined calls e
      → (one other one' other' : After) → Kept m one one' → Kept m other other'
      → Kept m (condition_then H e one other) (condition_then H e one' other')
  condition m None h q one other one' other' u v = u
  condition m (Some e) h q one other one' other' u v = test m e h q one other one' other' u v

  -- ## Declarations

  abbrev AllGiven : ℕ → List GivenTree → Type 0
  AllGiven n gs = All (IsGivenCell W) gs × All (λ (g : GivenTree). Mentions defined calls g.value) gs
      × All (λ (g : GivenTree). HasScalar W.scope n g.cell g.scalar) gs

  rest_given : (n : ℕ) (b : Bool) (gs : List GivenTree) → AllGiven n gs → AllGiven n (rest_of b gs)
  rest_given n true [] h = h
  rest_given n true (g ∷ gs) h = (
    All-tail (IsGivenCell W) g gs h.0,
    All-tail (λ (x : GivenTree). Mentions defined calls x.value) g gs h.1,
    All-tail (λ (x : GivenTree). HasScalar W.scope n x.cell x.scalar) g gs h.2,
  )
  rest_given n false gs h = h

  cell_given : (m o n k : ℕ) (gs : List GivenTree) (b : Bool) → is_given k gs ≡ b → IsPlace laid body o 0 n
      → AllGiven n gs → (go to : Value → After)
      → ((v : Value) → HasKind laid (kind_of_scalar (scalar_at laid o k)) v → Kept m (go v) (to v))
      → Kept m (cell_then H (scalar_at laid o k) b gs go) (cell_then H (scalar_at laid o k) b gs to)
  cell_given m o n k [] true e place h go to u = u (zero_of (scalar_at laid o k)) (zero_is laid (scalar_at laid o k))
  cell_given m o n k gs false e place h go to u = u (zero_of (scalar_at laid o k)) (zero_is laid (scalar_at laid o k))
  cell_given m o n k (g ∷ gs) true e place h go to u =
      let c : IsCell laid body o g.cell g.scalar =
      stage.tables.cells o n g.cell g.scalar place
      (All-head (λ (x : GivenTree). HasScalar W.scope n x.cell x.scalar) g gs h.2) in
      let same : g.cell ≡ k = eqb-true g.cell k e in
      let is : scalar_at laid o k ≡ g.scalar = ap (λ x. scalar_at laid o x) (sym same) ∙ c.scalar in
      expr m (kind_of_scalar g.scalar) g.value (All-head (IsGivenCell W) g gs h.0)
      (All-head (λ (x : GivenTree). Mentions defined calls x.value) g gs h.1) go to
      (λ v x. u v (subst (λ (s : Scalar). HasKind laid (kind_of_scalar s) v) (sym is) x))

  stored : (m o n k : ℕ) (v : Value) (p : Place) (go to : Value → After) → IsPlace laid body o 0 n
      → k < (object_at laid o).cells → HasKind laid (kind_of_scalar (scalar_at laid o k)) v
      → ((u : Value) → Kept m (go u) (to u))
      → Kept m (act_then laid (store_at (part laid k (base laid o)) (scalar_at laid o k) v p) go)
      (act_then laid (store_at (part laid k (base laid o)) (scalar_at laid o k) v p) to)
  stored m o n k v p go to place lt x h =
      let few = stage.tables.few in
      let zero_less : 0 + k ≡ k = omega arith in
      let is : part laid k (base laid o) ≡ at o k =
      ap (part laid k) (base_is laid few o place.object) ∙ part_is laid few o 0 k place.object (omega (arith, lt))
      ∙ ap (at o) zero_less in
      let cell : IsCell laid body o k (scalar_at laid o k) =
      record { object = place.object; usable = place.usable; inside = lt; scalar = refl } in
      subst (λ (y : Value). Kept m (act_then laid (store_at y (scalar_at laid o k) v p) go)
      (act_then laid (store_at y (scalar_at laid o k) v p) to)) (sym is)
      (store_keeps laid few body a m o k (scalar_at laid o k) v p go to cell (to_scalar laid (scalar_at laid o k) v x)
      h)

  all_cells : (m o n : ℕ) (p : Place) (count k : ℕ) (gs : List GivenTree) → k + count ≤ (object_at laid o).cells
      → IsPlace laid body o 0 n → AllGiven n gs → (go to : After) → Kept m go to
      → Kept m (cells_then H o p count k gs go) (cells_then H o p count k gs to)
  all_cells m o n p zero k gs le place h go to u = u
  all_cells m o n p (suc count) k gs le place h go to u =
      cell_given m o n k gs (is_given k gs) refl place h _ _ (λ v x.
      stored m o n k v p _ _ place (omega (arith, le)) x (λ y.
      all_cells m o n p count (suc k) (rest_of (is_given k gs) gs) (omega (arith, le)) place
      (rest_given n (is_given k gs) gs h) go to u))

  initialiser : (m x n : ℕ) (i : Option LocalInitialiserTree) → W.type_of (Objects.Local x) ≡ Some n → AreGivenBy W i
      → GivenMention defined calls i → GivesCells W x i → (go to : After) → Kept m go to
      → Kept m (initialiser_then H (object_of laid path (Objects.Local x)) i go)
      (initialiser_then H (object_of laid path (Objects.Local x)) i to)
  initialiser m x n None e h q g go to u = u
  initialiser m x n (Some i) e h q g go to u =
      let o : ℕ = object_of laid path (Objects.Local x) in
      all_cells m o g.0 i.place (object_at laid o).cells 0 i.given (omega arith)
      (stage.objects (Objects.Local x) g.0 g.1 tt) (h, q, g.2) go to u

  local : (m : ℕ) (l : LocalTree) → IsLocal W l → GivenMention defined calls l.initialiser
      → GivesCells W l.object l.initialiser → (go to : After) → Kept m go to
      → Kept m (local_then H l go) (local_then H l to)
  local m l h q g go to u =
      clear_keeps laid stage.tables.few body a m (object_of laid path (Objects.Local l.object))
      _ _ (stage.own l.object h.type h.object)
      (λ v. initialiser m l.object h.type l.initialiser h.object h.given q g go to u)

  all_locals : (m : ℕ) (ls : List LocalTree) → All (IsLocal W) ls
      → All (λ (l : LocalTree). GivenMention defined calls l.initialiser) ls
      → All (λ (l : LocalTree). GivesCells W l.object l.initialiser) ls
      → (go to : After) → Kept m go to → Kept m (locals_then H ls go) (locals_then H ls to)
  all_locals m [] h q g go to u = u
  all_locals m (l ∷ ls) h q g go to u =
      local m l (All-head (IsLocal W) l ls h)
      (All-head (λ (x : LocalTree). GivenMention defined calls x.initialiser) l ls q)
      (All-head (λ (x : LocalTree). GivesCells W x.object x.initialiser) l ls g) _ _
      (all_locals m ls (All-tail (IsLocal W) l ls h)
      (All-tail (λ (x : LocalTree). GivenMention defined calls x.initialiser) l ls q)
      (All-tail (λ (x : LocalTree). GivesCells W x.object x.initialiser) l ls g)
      go to u)

  -- ## Exits

  pub record AreExits (m : ℕ) (loop switch : Bool) (x y : Exits) : Type 0 where
    pub on : Kept m x.on y.on
    pub breaks : (loop || switch) ≡ true → Kept m x.breaks y.breaks
    pub continues : loop ≡ true → Kept m x.continues y.continues
    pub returns : (v : Value) → HasKind laid result_kind v → Kept m (x.returns v) (y.returns v)

  less : (n m : ℕ) (k j : After) → n ≤ m → Kept m k j → Kept n k j
  less n m k j le h = keeps_less laid body a n m k j le h

  -- the exits of the body of a loop
  in_loop : (n m : ℕ) (loop switch : Bool) (x y : Exits) (b b' : After) → n ≤ m → AreExits m loop switch x y
      → Kept n b b' → AreExits n true switch (inside x b) (inside y b')
  in_loop n m loop switch x y b b' le h k = record {
    on = k;
    breaks = λ t. less n m x.on y.on le h.on;
    continues = λ t. k;
    returns = λ v z. less n m (x.returns v) (y.returns v) le (h.returns v z);
  }

  going_on : (m : ℕ) (loop switch : Bool) (x y : Exits) (b b' : After) → AreExits m loop switch x y → Kept m b b'
      → AreExits m loop switch (record x { on = b }) (record y { on = b' })
  going_on m loop switch x y b b' h k =
      record { on = k; breaks = h.breaks; continues = h.continues; returns = h.returns }

  breaking : (m : ℕ) (loop switch : Bool) (x y : Exits) → AreExits m loop switch x y
      → AreExits m loop true (record x { breaks = x.on }) (record y { breaks = y.on })
  breaking m loop switch x y h = record { on = h.on; breaks = λ t. h.on; continues = h.continues; returns = h.returns }

  returned : (m : ℕ) (loop switch : Bool) (e : Option RvalueTree) (x y : Exits) → IsReturned W result e
      → MayMention defined calls e → AreExits m loop switch x y
      → Kept m (returned_then H e x.returns) (returned_then H e y.returns)
  returned m loop switch None x y h q u =
      u.returns nothing (subst (λ (t : CType). HasKind laid (kind_of (kept_sort t)) nothing) (sym h) tt)
  returned m loop switch (Some e) x y h q u =
      expr m (kind_of_scalar h.0) e h.2 q x.returns y.returns
      (λ v z. u.returns v (subst (λ (k : ValueKind). HasKind laid k v)
      (kept_kind (entry W.scope result) (ctype_of W.scope result) h.0 h.1) z))

  -- ## Statements

  mutual
    pub stmt_keeps : (m : ℕ) (loop switch : Bool) (s : TypedTree) → IsStatement W result s
        → StatementMentions defined calls s → IsRegular W loop switch s → (x y : Exits) → AreExits m loop switch x y
        → Kept m (stmt_then H s x) (stmt_then H s y)
    stmt_keeps m loop switch (evaluates e) h q g x y u = unused m e h q x.on y.on u.on
    stmt_keeps m loop switch (declares ls) h q g x y u = all_locals m ls h q g x.on y.on u.on
    stmt_keeps m loop switch (runs_block ss) h q g x y u = block_keeps m loop switch ss h q g x y u
    stmt_keeps m loop switch (branches c s) h q g x y u =
        test m c h.0 q.0 _ _ _ _ (stmt_keeps m loop switch s h.1 q.1 g x y u) u.on
    stmt_keeps m loop switch (branches_else c s t) h q g x y u =
        test m c h.0 q.0 _ _ _ _ (stmt_keeps m loop switch s h.1 q.1 g.0 x y u)
        (stmt_keeps m loop switch t h.2 q.2 g.1 x y u)
    stmt_keeps m loop switch (loops_while c s) h q g x y u =
        loop_keeps laid body a m _ _ (λ n le b b' k.
        test n c h.0 q.0 _ _ _ _ (stmt_keeps n true switch s h.1 q.1 g (inside x b) (inside y b')
        (in_loop n m loop switch x y b b' le u k)) (less n m x.on y.on le u.on))
    stmt_keeps m loop switch (loops_do s c) h q g x y u =
        loop_keeps laid body a m _ _ (λ n le b b' k.
        let j : After = expr_then H c (as_branch b x.on) in
        let j' : After = expr_then H c (as_branch b' y.on) in
        stmt_keeps n true switch s h.1 q.0 g (inside x j) (inside y j')
        (in_loop n m loop switch x y j j' le u (test n c h.0 q.1 b x.on b' y.on k (less n m x.on y.on le u.on))))
    stmt_keeps m loop switch (loops_for f c e s) h q g x y u =
        stmt_keeps m loop switch f h.0 q.0 g.0 _ _
        (going_on m loop switch x y _ _ u
        (loop_keeps laid body a m _ _ (λ n le b b' k.
        let j : After = unused_then H e b in
        let j' : After = unused_then H e b' in
        condition n c h.1 q.1 _ _ _ _
        (stmt_keeps n true switch s h.3 q.3 g.1 (inside x j) (inside y j')
        (in_loop n m loop switch x y j j' le u (unused n e h.2 q.2 b b' k)))
        (less n m x.on y.on le u.on))))
    stmt_keeps m loop switch (selects t e cs) h q g x y u =
        let x' : Exits = record x { breaks = x.on } in
        let y' : Exits = record y { breaks = y.on } in
        let u' : AreExits m loop true x' y' = breaking m loop switch x y u in
        expr m (a_number t) e h.0 q.0 _ _ (λ v z.
        case_keeps m loop true v cs h.1 q.1 g x' y' u' _ _ (default_keeps m loop true cs h.1 q.1 g x' y' u'))
    stmt_keeps m loop switch breaks h q g x y u = u.breaks g
    stmt_keeps m loop switch continues h q g x y u = u.continues g
    stmt_keeps m loop switch (returns e) h q g x y u = returned m loop switch e x y h q u
    stmt_keeps m loop switch (locks n p) h q g x y u = act_keeps laid body a m (Acts.Lock n p) _ _ h (λ z v e. u.on)
    stmt_keeps m loop switch (unlocks n p) h q g x y u = act_keeps laid body a m (Acts.Unlock n p) _ _ h (λ z v e. u.on)
    stmt_keeps m loop switch yields h q g x y u = act_keeps laid body a m Acts.Yield _ _ tt (λ z v e. u.on)

    pub block_keeps : (m : ℕ) (loop switch : Bool) (ss : TypedTrees) → AreStatements W result ss
        → StatementsMention defined calls ss → AreRegular W loop switch ss → (x y : Exits) → AreExits m loop switch x y
        → Kept m (block_then H ss x) (block_then H ss y)
    block_keeps m loop switch no_statements h q g x y u = u.on
    block_keeps m loop switch (and_statement s ss) h q g x y u =
        stmt_keeps m loop switch s h.0 q.0 g.0
        _ _ (going_on m loop switch x y _ _ u (block_keeps m loop switch ss h.1 q.1 g.1 x y u))

    cases_keep : (m : ℕ) (loop switch : Bool) (cs : TypedCases) → AreParts W result cs → CasesMention defined calls cs
        → AreRegularParts W loop switch cs → (x y : Exits) → AreExits m loop switch x y
        → Kept m (cases_then H cs x) (cases_then H cs y)
    cases_keep m loop switch no_typed_cases h q g x y u = u.on
    cases_keep m loop switch (and_typed_case (a_label z p) cs) h q g x y u =
        cases_keep m loop switch cs h.1 q.1 g.1 x y u
    cases_keep m loop switch (and_typed_case (a_default_label p) cs) h q g x y u =
        cases_keep m loop switch cs h.1 q.1 g.1 x y u
    cases_keep m loop switch (and_typed_case (a_labelled_step s) cs) h q g x y u =
        stmt_keeps m loop switch s h.0 q.0 g.0
        _ _ (going_on m loop switch x y _ _ u (cases_keep m loop switch cs h.1 q.1 g.1 x y u))

    case_keeps : (m : ℕ) (loop switch : Bool) (v : Value) (cs : TypedCases) → AreParts W result cs
        → CasesMention defined calls cs → AreRegularParts W loop switch cs → (x y : Exits) → AreExits m loop switch x y
        → (other other' : After) → Kept m other other' → Kept m (case_then H v cs x other) (case_then H v cs y other')
    case_keeps m loop switch v no_typed_cases h q g x y u other other' k = k
    case_keeps m loop switch v (and_typed_case (a_label z p) cs) h q g x y u other other' k =
        if_keeps laid body a m (is_case z v) _ _ _ _ (cases_keep m loop switch cs h.1 q.1 g.1 x y u)
        (case_keeps m loop switch v cs h.1 q.1 g.1 x y u other other' k)
    case_keeps m loop switch v (and_typed_case (a_default_label p) cs) h q g x y u other other' k =
        case_keeps m loop switch v cs h.1 q.1 g.1 x y u other other' k
    case_keeps m loop switch v (and_typed_case (a_labelled_step s) cs) h q g x y u other other' k =
        case_keeps m loop switch v cs h.1 q.1 g.1 x y u other other' k

    default_keeps : (m : ℕ) (loop switch : Bool) (cs : TypedCases) → AreParts W result cs
        → CasesMention defined calls cs → AreRegularParts W loop switch cs → (x y : Exits) → AreExits m loop switch x y
        → Kept m (default_then H cs x) (default_then H cs y)
    default_keeps m loop switch no_typed_cases h q g x y u = u.on
    default_keeps m loop switch (and_typed_case (a_label z p) cs) h q g x y u =
        default_keeps m loop switch cs h.1 q.1 g.1 x y u
    default_keeps m loop switch (and_typed_case (a_default_label p) cs) h q g x y u =
        cases_keep m loop switch cs h.1 q.1 g.1 x y u
    default_keeps m loop switch (and_typed_case (a_labelled_step s) cs) h q g x y u =
        default_keeps m loop switch cs h.1 q.1 g.1 x y u
