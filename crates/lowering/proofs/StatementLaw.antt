-- The table does what the interpreter does: statements.
use Rattle.std.proofs.Common.{◌≡◌, ℕ, zero, suc, Bool, true, false, List, [], ◌∷◌, refl, sym, ◌∙◌, ap, arith}
use Rattle.std.specs.Prelude.{if◌then◌else◌, Option, Some, None}
use Rattle.std.proofs.Math.Path.{fun_ext}
use Rattle.concrete_steps.specs.tm_terms.declared.places.Place.{Place}
use Rattle.concrete_steps.specs.tm_typed.declared.types.Scalar.{Scalar}
use Rattle.concrete_steps.specs.tm_typed.declared.types.Scalar.TheVariants as Scalars
use Rattle.concrete_steps.specs.tm_typed.declared.scopes.ObjectNumber.TheVariants.{Local}
use Rattle.concrete_steps.specs.tm_typed.TypedTrees.{RvalueTree}
use Rattle.concrete_steps.specs.tm_typed.TypedStatements.{GivenTree, LocalInitialiserTree, LocalTree, TypedTree}
use Rattle.concrete_steps.specs.tm_typed.TypedStatements.{evaluates, declares}
use Rattle.concrete_steps.specs.tm_typed.TypedStatements.{runs_block, branches, branches_else, loops_while, loops_do}
use Rattle.concrete_steps.specs.tm_typed.TypedStatements.{loops_for}
use Rattle.concrete_steps.specs.tm_typed.TypedStatements.{selects, breaks, continues, returns, locks, unlocks, yields}
use Rattle.concrete_steps.specs.tm_typed.TypedStatements.{TypedTrees}
use Rattle.concrete_steps.specs.tm_typed.TypedStatements.{no_statements, and_statement, a_label, a_default_label}
use Rattle.concrete_steps.specs.tm_typed.TypedStatements.{a_labelled_step}
use Rattle.concrete_steps.specs.tm_typed.TypedStatements.{TypedCases, no_typed_cases, and_typed_case}
use Rattle.concrete_steps.specs.tm_laid.Layouts.{LaidTree, object_at, object_of}
use Rattle.concrete_steps.specs.concrete_values.declared.values.Value.{Value}
use Rattle.concrete_steps.specs.concrete_values.Operators.{is_case}
use Rattle.concrete_steps.specs.concrete_values.Pointers.{base, part}
use Rattle.concrete_steps.specs.concrete_values.Actions.{store_at, clear_at}
use Rattle.concrete_steps.proofs.low.concrete_values.Bases.{part_of_base}
use Rattle.concrete_steps.specs.NextAction.{After, act_then, as_value, as_branch, Here, expr_then, unused_then}
use Rattle.concrete_steps.specs.NextAction.{condition_then, scalar_at, zero_of, is_given, cell_then, rest_of}
use Rattle.concrete_steps.specs.NextAction.{cells_then, initialiser_then, local_then, locals_then, Exits, loop_over}
use Rattle.concrete_steps.specs.NextAction.{returned_then, inside, stmt_then, block_then, cases_then, case_then}
use Rattle.concrete_steps.specs.NextAction.{default_then}
use Rattle.lowering.specs.Steps.{Steps, Code, Plan, loop_stepping}
use Rattle.lowering.specs.Table.{call_has_value, codes, nothing_stored, cell_value, cell_code, is_alone}
use Rattle.lowering.specs.Table.{is_scalar_object, cells_stored, initialised, local_steps, locals_steps, effect_steps}
use Rattle.lowering.specs.Table.{optional_fork, optional_code, plan, plans, parts}
use Rattle.lowering.specs.Lowerable.{Used, AllGiven, IsInitialiser, AllLocals, IsEffect, IsTest, IsReturned}
use Rattle.lowering.specs.Lowerable.{HasNoDefault, HasOneDefault, IsStatement, AreStatements, AreCases}
use Rattle.lowering.proofs.Meaning.{Calls, steps_then, code_then, fork_then, optional_fork_then, given_back_then}
use Rattle.lowering.proofs.Meaning.{plan_then, parts_then, label_then, default_part_then}
use Rattle.lowering.proofs.Scopes.{HasResult, InScope, CodeInScope, OptionalFork, OptionalCode, NoDefault, OneDefault}
use Rattle.lowering.proofs.Scopes.{PlanInScope, PartsInScope}
use Rattle.lowering.proofs.Forms.{exact}
use Rattle.lowering.proofs.TableLaw.{law}

module _ (laid : LaidTree) (path : ℕ) (call : Calls) where
  abbrev here : Here
  here = record { laid = laid; path = path; call = call }

  abbrev Scope : ℕ → Steps → Type 0
  Scope n steps = InScope (call_has_value laid path) n steps

  -- ## Local objects

  nothing_law : (s : Scalar) (k : Value → After) → code_then laid call (nothing_stored laid path s) k ≡ k (zero_of s)
  nothing_law (Scalars.Int t) k = refl
  nothing_law (Scalars.Pointer class) k = refl

  cell_value_law : (s : Scalar) (is : Bool) (gs : List GivenTree) → AllGiven laid path gs → (k : Value → After)
      → code_then laid call (cell_value laid path s is gs) k ≡ cell_then here s is gs k
  cell_value_law s true (g ∷ gs) w k = exact laid path call g.value (law laid path call g.value w.0.0) w.0.1 k
  cell_value_law s true [] w k = nothing_law s k
  cell_value_law s false gs w k = nothing_law s k

  cell_value_scope : (s : Scalar) (is : Bool) (gs : List GivenTree) → AllGiven laid path gs
      → CodeInScope (call_has_value laid path) (cell_value laid path s is gs) × HasResult (cell_value laid path s is gs)
  cell_value_scope s true (g ∷ gs) w = let l = law laid path call g.value w.0.0 in (l.value_scope, l.value_result w.0.1)
  cell_value_scope (Scalars.Int t) true [] w = ((((tt, tt), tt), omega arith), tt)
  cell_value_scope (Scalars.Pointer class) true [] w = ((((tt, tt), tt), omega arith), tt)
  cell_value_scope (Scalars.Int t) false gs w = ((((tt, tt), tt), omega arith), tt)
  cell_value_scope (Scalars.Pointer class) false gs w = ((((tt, tt), tt), omega arith), tt)

  -- a cell is stored at its address
  cell_law : (o : ℕ) (p : Place) (k : ℕ) (s : Scalar) (c : Code) (go : After)
      → code_then laid call (cell_code laid path (is_alone laid path o k) o p k s c) (λ v. go)
      ≡ code_then laid call c (λ v. act_then laid (store_at (part laid k (base laid o)) s v p) (λ u. go))
  cell_law o p zero s c go = by_case (is_scalar_object laid path o)
    where
      by_case : (b : Bool) → code_then laid call (cell_code laid path b o p 0 s c) (λ v. go) ≡ code_then laid call c
          (λ v. act_then laid (store_at (part laid 0 (base laid o)) s v p) (λ u. go))
      by_case true = ap (λ z. code_then laid call c (λ v. act_then laid (store_at z s v p) (λ u. go)))
          (sym (part_of_base laid o))
      by_case false = refl
  cell_law o p (suc k) s c go = refl

  cell_scope : (alone : Bool) (o : ℕ) (p : Place) (k : ℕ) (s : Scalar) (c : Code)
      → CodeInScope (call_has_value laid path) c → HasResult c
      → CodeInScope (call_has_value laid path) (cell_code laid path alone o p k s c)
  cell_scope true o p k s c sc hc = (((tt, tt), ((sc, hc), (((omega arith, (omega arith, tt)), tt), tt))), tt)
  cell_scope false o p k s c sc hc =
      (((tt, tt), (((omega arith, tt), tt), ((sc, hc), (((omega arith, (omega arith, tt)), tt), tt)))), tt)

  rest_given : (is : Bool) (gs : List GivenTree) → AllGiven laid path gs → AllGiven laid path (rest_of is gs)
  rest_given true (g ∷ gs) w = w.1
  rest_given true [] w = w
  rest_given false gs w = w

  -- steps that go on so whatever stands before them
  record StepsLaw (steps : Steps) (means : After → After) (rest : Steps) : Type 0 where
    pub law : (vs : List Value) (go : After) → steps_then laid call steps vs (λ ws. go) ≡ means
        (steps_then laid call rest vs (λ ws. go))
    pub scope : (n : ℕ) → Scope n rest → Scope n steps

  cells_law : (o : ℕ) (p : Place) (n k : ℕ) (gs : List GivenTree) (rest : Steps) → AllGiven laid path gs
      → StepsLaw (cells_stored laid path o p n k gs rest) (λ go. cells_then here o p n k gs go) rest
  cells_law o p zero k gs rest w = record { law = λ vs go. refl; scope = λ n s. s }
  cells_law o p (suc n) k gs rest w =
      let s = scalar_at laid o k in
      let r = cells_law o p n (suc k) (rest_of (is_given k gs) gs) rest (rest_given (is_given k gs) gs w) in
      let c = cell_value laid path s (is_given k gs) gs in
      let sc = cell_value_scope s (is_given k gs) gs w in
      record {
        law = λ vs go.
            cell_law o p k s c (steps_then laid call
            (cells_stored laid path o p n (suc k) (rest_of (is_given k gs) gs) rest) vs (λ ws. go))
            ∙ (ap (λ z. code_then laid call c (λ v. act_then laid (store_at (part laid k (base laid o)) s v p)
            (λ u. z))) (r.law vs go)
            ∙ cell_value_law s (is_given k gs) gs w (λ v. act_then laid (store_at (part laid k (base laid o)) s v p)
            (λ u.
            cells_then here o p n (suc k) (rest_of (is_given k gs) gs) (steps_then laid call rest vs (λ ws. go)))));
        scope = λ m q. (cell_scope (is_alone laid path o k) o p k s c sc.0 sc.1, r.scope m q);
      }

  initialised_law : (o : ℕ) (i : Option LocalInitialiserTree) (rest : Steps) → IsInitialiser laid path i
      → StepsLaw (initialised laid path o i rest) (λ go. initialiser_then here o i go) rest
  initialised_law o None rest w = record { law = λ vs go. refl; scope = λ n s. s }
  initialised_law o (Some i) rest w = cells_law o i.place (object_at laid o).cells 0 i.given rest w

  local_law : (l : LocalTree) (rest : Steps) → IsInitialiser laid path l.initialiser
      → StepsLaw (local_steps laid path l rest) (λ go. local_then here l go) rest
  local_law l rest w =
      let o = object_of laid path (Local l.object) in
      let r = initialised_law o l.initialiser rest w in
      record {
        law = λ vs go. ap (λ z. act_then laid (clear_at laid o) (λ u. z)) (r.law vs go);
        scope = λ n s. ((tt, tt), r.scope n s);
      }

  locals_law : (ls : List LocalTree) → AllLocals laid path ls
      → ((vs : List Value) (go : After) → steps_then laid call (locals_steps laid path ls) vs
      (λ ws. go) ≡ locals_then here ls go) × ((n : ℕ) → Scope n (locals_steps laid path ls))
  locals_law [] w = (λ vs go. refl, λ n. tt)
  locals_law (l ∷ ls) w =
      let r = locals_law ls w.1 in
      let h = local_law l (locals_steps laid path ls) w.0 in
      (λ vs go. h.law vs go ∙ ap (λ z. local_then here l z) (r.0 vs go), λ n. h.scope n (r.1 n))

  -- ## Parts of statements

  effect_law : (e : Option RvalueTree) → IsEffect laid path e → (go : After) → steps_then laid call
      (effect_steps laid path e) [] (λ vs. go) ≡ unused_then here e go
  effect_law None w go = refl
  effect_law (Some e) w go = (law laid path call e w).value (λ v. go)

  effect_scope : (e : Option RvalueTree) → IsEffect laid path e → Scope 0 (effect_steps laid path e)
  effect_scope None w = tt
  effect_scope (Some e) w = ((law laid path call e w).value_scope, tt)

  fork_law : (e : RvalueTree) → Used laid path e → (one other : After) → fork_then laid call
      (codes laid path e).fork one other ≡ expr_then here e (as_branch one other)
  fork_law e w one other = (law laid path call e w.0).fork w.1 one other

  fork_both : (e : RvalueTree) → Used laid path e → {one one' other other' : After} → one ≡ one' → other ≡ other'
      → fork_then laid call (codes laid path e).fork one other ≡ expr_then here e (as_branch one' other')
  fork_both e w {one} {one'} {other} {other'} p q =
      ap (λ z. fork_then laid call (codes laid path e).fork z other) p
      ∙ (ap (λ z. fork_then laid call (codes laid path e).fork one' z) q ∙ fork_law e w one' other')

  test_both : (e : Option RvalueTree) → IsTest laid path e → {one one' other other' : After} → one ≡ one'
      → other ≡ other'
      → optional_fork_then laid call (optional_fork laid path e) one other ≡ condition_then here e one' other'
  test_both None w p q = p
  test_both (Some e) w p q = fork_both e w p q

  test_scope : (e : Option RvalueTree) → IsTest laid path e → OptionalFork (call_has_value laid path)
      (optional_fork laid path e)
  test_scope None w = tt
  test_scope (Some e) w = (law laid path call e w.0).fork_scope w.1

  loop_law : {f g : After → After} → ((k : After) → f k ≡ g k) → loop_over f ≡ loop_over g
  loop_law h = ap loop_over (fun_ext h)

  returned_law : (valued : Bool) (e : Option RvalueTree) → IsReturned laid path valued e → (go : Value → After)
      → given_back_then laid call (optional_code laid path e) go ≡ returned_then here e go
  returned_law valued None w go = refl
  returned_law valued (Some e) w go = exact laid path call e (law laid path call e w.0) w.1 go

  returned_scope : (valued : Bool) (e : Option RvalueTree) → IsReturned laid path valued e
      → OptionalCode (call_has_value laid path) valued (optional_code laid path e)
  returned_scope valued None w = w
  returned_scope valued (Some e) w = let l = law laid path call e w.0 in (l.value_scope, l.value_result w.1)

  no_default : (cs : TypedCases) → HasNoDefault laid path cs → NoDefault (call_has_value laid path) (parts laid path cs)
  no_default no_typed_cases w = tt
  no_default (and_typed_case (a_label z p) cs) w = no_default cs w
  no_default (and_typed_case (a_default_label p) cs) w = absurd w
  no_default (and_typed_case (a_labelled_step s) cs) w = no_default cs w

  one_default : (cs : TypedCases) → HasOneDefault laid path cs → OneDefault (call_has_value laid path)
      (parts laid path cs)
  one_default no_typed_cases w = tt
  one_default (and_typed_case (a_label z p) cs) w = one_default cs w
  one_default (and_typed_case (a_default_label p) cs) w = no_default cs w
  one_default (and_typed_case (a_labelled_step s) cs) w = one_default cs w

  -- ## Statements

  module _ (valued : Bool) where
    mutual
      pub statement_law : (s : TypedTree) (br co : Bool) → IsStatement laid path valued br co s → (exits : Exits)
          → plan_then laid call (plan laid path s) exits ≡ stmt_then here s exits
      statement_law (evaluates e) br co w exits = effect_law e w exits.on
      statement_law (declares ls) br co w exits = (locals_law ls w).0 [] exits.on
      statement_law (runs_block ss) br co w exits = block_law ss br co w exits
      statement_law (branches c s) br co w exits = fork_both c w.0 (statement_law s br co w.1 exits) refl
      statement_law (branches_else c s r) br co w exits = fork_both c w.0 (statement_law s br co w.1 exits)
          (statement_law r br co w.2 exits)
      statement_law (loops_while c s) br co w exits =
          loop_law (λ back. fork_both c w.0 {other = exits.on} (statement_law s true true w.1 (inside exits back)) refl)
      statement_law (loops_do s c) br co w exits =
          loop_law (λ back. statement_law s true true w.0
          (inside exits (fork_then laid call (codes laid path c).fork back exits.on))
          ∙ ap (λ z. stmt_then here s (inside exits z)) (fork_law c w.1 back exits.on))
      statement_law (loops_for first c step s) br co w exits =
          statement_law first br co w.0 (record exits { on = plan_then laid call (plan_of_loop c step s) exits })
          ∙ ap (λ z. stmt_then here first (record exits { on = z }))
          (loop_law (λ back. test_both c w.1 {other = exits.on}
          (statement_law s true true w.3
          (inside exits (steps_then laid call (effect_steps laid path step) [] (λ vs. back)))
          ∙ ap (λ z. stmt_then here s (inside exits z)) (effect_law step w.2 back)) refl))
        where
          plan_of_loop : Option RvalueTree → Option RvalueTree → TypedTree → Plan
          plan_of_loop c step s = loop_stepping (optional_fork laid path c) (effect_steps laid path step)
              (plan laid path s)
      statement_law (selects t e cs) br co w exits =
          exact laid path call e (law laid path call e w.0.0) w.0.1
          (λ v. label_then laid call v (parts laid path cs) (record exits { breaks = exits.on })
          (default_part_then laid call (parts laid path cs) (record exits { breaks = exits.on })))
          ∙ ap (λ k. expr_then here e (as_value k)) (fun_ext (λ v.
          label_law cs true co w.2 v (record exits { breaks = exits.on })
          (default_part_then laid call (parts laid path cs) (record exits { breaks = exits.on }))
          ∙ ap (λ z. case_then here v cs (record exits { breaks = exits.on }) z)
          (default_law cs true co w.2 (record exits { breaks = exits.on }))))
      statement_law breaks br co w exits = refl
      statement_law continues br co w exits = refl
      statement_law (returns e) br co w exits = returned_law valued e w exits.returns
      statement_law (locks m p) br co w exits = refl
      statement_law (unlocks m p) br co w exits = refl
      statement_law yields br co w exits = refl

      pub block_law : (ss : TypedTrees) (br co : Bool) → AreStatements laid path valued br co ss → (exits : Exits)
          → plan_then laid call (plans laid path ss) exits ≡ block_then here ss exits
      block_law no_statements br co w exits = refl
      block_law (and_statement s ss) br co w exits =
          statement_law s br co w.0 (record exits { on = plan_then laid call (plans laid path ss) exits })
          ∙ ap (λ z. stmt_then here s (record exits { on = z })) (block_law ss br co w.1 exits)

      cases_law : (cs : TypedCases) (br co : Bool) → AreCases laid path valued br co cs → (exits : Exits)
          → parts_then laid call (parts laid path cs) exits ≡ cases_then here cs exits
      cases_law no_typed_cases br co w exits = refl
      cases_law (and_typed_case (a_label z p) cs) br co w exits = cases_law cs br co w.1 exits
      cases_law (and_typed_case (a_default_label p) cs) br co w exits = cases_law cs br co w.1 exits
      cases_law (and_typed_case (a_labelled_step s) cs) br co w exits =
          statement_law s br co w.0 (record exits { on = parts_then laid call (parts laid path cs) exits })
          ∙ ap (λ z. stmt_then here s (record exits { on = z })) (cases_law cs br co w.1 exits)

      label_law : (cs : TypedCases) (br co : Bool) → AreCases laid path valued br co cs → (v : Value) (exits : Exits)
          (other : After) → label_then laid call v (parts laid path cs) exits other ≡ case_then here v cs exits other
      label_law no_typed_cases br co w v exits other = refl
      label_law (and_typed_case (a_label z p) cs) br co w v exits other =
          ap (λ k. if is_case z v then k else label_then laid call v (parts laid path cs) exits other)
          (cases_law cs br co w.1 exits)
          ∙ ap (λ k. if is_case z v then cases_then here cs exits else k) (label_law cs br co w.1 v exits other)
      label_law (and_typed_case (a_default_label p) cs) br co w v exits other = label_law cs br co w.1 v exits other
      label_law (and_typed_case (a_labelled_step s) cs) br co w v exits other = label_law cs br co w.1 v exits other

      default_law : (cs : TypedCases) (br co : Bool) → AreCases laid path valued br co cs → (exits : Exits)
          → default_part_then laid call (parts laid path cs) exits ≡ default_then here cs exits
      default_law no_typed_cases br co w exits = refl
      default_law (and_typed_case (a_label z p) cs) br co w exits = default_law cs br co w.1 exits
      default_law (and_typed_case (a_default_label p) cs) br co w exits = cases_law cs br co w.1 exits
      default_law (and_typed_case (a_labelled_step s) cs) br co w exits = default_law cs br co w.1 exits

    mutual
      pub statement_scope : (s : TypedTree) (br co : Bool) → IsStatement laid path valued br co s
          → PlanInScope (call_has_value laid path) valued br co (plan laid path s)
      statement_scope (evaluates e) br co w = effect_scope e w
      statement_scope (declares ls) br co w = (locals_law ls w).1 0
      statement_scope (runs_block ss) br co w = block_scope ss br co w
      statement_scope (branches c s) br co w =
          ((law laid path call c w.0.0).fork_scope w.0.1, statement_scope s br co w.1, tt)
      statement_scope (branches_else c s r) br co w =
          ((law laid path call c w.0.0).fork_scope w.0.1, statement_scope s br co w.1, statement_scope r br co w.2)
      statement_scope (loops_while c s) br co w =
          ((law laid path call c w.0.0).fork_scope w.0.1, statement_scope s true true w.1)
      statement_scope (loops_do s c) br co w =
          (statement_scope s true true w.0, (law laid path call c w.1.0).fork_scope w.1.1)
      statement_scope (loops_for first c step s) br co w =
          (statement_scope first br co w.0, (test_scope c w.1, effect_scope step w.2, statement_scope s true true w.3))
      statement_scope (selects t e cs) br co w = let l = law laid path call e w.0.0 in
          (l.value_scope, l.value_result w.0.1, one_default cs w.1, cases_scope cs true co w.2)
      statement_scope breaks br co w = w
      statement_scope continues br co w = w
      statement_scope (returns e) br co w = returned_scope valued e w
      statement_scope (locks m p) br co w = ((tt, tt), tt)
      statement_scope (unlocks m p) br co w = ((tt, tt), tt)
      statement_scope yields br co w = ((tt, tt), tt)

      pub block_scope : (ss : TypedTrees) (br co : Bool) → AreStatements laid path valued br co ss
          → PlanInScope (call_has_value laid path) valued br co (plans laid path ss)
      block_scope no_statements br co w = tt
      block_scope (and_statement s ss) br co w = (statement_scope s br co w.0, block_scope ss br co w.1)

      cases_scope : (cs : TypedCases) (br co : Bool) → AreCases laid path valued br co cs
          → PartsInScope (call_has_value laid path) valued br co (parts laid path cs)
      cases_scope no_typed_cases br co w = tt
      cases_scope (and_typed_case (a_label z p) cs) br co w = cases_scope cs br co w.1
      cases_scope (and_typed_case (a_default_label p) cs) br co w = cases_scope cs br co w.1
      cases_scope (and_typed_case (a_labelled_step s) cs) br co w =
          (statement_scope s br co w.0, cases_scope cs br co w.1)
