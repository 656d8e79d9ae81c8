-- What may be asked of operations, and of the steps, plans and typed trees that they stand in.
use Rattle.std.proofs.Common.{◌≡◌, ℕ, true, List, [], ◌∷◌}
use Rattle.std.specs.Prelude.{ℤ, All, Option, Some, None}
use Rattle.std.proofs.lemmas.List.Elements.{All-nil, All-cons}
use Rattle.concrete_steps.specs.tm_cint.declared.int_types.IntType.{IntType}
use Rattle.concrete_steps.specs.tm_cint.declared.operators.BinOp.{BinOp}
use Rattle.concrete_steps.specs.tm_typed.declared.expressions.Unary.{Unary}
use Rattle.concrete_steps.specs.tm_typed.TypedTrees.{RvalueTree, a_constant, a_folded, a_null, a_load, an_address}
use Rattle.concrete_steps.specs.tm_typed.TypedTrees.{a_structure}
use Rattle.concrete_steps.specs.tm_typed.TypedTrees.{the_same, a_unary, a_binary, a_comparison_of_pointers, a_move}
use Rattle.concrete_steps.specs.tm_typed.TypedTrees.{a_not, an_and}
use Rattle.concrete_steps.specs.tm_typed.TypedTrees.{an_or, a_choice, an_assignment, a_compound, a_compound_move}
use Rattle.concrete_steps.specs.tm_typed.TypedTrees.{a_unit_step}
use Rattle.concrete_steps.specs.tm_typed.TypedTrees.{a_pointer_step, a_function_call, an_input_value, a_probe, a_comma}
use Rattle.concrete_steps.specs.tm_typed.TypedTrees.{a_conversion}
use Rattle.concrete_steps.specs.tm_typed.TypedTrees.{a_discard, LvalueTree, an_object, an_element, a_pointed_element}
use Rattle.concrete_steps.specs.tm_typed.TypedTrees.{a_pointed}
use Rattle.concrete_steps.specs.tm_typed.TypedTrees.{an_arrow, a_part, RvalueTrees, no_rvalues, and_rvalue}
use Rattle.concrete_steps.specs.tm_typed.TypedStatements.{GivenTree, LocalInitialiserTree, LocalTree, TypedTree}
use Rattle.concrete_steps.specs.tm_typed.TypedStatements.{evaluates, declares}
use Rattle.concrete_steps.specs.tm_typed.TypedStatements.{runs_block, branches, branches_else, loops_while, loops_do}
use Rattle.concrete_steps.specs.tm_typed.TypedStatements.{loops_for}
use Rattle.concrete_steps.specs.tm_typed.TypedStatements.{selects, breaks, continues, returns, locks, unlocks, yields}
use Rattle.concrete_steps.specs.tm_typed.TypedStatements.{TypedTrees}
use Rattle.concrete_steps.specs.tm_typed.TypedStatements.{no_statements, and_statement, TypedCase, a_label}
use Rattle.concrete_steps.specs.tm_typed.TypedStatements.{a_default_label}
use Rattle.concrete_steps.specs.tm_typed.TypedStatements.{a_labelled_step, TypedCases, no_typed_cases, and_typed_case}
use Rattle.concrete_steps.specs.tm_typed.Rules.{is_comparison}
use Rattle.concrete_steps.specs.concrete_values.declared.values.Value.{Value}
use Rattle.concrete_steps.specs.concrete_values.declared.values.Value.TheVariants.{Number, Pointer as APointer}
use Rattle.concrete_steps.specs.concrete_values.declared.values.Pointer.TheVariants as Pointers
use Rattle.flow_graph.specs.declared.operations.Test.{Test}
use Rattle.flow_graph.specs.declared.operations.Test.TheVariants as Tests
use Rattle.flow_graph.specs.declared.operations.Operation.{Operation}
use Rattle.flow_graph.specs.declared.operations.Operation.TheVariants as Op
use Rattle.flow_graph.specs.Operations.{negated, opposite}
use Rattle.lowering.specs.Steps.{Steps, no_more, first_then, Step, operate, value_of, only_do, truth_of, choose}
use Rattle.lowering.specs.Steps.{choose_only, call_of, Inputs, no_inputs, and_input, Code, code, Fork, fork_by}
use Rattle.lowering.specs.Steps.{converse}
use Rattle.lowering.specs.Steps.{both_of, either_of, Plan, nothing_more, in_turn, all_steps, one_of, loop_while}
use Rattle.lowering.specs.Steps.{loop_stepping, loop_until, select, break_off, go_on, give_back, Parts, no_parts}
use Rattle.lowering.specs.Steps.{labelled, by_default, and_plan}
use Rattle.lowering.specs.Built.{renamed_test, renamed}

-- ## Operations

-- what is asked of the objects that are cleared, of operators and the types in which they work, of constants, of how
-- numbers are compared, of labels, and of mutexes
pub record Demands : Type 1 where
  pub clears : ℕ → Type 0
  pub unary : Unary → IntType → Type 0
  pub constant : Value → Type 0
  pub compares : BinOp → Type 0
  pub label : ℤ → Type 0
  pub mutex : ℕ → Type 0

abbrev pub TestMeets : Demands → Test → Type 0
TestMeets d (Tests.Numbers operator of left right) = d.compares operator
TestMeets d (Tests.Pointers equal left right) = Unit {0}
TestMeets d (Tests.Truth holds value) = Unit {0}
TestMeets d (Tests.Case holds label value) = d.label label

abbrev pub Meets : Demands → Operation → Type 0
Meets d (Op.Const to value) = d.constant value
Meets d (Op.Un to operator of from place) = d.unary operator of
Meets d (Op.Clear object) = d.clears object
Meets d (Op.Assume test) = TestMeets d test
Meets d (Op.Lock mutex place) = d.mutex mutex
Meets d (Op.Unlock mutex place) = d.mutex mutex
Meets d (Op.Probe to mutex place) = d.mutex mutex
Meets d _ = Unit {0}

-- what no typed tree decides: constants are numbers or lead to no object, and comparisons have opposites
pub record AreUsual (d : Demands) : Type 0 where
  pub number : (z : ℤ) → d.constant (Number z)
  pub null : d.constant (APointer Pointers.Null)
  pub invalid : d.constant (APointer Pointers.Invalid)
  pub comparison : (op : BinOp) → is_comparison op ≡ true → d.compares op
  pub negation : (op : BinOp) → d.compares op → d.compares (negated op)

module _ (d : Demands) where
  pub test_renamed : (f : ℕ → ℕ) (test : Test) → TestMeets d test → TestMeets d (renamed_test f test)
  test_renamed f (Tests.Numbers operator of left right) h = h
  test_renamed f _ h = h

  pub test_opposite : AreUsual d → (test : Test) → TestMeets d test → TestMeets d (opposite test)
  test_opposite u (Tests.Numbers operator of left right) h = u.negation operator h
  test_opposite u _ h = h

  pub meets_renamed : (f : ℕ → ℕ) (to : ℕ) (op : Operation) → Meets d op → Meets d (renamed f to op)
  meets_renamed f to (Op.Assume test) h = test_renamed f test h
  meets_renamed f to _ h = h

-- ## Steps and plans, where this is asked of the sites of calls

module _ (d : Demands) (S : ℕ → Type 0) where
  abbrev mutual
    pub StepsMeet : Steps → Type 0
    StepsMeet no_more = Unit {0}
    StepsMeet (first_then s rest) = StepMeets s × StepsMeet rest

    pub StepMeets : Step → Type 0
    StepMeets (operate op) = Meets d op
    StepMeets (value_of c) = CodeMeets c
    StepMeets (only_do c) = CodeMeets c
    StepMeets (truth_of f) = ForkMeets f
    StepMeets (choose f x y) = ForkMeets f × CodeMeets x × CodeMeets y
    StepMeets (choose_only f x y) = ForkMeets f × CodeMeets x × CodeMeets y
    StepMeets (call_of has site es p) = S site × InputsMeet es

    pub InputsMeet : Inputs → Type 0
    InputsMeet no_inputs = Unit {0}
    InputsMeet (and_input c rest) = CodeMeets c × InputsMeet rest

    pub CodeMeets : Code → Type 0
    CodeMeets (code steps result) = StepsMeet steps

    pub ForkMeets : Fork → Type 0
    ForkMeets (fork_by steps test) = StepsMeet steps × TestMeets d test
    ForkMeets (converse f) = ForkMeets f
    ForkMeets (both_of f g) = ForkMeets f × ForkMeets g
    ForkMeets (either_of f g) = ForkMeets f × ForkMeets g

  abbrev pub MaybeFork : Option Fork → Type 0
  MaybeFork None = Unit {0}
  MaybeFork (Some f) = ForkMeets f

  abbrev pub MaybeCode : Option Code → Type 0
  MaybeCode None = Unit {0}
  MaybeCode (Some c) = CodeMeets c

  abbrev mutual
    pub PlanMeets : Plan → Type 0
    PlanMeets nothing_more = Unit {0}
    PlanMeets (in_turn s s') = PlanMeets s × PlanMeets s'
    PlanMeets (all_steps steps) = StepsMeet steps
    PlanMeets (one_of f s s') = ForkMeets f × PlanMeets s × PlanMeets s'
    PlanMeets (loop_while f s) = ForkMeets f × PlanMeets s
    PlanMeets (loop_stepping f step s) = MaybeFork f × StepsMeet step × PlanMeets s
    PlanMeets (loop_until s f) = PlanMeets s × ForkMeets f
    PlanMeets (select c ps) = CodeMeets c × PartsMeet ps
    PlanMeets break_off = Unit {0}
    PlanMeets go_on = Unit {0}
    PlanMeets (give_back c) = MaybeCode c

    pub PartsMeet : Parts → Type 0
    PartsMeet no_parts = Unit {0}
    PartsMeet (labelled z rest) = d.label z × PartsMeet rest
    PartsMeet (by_default rest) = PartsMeet rest
    PartsMeet (and_plan s rest) = PlanMeets s × PartsMeet rest

-- ## Typed trees, where this is asked of the sites of calls and of local objects

module _ (d : Demands) (S L : ℕ → Type 0) where
  abbrev mutual
    pub Asks : RvalueTree → Type 0
    Asks (a_constant t z p) = Unit {0}
    Asks (a_folded z e) = Asks e
    Asks (a_null p) = Unit {0}
    Asks (a_load s v l) = LvalueAsks l
    Asks (an_address l p) = LvalueAsks l
    Asks (a_structure l) = LvalueAsks l
    Asks (the_same e p) = Asks e
    Asks (a_unary o t e p) = d.unary o t × Asks e
    Asks (a_binary o t l r p) = Asks l × Asks r
    Asks (a_comparison_of_pointers b l r p) = Asks l × Asks r
    Asks (a_move m c f e i p) = Asks e × Asks i
    Asks (a_not e p) = Asks e
    Asks (an_and l r p) = Asks l × Asks r
    Asks (an_or l r p) = Asks l × Asks r
    Asks (a_choice c x y p) = Asks c × Asks x × Asks y
    Asks (an_assignment s l e p) = LvalueAsks l × Asks e
    Asks (a_compound o c t v l e p) = LvalueAsks l × Asks e
    Asks (a_compound_move m c k l e p) = LvalueAsks l × Asks e
    Asks (a_unit_step s c t v l p) = LvalueAsks l
    Asks (a_pointer_step s c k l p) = LvalueAsks l
    Asks (a_function_call f site es p) = S site × AllAsk es
    Asks (an_input_value low high p) = Unit {0}
    Asks (a_probe m p) = d.mutex m
    Asks (a_comma l r p) = Asks l × Asks r
    Asks (a_conversion f t e p) = Asks e
    Asks (a_discard e p) = Asks e

    pub LvalueAsks : LvalueTree → Type 0
    LvalueAsks (an_object o p) = Unit {0}
    LvalueAsks (an_element l i n c p) = LvalueAsks l × Asks i
    LvalueAsks (a_pointed_element e i c t p) = Asks e × Asks i
    LvalueAsks (a_pointed e t p) = Asks e
    LvalueAsks (an_arrow e t c p) = Asks e
    LvalueAsks (a_part l c p) = LvalueAsks l

    pub AllAsk : RvalueTrees → Type 0
    AllAsk no_rvalues = Unit {0}
    AllAsk (and_rvalue e es) = Asks e × AllAsk es

  abbrev pub MayAsk : Option RvalueTree → Type 0
  MayAsk None = Unit {0}
  MayAsk (Some e) = Asks e

  abbrev pub CellsAsk : Option LocalInitialiserTree → Type 0
  CellsAsk None = Unit {0}
  CellsAsk (Some i) = All (λ g. Asks g.value) i.given

  abbrev pub LocalAsks : LocalTree → Type 0
  LocalAsks l = L l.object × CellsAsk l.initialiser

  abbrev mutual
    pub StatementAsks : TypedTree → Type 0
    StatementAsks (evaluates e) = MayAsk e
    StatementAsks (declares ls) = All LocalAsks ls
    StatementAsks (runs_block ss) = StatementsAsk ss
    StatementAsks (branches c s) = Asks c × StatementAsks s
    StatementAsks (branches_else c s r) = Asks c × StatementAsks s × StatementAsks r
    StatementAsks (loops_while c s) = Asks c × StatementAsks s
    StatementAsks (loops_do s c) = StatementAsks s × Asks c
    StatementAsks (loops_for first c step s) = StatementAsks first × MayAsk c × MayAsk step × StatementAsks s
    StatementAsks (selects t e cs) = Asks e × CasesAsk cs
    StatementAsks breaks = Unit {0}
    StatementAsks continues = Unit {0}
    StatementAsks (returns e) = MayAsk e
    StatementAsks (locks m p) = d.mutex m
    StatementAsks (unlocks m p) = d.mutex m
    StatementAsks yields = Unit {0}

    pub StatementsAsk : TypedTrees → Type 0
    StatementsAsk no_statements = Unit {0}
    StatementsAsk (and_statement s ss) = StatementAsks s × StatementsAsk ss

    pub CaseAsks : TypedCase → Type 0
    CaseAsks (a_label z p) = d.label z
    CaseAsks (a_default_label p) = Unit {0}
    CaseAsks (a_labelled_step s) = StatementAsks s

    pub CasesAsk : TypedCases → Type 0
    CasesAsk no_typed_cases = Unit {0}
    CasesAsk (and_typed_case c cs) = CaseAsks c × CasesAsk cs

  -- where all that is asked holds everywhere, it holds of each tree
  pub record Everywhere : Type 0 where
    pub unary : (o : Unary) (t : IntType) → d.unary o t
    pub label : (z : ℤ) → d.label z
    pub mutex : (m : ℕ) → d.mutex m
    pub site : (s : ℕ) → S s
    pub local : (k : ℕ) → L k

  module _ (x : Everywhere) where
    mutual
      any : (e : RvalueTree) → Asks e
      any (a_folded z e) = any e
      any (a_load s v l) = any_lvalue l
      any (an_address l p) = any_lvalue l
      any (a_structure l) = any_lvalue l
      any (the_same e p) = any e
      any (a_unary o t e p) = (x.unary o t, any e)
      any (a_binary o t l r p) = (any l, any r)
      any (a_comparison_of_pointers b l r p) = (any l, any r)
      any (a_move m c f e i p) = (any e, any i)
      any (a_not e p) = any e
      any (an_and l r p) = (any l, any r)
      any (an_or l r p) = (any l, any r)
      any (a_choice c y z p) = (any c, any y, any z)
      any (an_assignment s l e p) = (any_lvalue l, any e)
      any (a_compound o c t v l e p) = (any_lvalue l, any e)
      any (a_compound_move m c k l e p) = (any_lvalue l, any e)
      any (a_unit_step s c t v l p) = any_lvalue l
      any (a_pointer_step s c k l p) = any_lvalue l
      any (a_function_call f site es p) = (x.site site, all_any es)
      any (a_probe m p) = x.mutex m
      any (a_comma l r p) = (any l, any r)
      any (a_conversion f t e p) = any e
      any (a_discard e p) = any e
      any _ = tt

      any_lvalue : (l : LvalueTree) → LvalueAsks l
      any_lvalue (an_object o p) = tt
      any_lvalue (an_element l i n c p) = (any_lvalue l, any i)
      any_lvalue (a_pointed_element e i c t p) = (any e, any i)
      any_lvalue (a_pointed e t p) = any e
      any_lvalue (an_arrow e t c p) = any e
      any_lvalue (a_part l c p) = any_lvalue l

      all_any : (es : RvalueTrees) → AllAsk es
      all_any no_rvalues = tt
      all_any (and_rvalue e es) = (any e, all_any es)

    may_any : (e : Option RvalueTree) → MayAsk e
    may_any None = tt
    may_any (Some e) = any e

    given_any : (gs : List GivenTree) → All (λ g. Asks g.value) gs
    given_any [] = All-nil (λ (g : GivenTree). Asks g.value)
    given_any (g ∷ gs) = All-cons (λ (g : GivenTree). Asks g.value) g gs (any g.value) (given_any gs)

    cells_any : (i : Option LocalInitialiserTree) → CellsAsk i
    cells_any None = tt
    cells_any (Some i) = given_any i.given

    locals_any : (ls : List LocalTree) → All LocalAsks ls
    locals_any [] = All-nil LocalAsks
    locals_any (l ∷ ls) = All-cons LocalAsks l ls (x.local l.object, cells_any l.initialiser) (locals_any ls)

    mutual
      any_statement : (s : TypedTree) → StatementAsks s
      any_statement (evaluates e) = may_any e
      any_statement (declares ls) = locals_any ls
      any_statement (runs_block ss) = any_statements ss
      any_statement (branches c s) = (any c, any_statement s)
      any_statement (branches_else c s r) = (any c, any_statement s, any_statement r)
      any_statement (loops_while c s) = (any c, any_statement s)
      any_statement (loops_do s c) = (any_statement s, any c)
      any_statement (loops_for first c step s) = (any_statement first, may_any c, may_any step, any_statement s)
      any_statement (selects t e cs) = (any e, any_cases cs)
      any_statement (returns e) = may_any e
      any_statement (locks m p) = x.mutex m
      any_statement (unlocks m p) = x.mutex m
      any_statement _ = tt

      pub any_statements : (ss : TypedTrees) → StatementsAsk ss
      any_statements no_statements = tt
      any_statements (and_statement s ss) = (any_statement s, any_statements ss)

      any_case : (c : TypedCase) → CaseAsks c
      any_case (a_label z p) = x.label z
      any_case (a_default_label p) = tt
      any_case (a_labelled_step s) = any_statement s

      any_cases : (cs : TypedCases) → CasesAsk cs
      any_cases no_typed_cases = tt
      any_cases (and_typed_case c cs) = (any_case c, any_cases cs)
